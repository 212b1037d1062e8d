-- What stands in a draft by the signs that were read.
use Rattle.std.proofs.Common.{◌≡◌, ◌∙◌, ◌<◌, ◌≤◌, ◌+◌, ◌-◌, ◌&&◌, ◌||◌, ℕ, Bool, true, false, not, List, [], ◌∷◌, ◌++◌, length, take, drop, nat_eq, get_or, Some, None, Result, Ok, Err, IfErr, IfOk, refl, sym, ap, subst, arith, append_assoc, inl, inr}
use Rattle.std.specs.List.{fold}
use Rattle.std.specs.Prelude.{codes, slice_get}
use Rattle.std.proofs.lemmas.List.{append-nil, drop_more, get_or_append_left, take-append-drop}
use Rattle.std.proofs.lemmas.Option.{get_or_from_slice_get, slice_get-get_or, slice_get_within}
use Rattle.std.proofs.lemmas.List.Sums.{fold-append}
use Rattle.std.proofs.lemmas.Bool.Decides.{nat_tests}
use Rattle.std.proofs.Math.Seq.{drop-length, get_or-append_seam}
use Rattle.rd_state.specs.Snapshot.{Snapshot}
use Rattle.rd_names.specs.Apps.{AppView}
use Rattle.rd_goal.specs.Goals.{truth_among, truth_of, truths_of}
use Rattle.rd_goal.specs.declared.claim.Claim.{Claim}
use Rattle.rd_goal.specs.declared.goal.GoalRow.{GoalRow}
use Rattle.rd_goal.specs.declared.goal.GoalRow.TheVariants as row
use Rattle.rd_goal.specs.declared.reading.PendingOperator.{PendingOperator}
use Rattle.rd_goal.specs.declared.reading.PendingOperator.TheVariants as operator
use Rattle.rd_goal.specs.Reading.{Ands, AreBegun, Denies, DraftView, EndsIn, HasFormula, IsBegunOn, IsJoined, IsRead, IsRowFor, IsSettled, Reads, IsWanting, Opens, Ors, Unfinished, WordsView, last_strength, least_behind, operator_of, signs_begun, strength_of, unread, with_row}
use Rattle.rd_goal.specs.Written.{AllOf, AnyOf, Claimed, Denied, Formula, Grouped, IsForm, IsGoalOfWords, Sign, StandFor, and_sign, close_sign, is_true_in, not_sign, open_sign, or_sign, signs_of, IsCutOff, Itself, WantsFormula}

-- ---- rows

-- one row more has one truth more
truths-more : (s : Snapshot) (rows : List GoalRow) (more : GoalRow)
    → truths_of s (rows ++ more ∷ []) ≡ truths_of s rows ++ truth_of s (truths_of s rows) more ∷ []
truths-more s rows more = fold-append (λ truths r. truths ++ truth_of s truths r ∷ []) [] rows (more ∷ [])

length-more : {X : Type 0} (xs : List X) (x : X) → length (xs ++ x ∷ []) ≡ length xs + 1
length-more [] x = refl
length-more (y ∷ xs) x = let more = length-more xs x in omega (arith, more)

fold-length : (s : Snapshot) (truths : List Bool) (rows : List GoalRow)
    → length (fold (λ those r. those ++ truth_of s those r ∷ []) truths rows) ≡ length truths + length rows
fold-length s truths [] = omega arith
fold-length s truths (r ∷ rows) =
    let one = length-more truths (truth_of s truths r) in
    let others = fold-length s (truths ++ truth_of s truths r ∷ []) rows in
    omega (arith, one, others)

truths-length : (s : Snapshot) (rows : List GoalRow) → length (truths_of s rows) ≡ length rows
truths-length s rows = let all = fold-length s [] rows in omega (arith, all)

-- the truth of a row stays where one comes behind it
truth-stays : (s : Snapshot) (rows : List GoalRow) (more : GoalRow) (at : ℕ) → at < length rows
    → truth_among (truths_of s (rows ++ more ∷ [])) at ≡ truth_among (truths_of s rows) at
truth-stays s rows more at within =
    ap (λ truths. truth_among truths at) (truths-more s rows more)
    ∙ get_or_append_left (truths_of s rows) (truth_of s (truths_of s rows) more ∷ []) false at (let many = truths-length s rows in omega (arith, within, many))

-- the last row's truth is by those before
truth-last : (s : Snapshot) (rows : List GoalRow) (more : GoalRow)
    → truth_among (truths_of s (rows ++ more ∷ [])) (length rows) ≡ truth_of s (truths_of s rows) more
truth-last s rows more =
    ap (λ truths. truth_among truths (length rows)) (truths-more s rows more)
    ∙ ap (λ at. truth_among (truths_of s rows ++ truth_of s (truths_of s rows) more ∷ []) at) (sym (truths-length s rows))
    ∙ get_or-append_seam (truths_of s rows) (truth_of s (truths_of s rows) more) [] false

row-stays : (rows : List GoalRow) (more : GoalRow) (formula : Formula) (at : ℕ) → IsRowFor rows formula at → IsRowFor (rows ++ more ∷ []) formula at
row-stays rows more formula at h = record {
  within = let many = length-more rows more in let was = h.within in omega (arith, many, was);
  truth = λ s. truth-stays s rows more at h.within ∙ h.truth s;
}

row-last : (rows : List GoalRow) (more : GoalRow) (formula : Formula)
    → ((s : Snapshot) → truth_of s (truths_of s rows) more ≡ is_true_in s formula) → IsRowFor (rows ++ more ∷ []) formula (length rows)
row-last rows more formula truth = record {
  within = let many = length-more rows more in omega (arith, many);
  truth = λ s. truth-last s rows more ∙ truth s;
}

-- ---- what is begun

begun_on-stays : (rows : List GoalRow) (more : GoalRow) (last : Unfinished) (below operands : List ℕ) → IsBegunOn rows last below operands
    → IsBegunOn (rows ++ more ∷ []) last below operands
begun_on-stays rows more Opens below operands h = h
begun_on-stays rows more Denies below operands h = h
begun_on-stays rows more (Ands one) below operands h = (h.0, h.1, row-stays rows more one h.0 h.2, h.3, h.4)
begun_on-stays rows more (Ors one) below operands h = (h.0, h.1, row-stays rows more one h.0 h.2, h.3)

begun-stays : (rows : List GoalRow) (more : GoalRow) (begun : List Unfinished) (pending : List PendingOperator) (operands : List ℕ)
    → AreBegun rows begun pending operands → AreBegun (rows ++ more ∷ []) begun pending operands
begun-stays rows more [] pending operands h = h
begun-stays rows more (last ∷ before) pending operands h =
    (h.0, h.1, begun-stays rows more before h.0 h.1 h.2, h.3, h.4, begun_on-stays rows more last h.1 operands h.5)

-- ---- lists by their last

not_empty : {X : Type 0} (xs : List X) (x : X) → xs ++ x ∷ [] ≡ [] → ⊥
not_empty xs x h = let many = length-more xs x in let none = ap length h in omega (arith, many, none)

pub same_last : {X : Type 0} (xs ys : List X) (x y : X) → xs ++ x ∷ [] ≡ ys ++ y ∷ [] → (xs ≡ ys) × (x ≡ y)
same_last [] [] x y h = (refl, cc)
same_last [] (b ∷ ys) x y h = let rest : [] ≡ ys ++ y ∷ [] = cc in absurd (not_empty ys y (sym rest))
same_last (a ∷ xs) [] x y h = let rest : xs ++ x ∷ [] ≡ [] = cc in absurd (not_empty xs x rest)
same_last (a ∷ xs) (b ∷ ys) x y h =
    let rest : xs ++ x ∷ [] ≡ ys ++ y ∷ [] = cc in
    let first : a ≡ b = cc in
    let more = same_last xs ys x y rest in
    (ap (λ z. z ∷ xs) first ∙ ap (λ zs. b ∷ zs) more.0, more.1)

pub last_split : {X : Type 0} (xs : List X) (x : X) → slice_get xs (length xs - 1) ≡ Some x → xs ≡ take (length xs - 1) xs ++ x ∷ []
last_split xs x is =
    sym (take-append-drop (length xs - 1) xs)
    ∙ ap (λ rest. take (length xs - 1) xs ++ rest) (drop_more xs (length xs - 1) x within
    ∙ ap (λ y. y ∷ drop (length xs - 1 + 1) xs) (get_or_from_slice_get xs (length xs - 1) x x is)
    ∙ ap (λ rest. x ∷ rest) (ap (λ n. drop n xs) all ∙ drop-length xs))
  where
    within : length xs - 1 < length xs
    within = slice_get_within xs (length xs - 1) x is

    all : length xs - 1 + 1 ≡ length xs
    all = let some = within in omega (arith, some)

pub no_items : {X : Type 0} (xs : List X) → true ≡ nat_eq (length xs) 0 → xs ≡ []
no_items [] is = refl
no_items (x ∷ xs) is = absurd (grind (arith, nat_tests, is))

pub none_left : {X : Type 0} (xs : List X) (many all : ℕ) → length xs + many ≤ all → all ≤ many → xs ≡ []
none_left [] many all within over = refl
none_left (x ∷ xs) many all within over = absurd (omega (arith, within, over))

pub last_none : {X : Type 0} (xs : List X) → slice_get xs (length xs - 1) ≡ None → xs ≡ []
last_none [] is = refl
last_none (x ∷ xs) is =
    let there = slice_get-get_or (x ∷ xs) (length (x ∷ xs) - 1) x (omega arith) in
    let bad : None ≡ Some (get_or (x ∷ xs) (length (x ∷ xs) - 1) x) = sym is ∙ there in
    absurd cc

-- ---- signs

joined_signs : (before one : List Sign) (sign : Sign) (other : List Sign)
    → (before ++ (one ++ sign ∷ [])) ++ other ≡ before ++ (one ++ sign ∷ other)
joined_signs before one sign other =
    append_assoc before (one ++ sign ∷ []) other ∙ ap (λ (those : List Sign). before ++ those) (append_assoc one (sign ∷ []) other)

-- ---- how much is wanted

least_small : (begun : List Unfinished) → least_behind begun ≤ 3
least_small [] = omega arith
least_small (Opens ∷ before) = omega arith
least_small (Denies ∷ before) = omega arith
least_small (Ands one ∷ before) = omega arith
least_small (Ors one ∷ before) = omega arith

least_behind-or : (begun : List Unfinished) → last_strength begun < 2 → least_behind begun ≤ 2
least_behind-or [] weak = omega arith
least_behind-or (Opens ∷ before) weak = omega arith
least_behind-or (Denies ∷ before) weak = absurd (omega (arith, weak))
least_behind-or (Ands one ∷ before) weak = absurd (omega (arith, weak))
least_behind-or (Ors one ∷ before) weak = omega arith

least_behind-open : (begun : List Unfinished) → last_strength begun < 1 → least_behind begun ≤ 1
least_behind-open [] weak = omega arith
least_behind-open (Opens ∷ before) weak = omega arith
least_behind-open (Denies ∷ before) weak = absurd (omega (arith, weak))
least_behind-open (Ands one ∷ before) weak = absurd (omega (arith, weak))
least_behind-open (Ors one ∷ before) weak = absurd (omega (arith, weak))

-- ---- words make no difference

pub wanting-words : (words : WordsView) (draft : DraftView) (signs : List Sign) → IsWanting draft signs → IsWanting (record draft { words = words }) signs
wanting-words words draft signs h = record { begun = h.begun; waits = h.waits; written = h.written }

pub formula-words : (words : WordsView) (draft : DraftView) (least : ℕ) (signs : List Sign) → HasFormula least draft signs
    → HasFormula least (record draft { words = words }) signs
formula-words words draft least signs h = (
  h.0,
  record {
    formula = h.1.formula;
    proper = h.1.proper;
    binds = h.1.binds;
    fits = h.1.fits;
    row = h.1.row;
    is_row = h.1.is_row;
    is_last = h.1.is_last;
    below = h.1.below;
    operands = h.1.operands;
    waits = h.1.waits;
    written = h.1.written;
  },
)

weaker-by : (least more : ℕ) (draft : DraftView) (signs : List Sign) (begun : List Unfinished) → least ≤ more → EndsIn begun more draft signs
    → EndsIn begun least draft signs
weaker-by least more draft signs begun less e = record {
  formula = e.formula;
  proper = e.proper;
  binds = let was = e.binds in omega (arith, less, was);
  fits = e.fits;
  row = e.row;
  is_row = e.is_row;
  is_last = e.is_last;
  below = e.below;
  operands = e.operands;
  waits = e.waits;
  written = e.written;
}

pub weaker : (least more : ℕ) (draft : DraftView) (signs : List Sign) → least ≤ more → HasFormula more draft signs → HasFormula least draft signs
weaker least more draft signs less h = (h.0, weaker-by least more draft signs h.0 less h.1)

-- ---- what begins a formula

pub denies : (draft : DraftView) (signs : List Sign) → IsWanting draft signs
    → IsWanting (record draft { pending = draft.pending ++ operator.Not ∷ [] }) (signs ++ not_sign ∷ [])
denies draft signs h = record {
  begun = Denies ∷ h.begun;
  waits = (draft.pending, draft.operands, h.waits, tt, refl, refl);
  written = ap (λ (those : List Sign). those ++ not_sign ∷ []) h.written;
}

pub opens : (draft : DraftView) (signs : List Sign) → IsWanting draft signs
    → IsWanting (record draft { pending = draft.pending ++ operator.Open ∷ [] }) (signs ++ open_sign ∷ [])
opens draft signs h = record {
  begun = Opens ∷ h.begun;
  waits = (draft.pending, draft.operands, h.waits, tt, refl, refl);
  written = ap (λ (those : List Sign). those ++ open_sign ∷ []) h.written;
}

pub claimed : (draft : DraftView) (signs more : List Sign) (claim : Claim) → IsForm claim more → IsWanting draft signs
    → HasFormula 3 (with_row draft draft.operands (row.Says claim)) (signs ++ more)
claimed draft signs more claim form h = (
  h.begun,
  record {
    formula = Claimed claim more;
    proper = form;
    binds = omega arith;
    fits = least_small h.begun;
    row = length draft.rows;
    is_row = row-last draft.rows (row.Says claim) (Claimed claim more) (λ s. refl);
    is_last = sym (length-more draft.rows (row.Says claim));
    below = draft.operands;
    operands = refl;
    waits = begun-stays draft.rows (row.Says claim) h.begun draft.pending draft.operands h.waits;
    written = ap (λ (those : List Sign). those ++ more) h.written;
  },
)

-- ---- what stands behind a formula

pub ands : (draft : DraftView) (signs : List Sign) → IsSettled 2 draft signs
    → IsWanting (record draft { pending = draft.pending ++ operator.Both ∷ [] }) (signs ++ and_sign ∷ [])
ands draft signs h = record {
  begun = Ands h.2.formula ∷ h.0;
  waits = (draft.pending, h.2.below, h.2.waits, h.1, refl, (h.2.row, h.2.operands, h.2.is_row, h.2.proper, h.2.binds));
  written = ap (λ (those : List Sign). those ++ and_sign ∷ []) h.2.written ∙ append_assoc (signs_begun h.0) (signs_of h.2.formula) (and_sign ∷ []);
}

pub ors : (draft : DraftView) (signs : List Sign) → IsSettled 1 draft signs
    → IsWanting (record draft { pending = draft.pending ++ operator.Either ∷ [] }) (signs ++ or_sign ∷ [])
ors draft signs h = record {
  begun = Ors h.2.formula ∷ h.0;
  waits = (draft.pending, h.2.below, h.2.waits, h.1, refl, (h.2.row, h.2.operands, h.2.is_row, h.2.proper));
  written = ap (λ (those : List Sign). those ++ or_sign ∷ []) h.2.written ∙ append_assoc (signs_begun h.0) (signs_of h.2.formula) (or_sign ∷ []);
}

-- a parenthesis is closed where one waits, and nothing else
closes-by : (draft : DraftView) (signs : List Sign) (rest : List PendingOperator) (op : PendingOperator) (begun : List Unfinished)
    → draft.pending ≡ rest ++ op ∷ [] → last_strength begun < 1 → EndsIn begun 1 draft signs
    → HasFormula 3 (record draft { pending = rest }) (signs ++ close_sign ∷ [])
closes-by draft signs rest op [] pending weak e = absurd (not_empty rest op (sym pending ∙ e.waits.0))
closes-by draft signs rest op (Opens ∷ before) pending weak e =
    let same = same_last rest e.waits.0 op operator.Open (sym pending ∙ e.waits.4) in (
      before,
      record {
        formula = Grouped e.formula;
        proper = e.proper;
        binds = omega arith;
        fits = least_small before;
        row = e.row;
        is_row = record { within = e.is_row.within; truth = e.is_row.truth };
        is_last = e.is_last;
        below = e.below;
        operands = e.operands;
        waits =
            subst (λ (below : List ℕ). AreBegun draft.rows before rest below) (sym e.waits.5)
            (subst (λ (those : List PendingOperator). AreBegun draft.rows before those e.waits.1) (sym same.0) e.waits.2);
        written =
            ap (λ (those : List Sign). those ++ close_sign ∷ []) (e.written ∙ append_assoc (signs_begun before) (open_sign ∷ []) (signs_of e.formula))
            ∙ append_assoc (signs_begun before) (open_sign ∷ signs_of e.formula) (close_sign ∷ []);
      },
    )
closes-by draft signs rest op (Denies ∷ before) pending weak e = absurd (omega (arith, weak))
closes-by draft signs rest op (Ands one ∷ before) pending weak e = absurd (omega (arith, weak))
closes-by draft signs rest op (Ors one ∷ before) pending weak e = absurd (omega (arith, weak))

pub closes : (draft : DraftView) (signs : List Sign) (rest : List PendingOperator) (op : PendingOperator)
    → draft.pending ≡ rest ++ op ∷ [] → IsSettled 1 draft signs → HasFormula 3 (record draft { pending = rest }) (signs ++ close_sign ∷ [])
closes draft signs rest op pending h = closes-by draft signs rest op h.0 pending h.1 h.2

-- ---- what is joined

joins-by : (strength : ℕ) (op : PendingOperator) (draft new : DraftView) (rest : List PendingOperator) (signs : List Sign) (begun : List Unfinished)
    → draft.pending ≡ rest ++ op ∷ [] → strength ≤ strength_of op → EndsIn begun strength draft signs
    → IsJoined op (record draft { pending = rest }) new → HasFormula strength new signs
joins-by strength op draft new rest signs [] pending strong e joined = absurd (not_empty rest op (sym pending ∙ e.waits.0))
joins-by strength op draft new rest signs (Opens ∷ before) pending strong e joined =
    let same = same_last rest e.waits.0 op operator.Open (sym pending ∙ e.waits.4) in
    absurd (subst (λ (o : PendingOperator). IsJoined o (record draft { pending = rest }) new) same.1 joined)
joins-by strength op draft new rest signs (Denies ∷ before) pending strong e joined =
    let same = same_last rest e.waits.0 op operator.Not (sym pending ∙ e.waits.4) in
    let strong_not : strength ≤ 3 = subst (λ (o : PendingOperator). strength ≤ strength_of o) same.1 strong in
    let join = subst (λ (o : PendingOperator). IsJoined o (record draft { pending = rest }) new) same.1 joined in
    subst (λ (d : DraftView). HasFormula strength d signs) (sym (join e.below e.row e.operands)) (
      before,
      record {
        formula = Denied e.formula;
        proper = (e.proper, e.fits);
        binds = strong_not;
        fits = least_small before;
        row = length draft.rows;
        is_row = row-last draft.rows (row.Not e.row) (Denied e.formula) (λ s. ap not (e.is_row.truth s));
        is_last = sym (length-more draft.rows (row.Not e.row));
        below = e.below;
        operands = refl;
        waits =
            begun-stays draft.rows (row.Not e.row) before rest e.below
            (subst (λ (below : List ℕ). AreBegun draft.rows before rest below) (sym e.waits.5)
            (subst (λ (those : List PendingOperator). AreBegun draft.rows before those e.waits.1) (sym same.0) e.waits.2));
        written = e.written ∙ append_assoc (signs_begun before) (not_sign ∷ []) (signs_of e.formula);
      },
    )
joins-by strength op draft new rest signs (Ands one ∷ before) pending strong e joined =
    let same = same_last rest e.waits.0 op operator.Both (sym pending ∙ e.waits.4) in
    let on = e.waits.5 in
    let strong_both : strength ≤ 2 = subst (λ (o : PendingOperator). strength ≤ strength_of o) same.1 strong in
    let join = subst (λ (o : PendingOperator). IsJoined o (record draft { pending = rest }) new) same.1 joined in
    let both = e.operands ∙ ap (λ (below : List ℕ). below ++ e.row ∷ []) on.1 in
    subst (λ (d : DraftView). HasFormula strength d signs) (sym (join e.waits.1 on.0 e.row both)) (
      before,
      record {
        formula = AllOf one e.formula;
        proper = (on.3, e.proper, on.4, e.fits);
        binds = strong_both;
        fits = least_behind-or before e.waits.3;
        row = length draft.rows;
        is_row = row-last draft.rows (row.Both on.0 e.row) (AllOf one e.formula)
            (λ s. ap (λ (b : Bool). b && truth_among (truths_of s draft.rows) e.row) (on.2.truth s)
            ∙ ap (λ (b : Bool). is_true_in s one && b) (e.is_row.truth s));
        is_last = sym (length-more draft.rows (row.Both on.0 e.row));
        below = e.waits.1;
        operands = refl;
        waits =
            begun-stays draft.rows (row.Both on.0 e.row) before rest e.waits.1
            (subst (λ (those : List PendingOperator). AreBegun draft.rows before those e.waits.1) (sym same.0) e.waits.2);
        written = e.written ∙ joined_signs (signs_begun before) (signs_of one) and_sign (signs_of e.formula);
      },
    )
joins-by strength op draft new rest signs (Ors one ∷ before) pending strong e joined =
    let same = same_last rest e.waits.0 op operator.Either (sym pending ∙ e.waits.4) in
    let on = e.waits.5 in
    let strong_either : strength ≤ 1 = subst (λ (o : PendingOperator). strength ≤ strength_of o) same.1 strong in
    let join = subst (λ (o : PendingOperator). IsJoined o (record draft { pending = rest }) new) same.1 joined in
    let both = e.operands ∙ ap (λ (below : List ℕ). below ++ e.row ∷ []) on.1 in
    subst (λ (d : DraftView). HasFormula strength d signs) (sym (join e.waits.1 on.0 e.row both)) (
      before,
      record {
        formula = AnyOf one e.formula;
        proper = (on.3, e.proper, e.fits);
        binds = strong_either;
        fits = least_behind-open before e.waits.3;
        row = length draft.rows;
        is_row = row-last draft.rows (row.Either on.0 e.row) (AnyOf one e.formula)
            (λ s. ap (λ (b : Bool). b || truth_among (truths_of s draft.rows) e.row) (on.2.truth s)
            ∙ ap (λ (b : Bool). is_true_in s one || b) (e.is_row.truth s));
        is_last = sym (length-more draft.rows (row.Either on.0 e.row));
        below = e.waits.1;
        operands = refl;
        waits =
            begun-stays draft.rows (row.Either on.0 e.row) before rest e.waits.1
            (subst (λ (those : List PendingOperator). AreBegun draft.rows before those e.waits.1) (sym same.0) e.waits.2);
        written = e.written ∙ joined_signs (signs_begun before) (signs_of one) or_sign (signs_of e.formula);
      },
    )

pub joins : (strength : ℕ) (op : PendingOperator) (draft new : DraftView) (rest : List PendingOperator) (signs : List Sign)
    → draft.pending ≡ rest ++ op ∷ [] → strength ≤ strength_of op → HasFormula strength draft signs
    → IsJoined op (record draft { pending = rest }) new → HasFormula strength new signs
joins strength op draft new rest signs pending strong h joined = joins-by strength op draft new rest signs h.0 pending strong h.1 joined

-- ---- where nothing is joined any more

begun_none : (rows : List GoalRow) (begun : List Unfinished) (operands : List ℕ) → AreBegun rows begun [] operands → begun ≡ []
begun_none rows [] operands h = refl
begun_none rows (last ∷ before) operands h = absurd (not_empty h.0 (operator_of last) (sym h.4))

strength_last : (rows : List GoalRow) (begun : List Unfinished) (pending rest : List PendingOperator) (op : PendingOperator) (operands : List ℕ)
    → pending ≡ rest ++ op ∷ [] → AreBegun rows begun pending operands → last_strength begun ≡ strength_of op
strength_last rows [] pending rest op operands is h = absurd (not_empty rest op (sym is ∙ h.0))
strength_last rows (last ∷ before) pending rest op operands is h =
    ap strength_of (sym (same_last rest h.0 op (operator_of last) (sym is ∙ h.4)).1)

pub settled_empty : (strength : ℕ) (draft : DraftView) (signs : List Sign) → 0 < strength → draft.pending ≡ [] → HasFormula strength draft signs
    → IsSettled strength draft signs
settled_empty strength draft signs some empty h =
    let none = begun_none draft.rows h.0 h.1.below (subst (λ (p : List PendingOperator). AreBegun draft.rows h.0 p h.1.below) empty h.1.waits) in
    let weak : last_strength h.0 ≡ 0 = ap last_strength none in
    (h.0, omega (arith, some, weak), h.1)

pub settled_weak : (strength : ℕ) (draft : DraftView) (signs : List Sign) (rest : List PendingOperator) (op : PendingOperator)
    → draft.pending ≡ rest ++ op ∷ [] → strength_of op < strength → HasFormula strength draft signs → IsSettled strength draft signs
settled_weak strength draft signs rest op is weak h =
    let same = strength_last draft.rows h.0 draft.pending rest op h.1.below is h.1.waits in
    (h.0, omega (arith, weak, same), h.1)

-- ---- the end

ends-by : (draft : DraftView) (signs : List Sign) (begun : List Unfinished) → begun ≡ [] → EndsIn begun 1 draft signs → IsRead signs draft.rows
ends-by draft signs begun none e = record {
  formula = e.formula;
  proper = e.proper;
  written = e.written ∙ ap (λ (b : List Unfinished). signs_begun b ++ signs_of e.formula) none;
  holds = λ s. ap (truth_among (truths_of s draft.rows)) last ∙ e.is_row.truth s;
}
  where
    last : length draft.rows - 1 ≡ e.row
    last = let is = e.is_last in omega (arith, is)

pub ends : (draft : DraftView) (signs : List Sign) → draft.pending ≡ [] → IsSettled 1 draft signs → IsRead signs draft.rows
ends draft signs empty h =
    ends-by draft signs h.0 (begun_none draft.rows h.0 h.2.below (subst (λ (p : List PendingOperator). AreBegun draft.rows h.0 p h.2.below) empty h.2.waits)) h.2

-- nothing is read at first
pub wanting_none : (words : WordsView) → IsWanting (record { words = words; rows = []; operands = []; pending = [] }) []
wanting_none words = record { begun = []; waits = (refl, refl); written = refl }

-- ---- a goal that is read

pub if_ok : {X E : Type 0} {P Q : X → Type 0} (r : Result X E) → ((x : X) → P x → Q x) → IfOk r P → IfOk r Q
if_ok (Ok x) so h = so x h
if_ok (Err e) so h = tt

pub if_err : {X E : Type 0} {P Q : E → Type 0} (r : Result X E) → ((e : E) → P e → Q e) → IfErr r P → IfErr r Q
if_err (Ok x) so h = tt
if_err (Err e) so h = so e h

pub is_written : (app : AppView) (words : List (List ℕ)) (end : WordsView) (signs : List Sign) (goal : List GoalRow)
    → Reads signs (unread app words) end → end.ahead ≡ [] → IsRead signs goal → IsGoalOfWords app words goal
is_written app words end signs goal h over read = record {
  formula = read.formula;
  proper = read.proper;
  written = subst (λ (those : List Sign). StandFor app those words) read.written (subst (λ (all : List (List ℕ)). StandFor app signs all) (sym all) h.written);
  holds = read.holds;
}
  where
    all : words ≡ h.words
    all = h.ahead ∙ ap (λ (rest : List (List ℕ)). h.words ++ rest) over ∙ append-nil h.words

-- ---- words that are cut off

stand_last : (app : AppView) (front : List Sign) (word : List ℕ) (words : List (List ℕ)) → StandFor app (front ++ Itself word ∷ []) words
    → (before : List (List ℕ)) × (words ≡ before ++ word ∷ [])
stand_last app [] word [] h = absurd h
stand_last app [] word (x ∷ words) h = ([], ap (λ (w : List ℕ). w ∷ words) h.0 ∙ ap (λ (rest : List (List ℕ)). word ∷ rest) h.1)
stand_last app (sign ∷ front) word [] h = absurd h
stand_last app (sign ∷ front) word (x ∷ words) h =
    let rest = stand_last app front word words h.1 in
    (x ∷ rest.0, ap (λ (those : List (List ℕ)). x ∷ those) rest.1)

ends_so : (app : AppView) (front : List Sign) (word : List ℕ) (words : List (List ℕ)) → WantsFormula word
    → StandFor app (front ++ Itself word ∷ []) words → IsCutOff words
ends_so app front word words wants h = let last = stand_last app front word words h in inr (last.0, word, last.1, wants)

cut_off-by : (app : AppView) (words : List (List ℕ)) (begun : List Unfinished) → StandFor app (signs_begun begun) words → IsCutOff words
cut_off-by app words [] h = inl h
cut_off-by app words (Opens ∷ before) h = ends_so app (signs_begun before) (codes "(") words (inl refl) h
cut_off-by app words (Denies ∷ before) h = ends_so app (signs_begun before) (codes "not") words (inr (inl refl)) h
cut_off-by app words (Ands one ∷ before) h =
    ends_so app (signs_begun before ++ signs_of one) (codes "and") words (inr (inr (inl refl)))
    (subst (λ (signs : List Sign). StandFor app signs words) (sym (append_assoc (signs_begun before) (signs_of one) (and_sign ∷ []))) h)
cut_off-by app words (Ors one ∷ before) h =
    ends_so app (signs_begun before ++ signs_of one) (codes "or") words (inr (inr (inr refl)))
    (subst (λ (signs : List Sign). StandFor app signs words) (sym (append_assoc (signs_begun before) (signs_of one) (or_sign ∷ []))) h)

pub cut_off : (app : AppView) (words : List (List ℕ)) (end : WordsView) (signs : List Sign) (draft : DraftView)
    → Reads signs (unread app words) end → end.ahead ≡ [] → IsWanting draft signs → IsCutOff words
cut_off app words end signs draft h over wanting =
    cut_off-by app words wanting.begun
    (subst (λ (those : List Sign). StandFor app those words) wanting.written (subst (λ (all : List (List ℕ)). StandFor app signs all) (sym all) h.written))
  where
    all : words ≡ h.words
    all = h.ahead ∙ ap (λ (rest : List (List ℕ)). h.words ++ rest) over ∙ append-nil h.words
