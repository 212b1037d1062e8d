-- Arrays of named things: what is read of one is said by its values, and what its values say is read.
use Rattle.std.proofs.Common.{◌≡◌, ◌∙◌, ℕ, suc, List, [], ◌∷◌, ◌++◌, length, Result, Ok, refl, sym, ap, subst, append_assoc}
use Rattle.std.specs.List.{AllByRecursion}
use Rattle.std.proofs.lemmas.List.{append-nil}
use Rattle.serde_json.specs.Data.{Data, Items, no_items, item}
use Rattle.serde_json.specs.Events.{items_len}
use Rattle.rd_text.specs.Names.{AreDistinctNames}
use Rattle.rd_text.proofs.Offered.{AreDistinctNames-push, IsNewName, IsNewName-in}
use Rattle.rd_script.specs.declared.error.AppError.{AppError}
use Rattle.rd_script.specs.Named.{Named}
use Rattle.rd_script.specs.Values.{named_after, with_named, SayEach, SayEachNamed}
use Rattle.rd_script.proofs.Steps.{bind_ok, then_is}

-- what holds of each, one by one
pub AllByRecursion-push : {X : Type 0} (P : X → Type 0) (xs : List X) (x : X) → AllByRecursion P xs → P x → AllByRecursion P (xs ++ x ∷ [])
AllByRecursion-push P [] x h p = (p, tt)
AllByRecursion-push P (y ∷ ys) x h p = (h.0, AllByRecursion-push P ys x h.1 p)

pub AllByRecursion-last : {X : Type 0} (P : X → Type 0) (xs : List X) (x : X) → AllByRecursion P (xs ++ x ∷ []) → P x
AllByRecursion-last P [] x h = h.0
AllByRecursion-last P (y ∷ ys) x h = AllByRecursion-last P ys x h.1

pub AllByRecursion-first : {X : Type 0} (P : X → Type 0) (xs ys : List X) → AllByRecursion P (xs ++ ys) → AllByRecursion P xs
AllByRecursion-first P [] ys h = tt
AllByRecursion-first P (x ∷ xs) ys h = (h.0, AllByRecursion-first P xs ys h.1)

pub no_names : AreDistinctNames []
no_names = record { named = refl; distinct = refl }

-- what is said of these names and things is said of them together
pub said_named : {X : Type 0} (Is : Data → List ℕ → X → Type 0) (ds : Items) (named : Named X) (names : List (List ℕ)) (things : List X)
    → named.names ≡ names → named.things ≡ things → SayEach Is ds names things → SayEachNamed Is ds named
said_named Is ds named names things names_are things_are said =
    subst (λ (ns : List (List ℕ)). SayEach Is ds ns named.things) (sym names_are) (subst (SayEach Is ds names) (sym things_are) said)

-- there are as many names as things
pub length_named : {X : Type 0} (Is : Data → List ℕ → X → Type 0) (ds : Items) (names : List (List ℕ)) (things : List X) → SayEach Is ds names things
    → (length names ≡ items_len ds) × (length things ≡ items_len ds)
length_named Is no_items [] [] h = (refl, refl)
length_named Is no_items [] (x ∷ things) h = absurd h
length_named Is no_items (n ∷ names) things h = absurd h
length_named Is (item d ds) [] things h = absurd h
length_named Is (item d ds) (n ∷ names) [] h = absurd h
length_named Is (item d ds) (n ∷ names) (x ∷ things) h = let rest = length_named Is ds names things h.1 in (ap suc rest.0, ap suc rest.1)

pub record AreNamedInLimits {X : Type 0} (InLimits : List X → Type 0) (named : Named X) : Type 0 where
  pub are_names : AreDistinctNames named.names
  pub are_things : InLimits named.things

-- what an array adds
pub record Adds {X : Type 0} (Is : Data → List ℕ → X → Type 0) (InLimits : List X → Type 0) (ds : Items) (before after : Named X)
    (more : List (List ℕ)) (others : List X) : Type 0 where
  pub names_are : after.names ≡ before.names ++ more
  pub things_are : after.things ≡ before.things ++ others
  pub said : SayEach Is ds more others
  pub limits : AreNamedInLimits InLimits after

pub named_take : {X : Type 0} (read : Named X → Data → Result (List ℕ × X) AppError) (Is : Data → List ℕ → X → Type 0) (InLimits : List X → Type 0)
    → ((before : Named X) (d : Data) (t : List ℕ × X) → read before d ≡ Ok t → InLimits before.things
    → Is d t.0 t.1 × IsNewName before.names t.0 × InLimits (before.things ++ t.1 ∷ []))
    → (ds : Items) (before after : Named X) → named_after read before ds ≡ Ok after
    → AreNamedInLimits InLimits before → (more : List (List ℕ)) × (others : List X) × Adds Is InLimits ds before after more others
named_take {X = X} read Is InLimits takes no_items before after e limits =
    let is : before ≡ after = cc in (
      [],
      [],
      record {
        names_are = ap (λ (named : Named X). named.names) (sym is) ∙ sym (append-nil before.names);
        things_are = ap (λ (named : Named X). named.things) (sym is) ∙ sym (append-nil before.things);
        said = tt;
        limits = subst (AreNamedInLimits InLimits) is limits;
      },
    )
named_take read Is InLimits takes (item d ds) before after e limits =
    let first = bind_ok (read before d) _ after e in
    let taken = takes before d first.0 first.1 limits.are_things in
    let rest =
    named_take read Is InLimits takes ds (with_named before first.0.0 first.0.1) after first.2 (record {
      are_names = AreDistinctNames-push before.names first.0.0 limits.are_names taken.1;
      are_things = taken.2;
    }) in (
      first.0.0 ∷ rest.0,
      first.0.1 ∷ rest.1,
      record {
        names_are = rest.2.names_are ∙ append_assoc before.names (first.0.0 ∷ []) rest.0;
        things_are = rest.2.things_are ∙ append_assoc before.things (first.0.1 ∷ []) rest.1;
        said = (taken.0, rest.2.said);
        limits = rest.2.limits;
      },
    )

-- those before, and more of them
abbrev pub named_more : {X : Type 0} → Named X → List (List ℕ) → List X → Named X
named_more before more others = record { names = before.names ++ more; things = before.things ++ others }

pub named_again : {X : Type 0} (read : Named X → Data → Result (List ℕ × X) AppError) (Is : Data → List ℕ → X → Type 0)
    (InLimits : List X → Type 0) → ((xs ys : List X) → InLimits (xs ++ ys) → InLimits xs)
    → ((before : Named X) (d : Data) (name : List ℕ) (x : X) → Is d name x → IsNewName before.names name → InLimits (before.things ++ x ∷ [])
    → read before d ≡ Ok (name, x))
    → (ds : Items) (before : Named X) (more : List (List ℕ)) (others : List X) → SayEach Is ds more others
    → AreDistinctNames (before.names ++ more) → InLimits (before.things ++ others) → named_after read before ds ≡ Ok (named_more before more others)
named_again read Is InLimits first again no_items before [] [] h are limits = rw (append-nil before.names, append-nil before.things) refl
named_again read Is InLimits first again no_items before [] (x ∷ others) h are limits = absurd h
named_again read Is InLimits first again no_items before (n ∷ more) others h are limits = absurd h
named_again read Is InLimits first again (item d ds) before [] others h are limits = absurd h
named_again read Is InLimits first again (item d ds) before (n ∷ more) [] h are limits = absurd h
named_again read Is InLimits first again (item d ds) before (n ∷ more) (x ∷ others) h are limits =
    let all : AreDistinctNames ((before.names ++ n ∷ []) ++ more) = subst AreDistinctNames (sym (append_assoc before.names (n ∷ []) more)) are in
    let within : InLimits ((before.things ++ x ∷ []) ++ others) = subst InLimits (sym (append_assoc before.things (x ∷ []) others)) limits in
    then_is (read before d) _ (n, x) _
    (again before d n x h.0 (IsNewName-in before.names n more are) (first (before.things ++ x ∷ []) others within))
    (named_again read Is InLimits first again ds (with_named before n x) more others h.1 all within
    ∙ rw (append_assoc before.names (n ∷ []) more, append_assoc before.things (x ∷ []) others) refl)

-- ---- things that are read over names alone, each within its own limits

pub each_takes : {X : Type 0} (read : List (List ℕ) → Data → Result (List ℕ × X) AppError) (Is : Data → List ℕ → X → Type 0) (InLimits : X → Type 0)
    → ((names : List (List ℕ)) (d : Data) (t : List ℕ × X) → read names d ≡ Ok t → Is d t.0 t.1 × IsNewName names t.0 × InLimits t.1)
    → (before : Named X) (d : Data) (t : List ℕ × X) → read before.names d ≡ Ok t → AllByRecursion InLimits before.things
    → Is d t.0 t.1 × IsNewName before.names t.0 × AllByRecursion InLimits (before.things ++ t.1 ∷ [])
each_takes read Is InLimits takes before d t e all =
    let taken = takes before.names d t e in
    (taken.0, taken.1, AllByRecursion-push InLimits before.things t.1 all taken.2)

pub each_again : {X : Type 0} (read : List (List ℕ) → Data → Result (List ℕ × X) AppError) (Is : Data → List ℕ → X → Type 0) (InLimits : X → Type 0)
    → ((names : List (List ℕ)) (d : Data) (name : List ℕ) (x : X) → Is d name x → IsNewName names name → InLimits x → read names d ≡ Ok (name, x))
    → (before : Named X) (d : Data) (name : List ℕ) (x : X) → Is d name x → IsNewName before.names name
    → AllByRecursion InLimits (before.things ++ x ∷ []) → read before.names d ≡ Ok (name, x)
each_again read Is InLimits again before d name x h new all = again before.names d name x h new (AllByRecursion-last InLimits before.things x all)
