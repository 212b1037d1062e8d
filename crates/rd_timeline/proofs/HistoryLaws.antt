-- Lists of moves with one more, and with one less.
use Rattle.std.proofs.Common.{◌≡◌, ◌∙◌, ℕ, zero, suc, ◌+◌, ◌-◌, ◌≤◌, List, [], ◌∷◌, ◌++◌, length, take, drop, refl, ap, subst, sym, arith, inl, inr}
use Rattle.std.specs.Prelude.{Err, IfErr, IsOk, Ok, OnOk, Result, fold, is_ok}
use Rattle.std.proofs.lemmas.Bool.{cases_lt, false≢true}
use Rattle.std.proofs.lemmas.List.{take_all, drop_all, take-append-le, drop-append-le, length_push, length-take-le}
use Rattle.std.proofs.lemmas.List.{drop-drop, take-take, take-append-drop}
use Rattle.std.proofs.lemmas.List.Sums.{fold-append, fold_push}
use Rattle.rd_refusal.specs.declared.refusal.Refusal.{Refusal}
use Rattle.rd_app.specs.Application.{Application, priorities_of}
use Rattle.rd_state.specs.Change.{Change}
use Rattle.rd_state.specs.Boot.{boot_of}
use Rattle.rd_state.specs.Snapshot.{Snapshot}
use Rattle.rd_state.specs.Undoing.{undone, CanUndo}
use Rattle.rd_state.specs.Settled.{IsSettled}
use Rattle.rd_state.specs.Valid.{IsValid}
use Rattle.rd_moves.specs.Moves.{PlainMove}
use Rattle.rd_calls.specs.Step.{step}
use Rattle.rd_timeline.specs.History.{stepped, state_after, rewound, CanRewind, IsStateAfter, Retraces}

-- one move more, after moves that gave a state
pub state_after-push : (app : Application) (moves : List PlainMove) (move : PlainMove) (s : Snapshot) → state_after app moves ≡ Ok s
    → state_after app (moves ++ move ∷ []) ≡ step app s move
state_after-push app moves move s e = fold_push (stepped app) (Ok (boot_of app)) moves move ∙ ap (λ r. stepped app r move) e

-- back from one record more: first by that
pub rewound-push : (s : Snapshot) (records : List (List Change)) (last : List Change) → rewound s (records ++ last ∷ []) ≡ rewound (undone s last) records
rewound-push s [] last = refl
rewound-push s (first ∷ later) last = ap (λ (t : Snapshot). undone t first) (rewound-push s later last)

pub CanRewind-push : (s : Snapshot) (records : List (List Change)) (last : List Change) → CanUndo s last → CanRewind (undone s last) records
    → CanRewind s (records ++ last ∷ [])
CanRewind-push s [] last can rewinds = (tt, can)
CanRewind-push s (first ∷ later) last can rewinds =
    let P : Snapshot → Type 0 = λ t. CanUndo t first in
    (CanRewind-push s later last can rewinds.0, subst P (sym (rewound-push s later last)) rewinds.1)

-- back by some records: first by those after them
rewound-append : (s : Snapshot) (records later : List (List Change)) → rewound s (records ++ later) ≡ rewound (rewound s later) records
rewound-append s [] later = refl
rewound-append s (first ∷ rest) later = ap (λ (t : Snapshot). undone t first) (rewound-append s rest later)

pub CanRewind-later : (s : Snapshot) (records : List (List Change)) (m : ℕ) → CanRewind s records → CanRewind s (drop m records)
CanRewind-later s records zero can = can
CanRewind-later s [] (suc m) can = tt
CanRewind-later s (first ∷ rest) (suc m) can = CanRewind-later s rest m can.0

CanRewind-append : (s : Snapshot) (records later : List (List Change)) → CanRewind s (records ++ later) → CanRewind (rewound s later) records
CanRewind-append s [] later can = tt
CanRewind-append s (first ∷ rest) later can =
    let P : Snapshot → Type 0 = λ t. CanUndo t first in
    (CanRewind-append s rest later can.0, subst P (rewound-append s rest later) can.1)

-- Back by the records after the first m, those can still be undone.
pub CanRewind-back : (s : Snapshot) (records : List (List Change)) (m : ℕ) → CanRewind s records → CanRewind (rewound s (drop m records)) (take m records)
CanRewind-back s records m can =
    CanRewind-append s (take m records) (drop m records) (subst (CanRewind s) (sym (take-append-drop m records)) can)

rewound-back : (s : Snapshot) (records : List (List Change)) (m count : ℕ) → count ≤ m → m ≤ length records
    → rewound (rewound s (drop m records)) (drop count (take m records)) ≡ rewound s (drop count records)
rewound-back s records m count few within =
    let whole : drop count records ≡ drop count (take m records) ++ drop m records =
    ap (drop count) (sym (take-append-drop m records))
    ∙ drop-append-le count (take m records) (drop m records) (omega (arith, few, length-take-le m records within)) in
    sym (ap (rewound s) whole ∙ rewound-append s (drop count (take m records)) (drop m records))

-- at boot there is nothing to go back
pub Retraces-boot : (app : Application) (s : Snapshot) → s ≡ boot_of app → IsValid app s → IsSettled (priorities_of app) s → Retraces app 0 [] [] s
Retraces-boot app s e valid settled zero from h = record { state = ap (λ (t : Snapshot). Ok t) (sym e); valid = valid; settled = settled }
Retraces-boot app s e valid settled (suc count) from h = absurd (omega (arith, h))

-- the state now is that after all moves
pub Retraces-now : (app : Application) (base : ℕ) (moves : List PlainMove) (records : List (List Change)) (s : Snapshot)
    → base + length records ≡ length moves → Retraces app base moves records s → IsStateAfter app moves s
Retraces-now app base moves records s all h =
    let P : List PlainMove → List (List Change) → Type 0 = λ ms rs. IsStateAfter app ms (rewound s rs) in
    subst (λ (rs : List (List Change)). P moves rs) (drop_all (length moves - base) records (omega (arith, all)))
    (subst (λ (ms : List PlainMove). P ms (drop (length moves - base) records)) (take_all (length moves) moves (omega arith))
    (h (length moves) (omega (arith, all)) (omega arith)))

-- what stands before the last of one more
before_last : {X : Type 0} (count : ℕ) (xs : List X) (x : X) → count ≤ length xs → take count (xs ++ x ∷ []) ≡ take count xs
before_last count xs x h = take-append-le count xs (x ∷ []) h

rewound-before : (count : ℕ) (records : List (List Change)) (last : List Change) (s : Snapshot) → count ≤ length records
    → rewound s (drop count (records ++ last ∷ [])) ≡ rewound (undone s last) (drop count records)
rewound-before count records last s h = ap (rewound s) (drop-append-le count records (last ∷ []) h) ∙ rewound-push s (drop count records) last

pub Retraces-push : (app : Application) (base : ℕ) (moves : List PlainMove) (records : List (List Change)) (move : PlainMove) (last : List Change)
    (s s' : Snapshot) → base + length records ≡ length moves → Retraces app base moves records s → step app s move ≡ Ok s'
    → undone s' last ≡ s → IsValid app s' → IsSettled (priorities_of app) s'
    → Retraces app base (moves ++ move ∷ []) (records ++ last ∷ []) s'
Retraces-push app base moves records move last s s' all h steps back valid settled count from within =
    elim (cases_lt count (length moves + 1)) [
      | inl earlier ↦ let here : count ≤ length moves = omega (arith, earlier) in
          let was = h count from here in
          let before : rewound s' (drop (count - base) (records ++ last ∷ [])) ≡ rewound s (drop (count - base) records) =
          rewound-before (count - base) records last s' (omega (arith, here, all)) ∙ ap (λ (t : Snapshot). rewound t (drop (count - base) records)) back in
          subst (λ (t : Snapshot). IsStateAfter app (take count (moves ++ move ∷ [])) t) (sym before)
          (subst (λ (ms : List PlainMove). IsStateAfter app ms (rewound s (drop (count - base) records))) (sym (before_last count moves move here)) was)
      | inr at_the_end ↦
          let whole = take_all count (moves ++ move ∷ []) (omega (arith, at_the_end, length_push moves move)) in
          let none = drop_all (count - base) (records ++ last ∷ []) (omega (arith, at_the_end, length_push records last, all)) in
          subst (λ (ms : List PlainMove). IsStateAfter app ms (rewound s' (drop (count - base) (records ++ last ∷ [])))) (sym whole)
          (subst (λ (rs : List (List Change)). IsStateAfter app (moves ++ move ∷ []) (rewound s' rs)) (sym none)
          (record { state = state_after-push app moves move s (Retraces-now app base moves records s all h).state ∙ steps; valid = valid; settled = settled }))
    ]

-- Back by the records after the first k, the moves before these are retraced.
pub Retraces-back : (app : Application) (base : ℕ) (moves : List PlainMove) (records : List (List Change)) (s : Snapshot) (k : ℕ)
    → base + length records ≡ length moves → k ≤ length records → Retraces app base moves records s
    → Retraces app base (take (base + k) moves) (take k records) (rewound s (drop k records))
Retraces-back app base moves records s k all within h count from few =
    let m = base + k in
    let fewer : count ≤ m = omega (arith, few, length-take-le m moves (omega (arith, all, within))) in
    subst (λ (t : Snapshot). IsStateAfter app (take count (take m moves)) t) (sym (rewound-back s records k (count - base) (omega (arith, fewer)) within))
    (subst (λ (ms : List PlainMove). IsStateAfter app ms (rewound s (drop (count - base) records))) (sym (take-take count m moves fewer))
    (h count from (omega (arith, fewer, within, all))))

-- Without the first records, the moves are retraced from later on.
pub Retraces-later : (app : Application) (base : ℕ) (moves : List PlainMove) (records : List (List Change)) (s : Snapshot) (j : ℕ)
    → Retraces app base moves records s → Retraces app (base + j) moves (drop j records) s
Retraces-later app base moves records s j h count from within =
    let rest : j + (count - (base + j)) ≡ count - base = omega (arith, from) in
    subst (λ (rs : List (List Change)). IsStateAfter app (take count moves) (rewound s rs))
    (sym (drop-drop (count - (base + j)) j records ∙ ap (λ k. drop k records) rest)) (h count (omega (arith, from)) within)

-- Once a move is refused, there is no state after those behind it either.
refused_stays : (app : Application) (refusal : Refusal) (moves : List PlainMove) → fold (stepped app) (Err refusal) moves ≡ Err refusal
refused_stays app refusal [] = refl
refused_stays app refusal (move ∷ moves) = refused_stays app refusal moves

before_is_ok : (app : Application) (r : Result Snapshot Refusal) (moves : List PlainMove) → IsOk (fold (stepped app) r moves) → IsOk r
before_is_ok app (Ok s) moves is = refl
before_is_ok app (Err refusal) moves is = sym (ap is_ok (refused_stays app refusal moves)) ∙ is

-- Where moves lead on from those that were made, the first of them can be made.
pub first_is_made : (app : Application) (done : List PlainMove) (move : PlainMove) (rest : List PlainMove) (s : Snapshot) → state_after app done ≡ Ok s
    → IsOk (state_after app (done ++ move ∷ rest)) → IsOk (step app s move)
first_is_made app done move rest s state is =
    before_is_ok app (step app s move) rest
    (sym (ap is_ok (fold-append (stepped app) (Ok (boot_of app)) done (move ∷ rest) ∙ ap (λ r. fold (stepped app) r (move ∷ rest)) state)) ∙ is)

-- What is made of a move that can be made, and refused by the kernel's rules alone.
pub ok_if_made : {T : Type 0} (r : Result T Refusal) (x : Result Snapshot Refusal) → IsOk x → IfErr r (λ refusal. x ≡ Err refusal) → IsOk r
ok_if_made (Ok v) x is refusals = refl
ok_if_made (Err refusal) x is refusals = absurd (false≢true (sym (ap is_ok refusals) ∙ is))

-- What a call promises where it succeeds, where it did.
pub on_ok : {T E P : Type 0} (r : Result T E) (v : T) → r ≡ Ok v → OnOk r P → P
on_ok {T} {E} {P} r v is on = subst (λ (q : Result T E). OnOk q P) is on

-- What holds anyhow holds where a call succeeds, and so does what follows from what it promises there.
pub done_or_not : {T E P : Type 0} (r : Result T E) → P → OnOk r P
done_or_not {T} {E} {P} r holds = elim r as (λ q. OnOk q P) [ Ok x ↦ holds | Err y ↦ tt ]

pub on_ok_then : {T E P Q : Type 0} (r : Result T E) → OnOk r P → (P → Q) → OnOk r Q
on_ok_then (Ok x) holds follows = follows holds
on_ok_then (Err y) holds follows = tt
