-- The test at the end: where all seats fit and there are as many receipts as entries, each session has just its entries.
use Rattle.std.proofs.Common.{◌≡◌, ℕ, zero, suc, ◌+◌, ◌-◌, ◌≤◌, ◌<◌, Bool, true, false, List, [], ◌∷◌, ◌++◌, length, refl, ap, subst, sym, arith, ◌∙◌, inl, inr, get_or, take, drop, add-one}
use Rattle.std.specs.Prelude.{nat_eq, if◌then◌else◌, Some, slice_get, All, IsTrue}
use Rattle.std.specs.List.{AllByRecursion}
use Rattle.std.proofs.lemmas.Bool.{cases_lt}
use Rattle.std.proofs.lemmas.Bool.Decides.{nat_tests}
use Rattle.std.proofs.Math.Seq.{drop-cons}
use Rattle.std.proofs.lemmas.List.{append_assoc, append-nil, length-append, take_more}
use Rattle.std.proofs.lemmas.List.Sums.{sum_by-cons}
use Rattle.std.proofs.lemmas.List.Elements.{recursion_from_All}
use Rattle.rd_desk.specs.declared.entry.HistoryEntry.{HistoryEntry}
use Rattle.rd_desk.specs.declared.entry.Receipt.{Receipt}
use Rattle.rd_hall.specs.SeatView.{SeatView, IsSeries, next_place}
use Rattle.rd_desk.specs.HistoryView.{IsEntered}
use Rattle.rd_hall.specs.Account.{receipts_of, entries_of, IsAccounted, ends_in_leave, first_place, Fits, AllFit, count_of, IsAccount}
use Rattle.rd_hall.proofs.Totals.{total, total-same, total-add, total-zero, at_one, total-one, total-exact}

pub receipts_of-append : (who : ℕ) (xs ys : List SeatView) → receipts_of who (xs ++ ys) ≡ receipts_of who xs ++ receipts_of who ys
receipts_of-append who [] ys = refl
receipts_of-append who (g ∷ gs) ys =
    elim (nat_eq g.who who) as (λ b. (if b then g.receipts ++ receipts_of who (gs ++ ys) else receipts_of who (gs ++ ys))
    ≡ (if b then g.receipts ++ receipts_of who gs else receipts_of who gs) ++ receipts_of who ys) [
      | true ↦ ap (λ rs. g.receipts ++ rs) (receipts_of-append who gs ys) ∙ sym (append_assoc g.receipts (receipts_of who gs) (receipts_of who ys))
      | false ↦ receipts_of-append who gs ys
    ]

pub next_place-append : (place : ℕ) (xs ys : List Receipt) → next_place place (xs ++ ys) ≡ next_place (next_place place xs) ys
next_place-append place [] ys = refl
next_place-append place (x ∷ xs) ys = next_place-append (x.place + 1) xs ys

-- one seat more
pub next_place-push : (who : ℕ) (gones : List SeatView) (g : SeatView) → next_place 0 (receipts_of who (gones ++ g ∷ []))
    ≡ (if nat_eq g.who who then next_place (next_place 0 (receipts_of who gones)) g.receipts else next_place 0 (receipts_of who gones))
next_place-push who gones g =
    let joined = ap (next_place 0) (receipts_of-append who gones (g ∷ [])) ∙ next_place-append 0 (receipts_of who gones) (receipts_of who (g ∷ [])) in
    joined ∙ (elim (nat_eq g.who who) as (λ b. next_place (next_place 0 (receipts_of who gones)) (if b then g.receipts ++ [] else [])
    ≡ (if b then next_place (next_place 0 (receipts_of who gones)) g.receipts else next_place 0 (receipts_of who gones))) [
      | true ↦ ap (next_place (next_place 0 (receipts_of who gones))) (append-nil g.receipts)
      | false ↦ refl
    ])

pub IsSeries-append : (who place : ℕ) (xs ys : List Receipt) → IsSeries who place xs → IsSeries who (next_place place xs) ys → IsSeries who place (xs ++ ys)
IsSeries-append who place [] ys series more = more
IsSeries-append who place (x ∷ xs) ys series more = (series.0, series.1, IsSeries-append who (x.place + 1) xs ys series.2 more)

-- a series begins where its first receipt stands
IsSeries-raise : (who place : ℕ) (rs : List Receipt) → IsSeries who 0 rs → place ≤ first_place rs → IsSeries who place rs
IsSeries-raise who place [] series behind = tt
IsSeries-raise who place (r ∷ rs) series behind = (series.0, behind, series.2)

-- where there are receipts, it doesn't matter what was before
pub next_behind-some : (who who' next : ℕ) (rs : List Receipt) → who ≡ who' → 1 ≤ length rs → next_place 0 rs ≡ (if nat_eq who who' then next_place next rs else next)
next_behind-some who who' next [] same some = absurd (omega (arith, some))
next_behind-some who who' next (r ∷ rs) same some =
    let test : nat_eq who who' ≡ true = grind (arith, nat_tests, same) in
    sym (ap (λ b. if b then next_place (r.place + 1) rs else next) test)

abbrev pub IsOwn : SeatView → Type 0
IsOwn gone = IsSeries gone.who 0 gone.receipts

-- the receipts of one session with those of one seat more
series_more : (history : List HistoryEntry) (before : List SeatView) (g : SeatView) (who : ℕ) → Fits history before g → IsOwn g → IsSeries who 0 (receipts_of who before) → (b : Bool) → nat_eq g.who who ≡ b
    → IsSeries who 0 (receipts_of who before ++ (if b then g.receipts ++ [] else []))
series_more history before g who fits own series true is =
    let same : g.who ≡ who = grind (arith, nat_tests, is) in
    let P : ℕ → Type 0 = λ w. next_place 0 (receipts_of w before) ≤ first_place g.receipts in
    let Q : ℕ → Type 0 = λ w. IsSeries w 0 g.receipts in
    subst (λ (rs : List Receipt). IsSeries who 0 (receipts_of who before ++ rs)) (sym (append-nil g.receipts))
    (IsSeries-append who 0 (receipts_of who before) g.receipts series (IsSeries-raise who _ g.receipts (subst Q same own) (subst P same fits.behind)))
series_more history before g who fits own series false is =
    subst (IsSeries who 0) (sym (append-nil (receipts_of who before))) series

series_of : (history : List HistoryEntry) (before gones : List SeatView) (who : ℕ) → AllFit history before gones → AllByRecursion IsOwn gones → IsSeries who 0 (receipts_of who before)
    → IsSeries who 0 (receipts_of who (before ++ gones))
series_of history before [] who fit own series = subst (λ (gs : List SeatView). IsSeries who 0 (receipts_of who gs)) (sym (append-nil before)) series
series_of history before (g ∷ gs) who fit own series =
    let more : IsSeries who 0 (receipts_of who (before ++ g ∷ [])) =
    subst (IsSeries who 0) (sym (receipts_of-append who before (g ∷ []))) (series_more history before g who fit.0 own.0 series (nat_eq g.who who) refl) in
    subst (λ (gs : List SeatView). IsSeries who 0 (receipts_of who gs)) (append_assoc before (g ∷ []) gs)
    (series_of history (before ++ g ∷ []) gs who fit.1 own.1 more)

ByRecursion-append : {X : Type 0} (P : X → Type 0) (xs ys : List X) → AllByRecursion P xs → AllByRecursion P ys → AllByRecursion P (xs ++ ys)
ByRecursion-append P [] ys all more = more
ByRecursion-append P (x ∷ xs) ys all more = (all.0, ByRecursion-append P xs ys all.1 more)

entered_of : (history : List HistoryEntry) (before gones : List SeatView) (who : ℕ) → AllFit history before gones → AllByRecursion (IsEntered history) (receipts_of who gones)
entered_of history before [] who fit = tt
entered_of history before (g ∷ gs) who fit =
    let rest = entered_of history (before ++ g ∷ []) gs who fit.1 in
    elim (nat_eq g.who who) as (λ b. AllByRecursion (IsEntered history) (if b then g.receipts ++ receipts_of who gs else receipts_of who gs)) [
      | true ↦ ByRecursion-append (IsEntered history) g.receipts (receipts_of who gs) (recursion_from_All (IsEntered history) g.receipts fit.0.entered) rest
      | false ↦ rest
    ]

-- ---- no session has more receipts than entries; with as many, they are its entries

abbrev IsAt : ℕ → List HistoryEntry → Receipt → Type 0
IsAt place history r = slice_get history (r.place - place) ≡ Some r.entry

at_later : (who place : ℕ) (e : HistoryEntry) (es : List HistoryEntry) (rs : List Receipt) → IsSeries who (place + 1) rs → AllByRecursion (IsAt place (e ∷ es)) rs → AllByRecursion (IsAt (place + 1) es) rs
at_later who place e es [] series at = tt
at_later who place e es (r ∷ rs) series at =
    let k = r.place - (place + 1) in
    let next : r.place - place ≡ suc k = omega (arith, series.1) in
    let P : ℕ → Type 0 = λ n. slice_get (e ∷ es) n ≡ Some r.entry in
    (subst P next at.0, at_later who place e es rs (series_from who (place + 1) (r.place + 1) rs (omega (arith, series.1)) series.2) at.1)
  where
    series_from : (who low high : ℕ) (rs : List Receipt) → low ≤ high → IsSeries who high rs → IsSeries who low rs
    series_from who low high [] le series = tt
    series_from who low high (r ∷ rs) le series = (series.0, omega (arith, le, series.1), series.2)

at_start : (history : List HistoryEntry) (rs : List Receipt) → AllByRecursion (IsEntered history) rs → AllByRecursion (IsAt 0 history) rs
at_start history [] entered = tt
at_start history (r ∷ rs) entered =
    let P : ℕ → Type 0 = λ n. slice_get history n ≡ Some r.entry in
    let same : r.place ≡ r.place - 0 = omega arith in
    (subst P same entered.0, at_start history rs entered.1)

no_length : {X : Type 0} (xs : List X) → 0 ≡ length xs → [] ≡ xs
no_length [] none = refl
no_length (x ∷ xs) none = absurd (omega (arith, none))

abbrev Bounded : List Receipt → List Receipt → Type 0
Bounded rs es = (length rs ≤ length es) × (length rs ≡ length es → rs ≡ es)

bounded_here : (who place : ℕ) (e : HistoryEntry) (rest : List Receipt) (r : Receipt) (rs : List Receipt) → r.place ≡ place → e ≡ r.entry → r.entry.who ≡ who → Bounded rs rest
    → Bounded (r ∷ rs) (if nat_eq e.who who then record { place = place; entry = e } ∷ rest else rest)
bounded_here who place e rest r rs at is by bound =
    let test : nat_eq e.who who ≡ true = grind (arith, nat_tests, is, by) in
    let receipt : ℕ → HistoryEntry → Receipt = λ p x. record { place = p; entry = x } in
    let head : r ≡ receipt place e = ap (λ p. receipt p r.entry) at ∙ ap (λ (x : HistoryEntry). receipt place x) (sym is) in
    let P : Bool → Type 0 = λ b. Bounded (r ∷ rs) (if b then record { place = place; entry = e } ∷ rest else rest) in
    let whole : P true = (omega (arith, bound.0), λ same. ap (λ (x : Receipt). x ∷ rs) head ∙ ap (λ xs. receipt place e ∷ xs) (bound.1 (omega (arith, same)))) in
    subst P (sym test) whole

bounded_later : (who place : ℕ) (e : HistoryEntry) (rest rs : List Receipt) → Bounded rs rest → Bounded rs (if nat_eq e.who who then record { place = place; entry = e } ∷ rest else rest)
bounded_later who place e rest rs bound =
    elim (nat_eq e.who who) as (λ b. Bounded rs (if b then record { place = place; entry = e } ∷ rest else rest)) [
      | true ↦ (omega (arith, bound.0), λ same. absurd (omega (arith, bound.0, same)))
      | false ↦ bound
    ]

bounded : (who place : ℕ) (history : List HistoryEntry) (rs : List Receipt) → IsSeries who place rs → AllByRecursion (IsAt place history) rs → Bounded rs (entries_of who place history)
bounded who place [] [] series at = (omega arith, λ same. refl)
bounded who place [] (r ∷ rs) series at = let none = at.0 in cc
bounded who place (e ∷ es) [] series at = (omega arith, λ same. no_length (entries_of who place (e ∷ es)) same)
bounded who place (e ∷ es) (r ∷ rs) series at =
    elim (cases_lt place r.place) [
      | inl later ↦ let series' : IsSeries who (place + 1) (r ∷ rs) = (series.0, omega (arith, later), series.2) in
          bounded_later who place e (entries_of who (place + 1) es) (r ∷ rs) (bounded who (place + 1) es (r ∷ rs) series' (at_later who place e es (r ∷ rs) series' at))
      | inr here ↦ let same : r.place ≡ place = omega (arith, here, series.1) in
          let first : r.place - place ≡ 0 = omega (arith, same) in
          let P : ℕ → Type 0 = λ n. slice_get (e ∷ es) n ≡ Some r.entry in
          let found : Some e ≡ Some r.entry = subst P first at.0 in
          let is : e ≡ r.entry = cc in
          let Q : ℕ → Type 0 = λ n. IsSeries who (n + 1) rs in
          let series' : IsSeries who (place + 1) rs = subst Q same series.2 in
          bounded_here who place e (entries_of who (place + 1) es) r rs same is series.0 (bounded who (place + 1) es rs series' (at_later who place e es rs series' at.1))
    ]

-- ---- and in all there are as many

abbrev below : ℕ → HistoryEntry → Type 0
below n e = e.who < n

abbrev top : List HistoryEntry → ℕ
top [] = 0
top (e ∷ es) = e.who + 1 + top es

top_over : (history : List HistoryEntry) (place : ℕ) (e : HistoryEntry) → slice_get history place ≡ Some e → e.who < top history
top_over [] place e at = cc
top_over (x ∷ xs) zero e at = let is : x ≡ e = cc in omega (arith, ap (λ (y : HistoryEntry). y.who) is)
top_over (x ∷ xs) (suc place) e at = omega (arith, top_over xs place e at)

entries_total : (n place : ℕ) (history : List HistoryEntry) → top history ≤ n → total n (λ w. length (entries_of w place history)) ≡ length history
entries_total n place [] within = total-zero n
entries_total n place (e ∷ es) within =
    let one : (w : ℕ) → length (entries_of w place (e ∷ es)) ≡ at_one e.who 1 w + length (entries_of w (place + 1) es) = λ w.
    elim (nat_eq e.who w) as (λ b. length (if b then record { place = place; entry = e } ∷ entries_of w (place + 1) es else entries_of w (place + 1) es) ≡ (if b then 1 else 0) + length (entries_of w (place + 1) es)) [
      | true ↦ omega arith
      | false ↦ omega arith
    ] in
    omega (
      arith,
      total-same n (λ w. length (entries_of w place (e ∷ es))) (λ w. at_one e.who 1 w + length (entries_of w (place + 1) es)) one,
      total-add n (at_one e.who 1) (λ w. length (entries_of w (place + 1) es)),
      total-one n e.who 1 (omega (arith, within)),
      entries_total n (place + 1) es (omega (arith, within)),
    )

-- each seat handed in is of a session that has an entry
owner_below : (history : List HistoryEntry) (before : List SeatView) (who : ℕ) (rs : List Receipt) → IsTrue (ends_in_leave rs) → AllByRecursion (IsEntered history) rs → IsSeries who 0 rs → who < top history
owner_below history before who [] left entered own = cc
owner_below history before who (r ∷ rs) left entered own = omega (arith, top_over history r.place r.entry entered.0, own.0)

receipts_total : (n : ℕ) (history : List HistoryEntry) (before gones : List SeatView) → top history ≤ n → AllFit history before gones → AllByRecursion IsOwn gones
    → total n (λ w. length (receipts_of w gones)) ≡ count_of gones
receipts_total n history before [] within fit own = total-zero n
receipts_total n history before (g ∷ gs) within fit own =
    let k = length g.receipts in
    let one : (w : ℕ) → length (receipts_of w (g ∷ gs)) ≡ at_one g.who k w + length (receipts_of w gs) = λ w.
    elim (nat_eq g.who w) as (λ b. length (if b then g.receipts ++ receipts_of w gs else receipts_of w gs) ≡ (if b then k else 0) + length (receipts_of w gs)) [
      | true ↦ length-append g.receipts (receipts_of w gs)
      | false ↦ omega arith
    ] in
    let step : count_of (g ∷ gs) ≡ k + count_of gs = sum_by-cons (λ (x : SeatView). length x.receipts) g gs in
    let by : g.who < top history = owner_below history before g.who g.receipts fit.0.left (recursion_from_All (IsEntered history) g.receipts fit.0.entered) own.0 in
    omega (
      arith,
      total-same n (λ w. length (receipts_of w (g ∷ gs))) (λ w. at_one g.who k w + length (receipts_of w gs)) one,
      total-add n (at_one g.who k) (λ w. length (receipts_of w gs)),
      total-one n g.who k (omega (arith, by, within)),
      receipts_total n history (before ++ g ∷ []) gs within fit.1 own.1,
    )

pub IsAccounted-from_account : (history : List HistoryEntry) (gones : List SeatView) → IsAccount history gones → All IsOwn gones → IsAccounted history gones
IsAccounted-from_account history gones account all who =
    let own = recursion_from_All IsOwn gones all in
    let n = top history + who + 1 in
    let each : (w : ℕ) → Bounded (receipts_of w gones) (entries_of w 0 history) = λ w.
    bounded w 0 history (receipts_of w gones) (series_of history [] gones w account.fit own tt) (at_start history (receipts_of w gones) (entered_of history [] gones w account.fit)) in
    let totals : total n (λ w. length (receipts_of w gones)) ≡ total n (λ w. length (entries_of w 0 history)) =
    receipts_total n history [] gones (omega arith) account.fit own ∙ account.count ∙ sym (entries_total n 0 history (omega arith)) in
    (each who).1 (total-exact n (λ w. length (receipts_of w gones)) (λ w. length (entries_of w 0 history)) (λ w. (each w).0) totals who (omega arith))

-- the test at one seat more
pub AllFit-more : (history : List HistoryEntry) (gones : List SeatView) (i : ℕ) (g : SeatView) → i < length gones → g ≡ get_or gones i g → Fits history (take i gones) g
    → (AllFit history (take i gones) (drop i gones) → AllFit history (take (i + 1) gones) (drop (i + 1) gones))
    × (AllFit history (take (i + 1) gones) (drop (i + 1) gones) → AllFit history (take i gones) (drop i gones))
AllFit-more history gones i g within is fits =
    let front : take (i + 1) gones ≡ take i gones ++ g ∷ [] = take_more gones i g within ∙ ap (λ x. take i gones ++ x ∷ []) (sym is) in
    let rest : drop i gones ≡ g ∷ drop (i + 1) gones = rw add-one (drop-cons gones i g within ∙ ap (λ x. x ∷ drop (suc i) gones) (sym is)) in
    let P : List SeatView → Type 0 = λ gs. AllFit history (take i gones) gs in
    let Q : List SeatView → Type 0 = λ gs. AllFit history gs (drop (i + 1) gones) in (
      (λ all. let whole : P (g ∷ drop (i + 1) gones) = subst P rest all in subst Q (sym front) whole.1),
      λ all. subst P (sym rest) (fits, subst Q front all),
    )
