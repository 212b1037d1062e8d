-- Sessions and their watches.
use Rattle.std.proofs.Common.{◌≡◌, ◌∙◌, ℕ, ◌-◌, ◌<◌, List, [], true, cond, length, inl, inr, refl, ap, sym, subst, arith}
use Rattle.std.specs.Prelude.{All, Bool, IfSome, IsSome, Option, None, Some, is_some, slice_index_or, slice_set, unwrap_or}
use Rattle.std.proofs.lemmas.Bool.{cases_eq, cases_lt, false≢true}
use Rattle.std.proofs.lemmas.Grind.{get_or-set_at}
use Rattle.std.proofs.lemmas.List.Elements.{All-set}
use Rattle.std.proofs.lemmas.List.{get_or-set_other, get_or_past, length-set}
use Rattle.std.proofs.lemmas.List.Sums.{sum_by-set}
use Rattle.rd_app.specs.Application.{Application}
use Rattle.rd_condition.specs.declared.condition.Condition.{Condition}
use Rattle.rd_condition.specs.Conditions.{IsConditionOf}
use Rattle.rd_desk.specs.Sessions.{AreSessionsOf, AreWatchesOf, IsPresent, SessionsView, WatchesView, present_count, session_at, watch_at, watches_of, with_watches}

-- ---- what holds of the member at an index

pub member_good : {X : Type 0} (P : X → Type 0) (xs : List (Option X)) (index : ℕ) (x : X) → All (λ slot. IfSome slot P) xs
    → slice_index_or xs index None ≡ Some x → P x
member_good P xs index x all is = elim (cases_lt index (length xs)) [
  | inl there ↦ subst (λ slot. IfSome slot P) is (all index None there)
  | inr past ↦ let none : None ≡ Some x = sym (get_or_past xs index None past) ∙ is in absurd cc
]

-- a session that is present has watches
watches_are : (o : Option WatchesView) → IsSome o → o ≡ Some (unwrap_or o [])
watches_are (Some watches) some = refl
watches_are None some = absurd cc

pub own_good : (app : Application) (sessions : SessionsView) (who : ℕ) → AreSessionsOf app sessions → IsPresent sessions who
    → AreWatchesOf app (watches_of sessions who)
own_good app sessions who all there =
    member_good (AreWatchesOf app) sessions (who - 1) (watches_of sessions who) all (watches_are (session_at sessions who) there.there)

pub condition_good : (app : Application) (watches : WatchesView) (number : ℕ) (condition : Condition) → AreWatchesOf app watches
    → watch_at watches number ≡ Some condition → IsConditionOf app condition
condition_good app watches number condition good is = member_good (IsConditionOf app) watches number condition good.named is

-- ---- what changes

pub watches_with : (app : Application) (watches : WatchesView) (number : ℕ) (slot : Option Condition) → AreWatchesOf app watches
    → IfSome slot (IsConditionOf app) → AreWatchesOf app (slice_set watches number slot)
watches_with app watches number slot good named = record {
  numbers = length-set watches number slot ∙ good.numbers;
  named = All-set (λ watch. IfSome watch (IsConditionOf app)) watches number slot named good.named;
}

pub sessions_with : (app : Application) (sessions : SessionsView) (who : ℕ) (watches : WatchesView) → AreSessionsOf app sessions
    → AreWatchesOf app watches → AreSessionsOf app (with_watches sessions who watches)
sessions_with app sessions who watches all good =
    All-set (λ session. IfSome session (AreWatchesOf app)) sessions (who - 1) (Some watches) good all

-- ---- how many are present

-- the index of a session that is present
pub there_within : (sessions : SessionsView) (who : ℕ) → IsPresent sessions who → who - 1 < length sessions
there_within sessions who there = elim (cases_lt (who - 1) (length sessions)) [
  | inl within ↦ within
  | inr past ↦
      let none : session_at sessions who ≡ None = get_or_past sessions (who - 1) None past in
      absurd (false≢true (sym (ap is_some none) ∙ there.there))
]

-- other watches are as many sessions
pub as_many_with : (sessions : SessionsView) (who : ℕ) (watches : WatchesView) → IsPresent sessions who
    → present_count (with_watches sessions who watches) ≡ present_count sessions
as_many_with sessions who watches there =
    let within = there_within sessions who there in
    let sums = sum_by-set (λ (session : Option WatchesView). cond (is_some session) 1 0) sessions (who - 1) (Some watches) None within in
    let count : Bool → ℕ = λ b. cond b 1 0 in
    let one : count (is_some (session_at sessions who)) ≡ count true = ap count there.there in
    omega (arith, sums, one)

-- whoever is present stays so
pub present_with : (sessions : SessionsView) (who : ℕ) (watches : WatchesView) (other : ℕ) → IsPresent sessions other
    → IsPresent (with_watches sessions who watches) other
present_with sessions who watches other there = record {
  numbered = there.numbered;
  there = elim (cases_eq (other - 1) (who - 1)) [
    | inl same ↦
        let within : who - 1 < length sessions = omega (arith, same, there_within sessions other there) in
        ap is_some (get_or-set_at sessions (who - 1) (other - 1) (Some watches) None same within)
    | inr differ ↦ ap is_some (get_or-set_other sessions (who - 1) (other - 1) (Some watches) None differ) ∙ there.there
  ];
}
