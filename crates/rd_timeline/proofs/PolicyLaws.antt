-- Runs by policy, one move more.
use Rattle.std.proofs.Common.{◌≡◌, ◌≢◌, ◌∙◌, ℕ, zero, suc, ◌+◌, ◌≤◌, inl, inr, [], true, false, cond, length, ap, subst, sym, refl, arith}
use Rattle.std.specs.Prelude.{Bool, IsSome, IsTrue, List, Option, Some, None, Result, Ok, Err, drop, is_ok, is_some, nat_eq, position}
use Rattle.std.proofs.lemmas.Bool.{cases_lt, false≢true}
use Rattle.std.proofs.lemmas.List.{length-drop, length_push}
use Rattle.std.proofs.lemmas.List.Quantifiers.{position-Some}
use Rattle.rd_app.specs.Application.{Application}
use Rattle.rd_refusal.specs.declared.refusal.Refusal.{Refusal}
use Rattle.rd_refusal.specs.declared.refusal.Refusal.TheVariants.{MovesFull, NoMemory}
use Rattle.rd_state.specs.Snapshot.{Snapshot}
use Rattle.rd_state.specs.Valid.{IsValid}
use Rattle.rd_moves.specs.Moves.{IsMoveOf, PlainMove}
use Rattle.rd_calls.specs.Step.{move_from, policy_of, step}
use Rattle.rd_condition.specs.declared.condition.Condition.{Condition}
use Rattle.rd_condition.specs.Conditions.{holds}
use Rattle.rd_moves.specs.declared.request.Request.TheVariants.{Forward}
use Rattle.rd_timeline.specs.RunLaws.{RunsAddUp, is_refusal}
use Rattle.rd_timeline.specs.Runs.{Moves, PolicyRun, Going, AtGoal, Refused, can_make, chosen, ended, looked_for, meets, moved, moved_on, moves_after}
use Rattle.rd_timeline.specs.Runs.{ran, response_to, run_of, run_on, run_response, state_of}
use Rattle.rd_timeline.proofs.CauseLaws.{never_no_memory}

-- Policy's move names what the application has.
named_by : (app : Application) (s : Snapshot) (found : Option ℕ) → position is_some (drop s.turn s.cores) ≡ found → IsValid app s
    → IsMoveOf app (move_from s.turn found)
named_by app s None is valid = tt
named_by app s (Some ahead) is valid =
    omega (
      arith,
      (position-Some is_some (drop s.turn s.cores) ahead None is).0,
      length-drop s.turn s.cores,
      valid.in_limits.cores,
    )

pub policy_named : (app : Application) (s : Snapshot) → IsValid app s → IsMoveOf app (policy_of s)
policy_named app s valid = named_by app s (position is_some (drop s.turn s.cores)) refl valid

-- A run that has ended stays as it is.
pub ran_on : (app : Application) (limit : ℕ) (goal : Option Condition) (moves : Moves) (run : PolicyRun) (k : ℕ) → run_on app limit goal run ≡ run
    → ran app limit goal moves k ≡ run → (n : ℕ) → k ≤ n → ran app limit goal moves n ≡ run
ran_on app limit goal moves run k stays is zero within =
    let same : k ≡ 0 = omega (arith, within) in
    subst (λ m. ran app limit goal moves m ≡ run) same is
ran_on app limit goal moves run k stays is (suc n) within =
    elim (cases_lt k (suc n)) [
      | inl less ↦ ap (run_on app limit goal) (ran_on app limit goal moves run k stays is n (omega (arith, less))) ∙ stays
      | inr last ↦
          let same : k ≡ suc n = omega (arith, within, last) in
          subst (λ m. ran app limit goal moves m ≡ run) same is
    ]

-- ---- what a run leaves

-- Moves were laid on: none is undone, and as many have no record as before.
pub record AreLaidOn (old new : Moves) : Type 0 where
  pub undone : new.undone ≡ []
  pub base : new.base ≡ old.base
  pub more : length old.done ≤ length new.done

-- A run of so many moves laid them on, or fewer where it met its goal, which it has.
abbrev pub LaysOn : Option Condition → Moves → ℕ → PolicyRun → Type 0
LaysOn goal old n (Going new) = AreLaidOn old new × (length new.done ≡ length old.done + n)
LaysOn goal old n (AtGoal new) = AreLaidOn old new × IsSome goal
LaysOn goal old n (Refused refusal) = Unit {0}

looked_lays : (goal : Option Condition) (old new : Moves) (n : ℕ) (s : Snapshot) → AreLaidOn old new → length new.done ≡ length old.done + n
    → LaysOn goal old n (ended (meets goal s) new)
looked_lays None old new n s laid so_many = (laid, so_many)
looked_lays (Some condition) old new n s laid so_many = by (holds s condition)
  where
    by : (met : Bool) → LaysOn (Some condition) old n (ended met new)
    by true = (laid, refl)
    by false = (laid, so_many)

lays_more : (app : Application) (limit : ℕ) (goal : Option Condition) (old : Moves) (n : ℕ) (run : PolicyRun) → LaysOn goal old n run
    → LaysOn goal old (suc n) (run_on app limit goal run)
lays_more app limit goal old n (Going moves) lays = by (moved app limit moves move)
  where
    move : PlainMove
    move = chosen app moves

    laid : AreLaidOn old (moved_on moves move)
    laid = record { undone = refl; base = lays.0.base; more = omega (arith, lays.1, length_push moves.done move) }

    by : (r : Result Snapshot Refusal) → LaysOn goal old (suc n) (looked_for goal (moved_on moves move) r)
    by (Ok s) = looked_lays goal old (moved_on moves move) (suc n) s laid (omega (arith, lays.1, length_push moves.done move))
    by (Err refusal) = tt
lays_more app limit goal old n (AtGoal moves) lays = lays
lays_more app limit goal old n (Refused refusal) lays = tt

pub run_lays_on : (app : Application) (limit : ℕ) (goal : Option Condition) (moves : Moves) (n : ℕ) → LaysOn goal moves n (run_of app limit goal moves n)
run_lays_on app limit goal moves zero = (record { undone = refl; base = refl; more = omega arith }, omega arith)
run_lays_on app limit goal moves (suc n) =
    lays_more app limit goal moves n (run_of app limit goal moves n) (run_lays_on app limit goal moves n)

-- A run without a goal goes on to its end.
pub never_met : (app : Application) (limit : ℕ) (moves new : Moves) (n : ℕ) (met : Bool) → run_of app limit None moves n ≡ ended met new
    → run_of app limit None moves n ≡ Going new
never_met app limit moves new n true is = absurd (false≢true (subst (LaysOn None moves n) is (run_lays_on app limit None moves n)).1)
never_met app limit moves new n false is = is

-- ---- a run and then another

ran_adds : (app : Application) (limit : ℕ) (goal : Option Condition) (moves mid : Moves) (first : ℕ) → ran app limit goal moves first ≡ Going mid
    → (then : ℕ) → ran app limit goal mid then ≡ ran app limit goal moves (first + then)
ran_adds app limit goal moves mid first is zero =
    let all : first ≡ first + zero = omega arith in
    sym is ∙ ap (ran app limit goal moves) all
ran_adds app limit goal moves mid first is (suc n) =
    let more : suc (first + n) ≡ first + suc n = omega arith in
    ap (run_on app limit goal) (ran_adds app limit goal moves mid first is n) ∙ ap (ran app limit goal moves) more

pub runs_add_up : RunsAddUp
runs_add_up app limit moves first then done = by (run_of app limit None moves first) refl done
  where
    by : (run : PolicyRun) → run_of app limit None moves first ≡ run → is_refusal (run_response None run) ≡ false
        → response_to app limit (moves_after moves (run_response None run)) (Forward then) ≡ response_to app limit moves (Forward (first + then))
    by (Going mid) is done =
        let laid = (subst (LaysOn None moves first) is (run_lays_on app limit None moves first)).0 in
        ap (λ (us : List PlainMove). run_response None (ran app limit None (record mid { undone = us }) then)) (sym laid.undone)
        ∙ ap (run_response None) (ran_adds app limit None (record moves { undone = [] }) mid first is then)
    by (AtGoal mid) is done = absurd (false≢true (subst (LaysOn None moves first) is (run_lays_on app limit None moves first)).1)
    by (Refused refusal) is done = absurd (false≢true (sym done))

-- ---- where a run is refused

-- The kernel's rules never speak of memory.
pub never_moved : (app : Application) (limit : ℕ) (moves : Moves) (move : PlainMove) → moved app limit moves move ≢ Err NoMemory
never_moved app limit moves move is = by (nat_eq (length moves.done) limit) is
  where
    by : (full : Bool) → cond full (Err MovesFull) (step app (state_of app moves) move) ≢ Err NoMemory
    by true is = grind (arith, is)
    by false is = never_no_memory app (state_of app moves) move is

never_looked : (goal : Option Condition) (moves : Moves) (r : Result Snapshot Refusal) → r ≢ Err NoMemory → looked_for goal moves r ≢ Refused NoMemory
never_looked goal moves (Ok s) other is = by (meets goal s) is
  where
    by : (met : Bool) → ended met moves ≢ Refused NoMemory
    by true is = grind (arith, is)
    by false is = grind (arith, is)
never_looked goal moves (Err refusal) other is =
    let same : refusal ≡ NoMemory = cc in
    other (ap (λ (r : Refusal). Err r) same)

never_on : (app : Application) (limit : ℕ) (goal : Option Condition) (run : PolicyRun) → run ≢ Refused NoMemory → run_on app limit goal run ≢ Refused NoMemory
never_on app limit goal (Going moves) other is =
    never_looked goal (moved_on moves (chosen app moves)) (moved app limit moves (chosen app moves)) (never_moved app limit moves (chosen app moves)) is
never_on app limit goal (AtGoal moves) other is = other is
never_on app limit goal (Refused refusal) other is = other is

pub never_ran : (app : Application) (limit : ℕ) (goal : Option Condition) (moves : Moves) (n : ℕ) → ran app limit goal moves n ≢ Refused NoMemory
never_ran app limit goal moves zero is = grind (arith, is)
never_ran app limit goal moves (suc n) is = never_on app limit goal (ran app limit goal moves n) (never_ran app limit goal moves n) is

abbrev is_stopped : PolicyRun → Bool
is_stopped (Going moves) = false
is_stopped (AtGoal moves) = false
is_stopped (Refused refusal) = true

-- A run of a move or more that isn't refused made its first one.
first_made : (app : Application) (limit : ℕ) (goal : Option Condition) (moves : Moves) (n : ℕ) → is_stopped (ran app limit goal moves (suc n)) ≡ false
    → IsTrue (can_make app limit moves (chosen app moves))
first_made app limit goal moves zero goes = by (moved app limit moves (chosen app moves)) goes
  where
    by : (r : Result Snapshot Refusal) → is_stopped (looked_for goal (moved_on moves (chosen app moves)) r) ≡ false → IsTrue (is_ok r)
    by (Ok s) goes = refl
    by (Err refusal) goes = absurd (false≢true (sym goes))
first_made app limit goal moves (suc n) goes = first_made app limit goal moves n (before (ran app limit goal moves (suc n)) goes)
  where
    before : (run : PolicyRun) → is_stopped (run_on app limit goal run) ≡ false → is_stopped run ≡ false
    before (Going there) goes = refl
    before (AtGoal there) goes = refl
    before (Refused refusal) goes = goes

abbrev moves_in : Moves → PolicyRun → Moves
moves_in other (Going moves) = moves
moves_in other (AtGoal moves) = moves
moves_in other (Refused refusal) = other

-- Where a run could make its next move, it could make its first one.
pub first_can : (app : Application) (limit : ℕ) (goal : Option Condition) (moves there : Moves) (made : ℕ) → run_of app limit goal moves made ≡ Going there
    → IsTrue (can_make app limit there (chosen app there)) → IsTrue (can_make app limit moves (chosen app moves))
first_can app limit goal moves there zero going next =
    subst (λ (ms : Moves). IsTrue (can_make app limit ms (chosen app ms))) (sym (ap (moves_in there) going)) next
first_can app limit goal moves there (suc n) going next = first_made app limit goal (record moves { undone = [] }) n (ap is_stopped going)
