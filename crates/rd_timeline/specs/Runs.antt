-- Whole runs: what comes of a request, and what a list of requests leaves of the moves done and
-- undone, and of the base. A refused request leaves them.
use Rattle.std.specs.Prelude.{ℕ, ◌≡◌, ◌-◌, Bool, true, false, IsTrue, List, [], ◌∷◌, ◌++◌}
use Rattle.std.specs.Prelude.{zero, suc, length, take, drop, fold, max, slice_get, nat_eq, nat_le}
use Rattle.std.specs.Prelude.{if◌then◌else◌, Option, None, Some, Result, Ok, Err, is_ok}
use Rattle.rd_refusal.specs.declared.refusal.Refusal.{Refusal}
use Rattle.rd_refusal.specs.declared.refusal.Refusal.TheVariants.{MovesFull, NothingUndone, TooFar}
use Rattle.rd_app.specs.Application.{Application}
use Rattle.rd_state.specs.Boot.{boot_of}
use Rattle.rd_state.specs.Snapshot.{Snapshot}
use Rattle.rd_moves.specs.Moves.{PlainMove}
use Rattle.rd_calls.specs.Step.{move_answer, policy_of, step}
use Rattle.rd_condition.specs.declared.condition.Condition.{Condition}
use Rattle.rd_condition.specs.Conditions.{holds}
use Rattle.rd_moves.specs.Requests.{PlainRequest}
use Rattle.rd_moves.specs.declared.answer.SearchEnd.{SearchEnd}
use Rattle.rd_moves.specs.declared.answer.SearchEnd.TheVariants.{Met, Limit, Start}
use Rattle.rd_moves.specs.declared.request.Request.TheVariants.{Go, Back, Forward, Redo, Until}
use Rattle.rd_moves.specs.declared.request.Request.TheVariants.{BackUntil, Trim}
use Rattle.rd_timeline.specs.Backward.{last_met}
use Rattle.rd_timeline.specs.Course.{Course, base_of}
use Rattle.rd_timeline.specs.History.{state_after, state_or}

-- the moves done and undone, and how many of those done have no record any more
pub record Moves : Type 0 where
  pub done : List PlainMove
  pub undone : List PlainMove
  pub base : ℕ

abbrev pub moves_of : Course → Moves
moves_of course = record { done = course.done; undone = course.undone; base = base_of course }

-- how many of the moves done have a record
abbrev pub kept : Moves → ℕ
kept moves = length moves.done - moves.base

-- the state that the moves done give
abbrev pub state_of : Application → Moves → Snapshot
state_of app moves = state_or (boot_of app) (state_after app moves.done)

-- the move that policy chooses next
abbrev pub chosen : Application → Moves → PlainMove
chosen app moves = policy_of (state_of app moves)

-- where the condition held last, of the places that records lead back to
abbrev pub last_place : Application → Condition → Moves → Option ℕ
last_place app condition moves = last_met app condition moves.base moves.done (kept moves)

-- the state that one move more gives, or why it is refused: where the limit allows none that is
-- why, else what the kernel's rules say
abbrev pub moved : Application → ℕ → Moves → PlainMove → Result Snapshot Refusal
moved app limit moves move =
    if nat_eq (length moves.done) limit then Err MovesFull else step app (state_of app moves) move

-- Can the move be made? The limit allows one more, and it gives a state.
abbrev pub can_make : Application → ℕ → Moves → PlainMove → Bool
can_make app limit moves move = is_ok (moved app limit moves move)

-- ---- the moves that are left

-- the move is the last one done, and the moves undone are forgotten
abbrev pub moved_on : Moves → PlainMove → Moves
moved_on moves move = record moves { done = moves.done ++ move ∷ []; undone = [] }

-- so many moves are done, and those behind them undone
abbrev pub back_at : Moves → ℕ → Moves
back_at moves at = record moves {
  done = take at moves.done;
  undone = drop at moves.done ++ moves.undone;
}

-- so many of the moves undone are done again
abbrev pub redone : Moves → ℕ → Moves
redone moves count = record moves {
  done = moves.done ++ take count moves.undone;
  undone = drop count moves.undone;
}

-- the records of the last moves, so many of them, are kept, and those before given up
abbrev pub trimmed : Moves → ℕ → Moves
trimmed moves keep = record moves { base = max moves.base (length moves.done - keep) }

-- ---- runs by policy

-- what has become of a run: it left these moves and goes on, or it met its goal there; or a move
-- was refused
pub data PolicyRun : Type 0 where
  Going : Moves → PolicyRun
  AtGoal : Moves → PolicyRun
  Refused : Refusal → PolicyRun

-- a run whose goal is met, or not
abbrev pub ended : Bool → Moves → PolicyRun
ended met moves = if met then AtGoal moves else Going moves

-- Is the goal met, if there is one?
abbrev pub meets : Option Condition → Snapshot → Bool
meets None s = false
meets (Some condition) s = holds s condition

-- the goal is looked for where a move left these moves, and gave a state or was refused
abbrev pub looked_for : Option Condition → Moves → Result Snapshot Refusal → PolicyRun
looked_for goal moves (Ok s) = ended (meets goal s) moves
looked_for goal moves (Err refusal) = Refused refusal

-- one move more, unless the run is at its end
abbrev pub run_on : Application → ℕ → Option Condition → PolicyRun → PolicyRun
run_on app limit goal (Going moves) =
    looked_for goal (moved_on moves (chosen app moves)) (moved app limit moves (chosen app moves))
run_on app limit goal (AtGoal moves) = AtGoal moves
run_on app limit goal (Refused refusal) = Refused refusal

-- so many moves, one after the other
abbrev pub ran : Application → ℕ → Option Condition → Moves → ℕ → PolicyRun
ran app limit goal moves zero = Going moves
ran app limit goal moves (suc n) = run_on app limit goal (ran app limit goal moves n)

-- a run to a goal, if it has one, of so many moves at the most; the moves undone are forgotten
abbrev pub run_of : Application → ℕ → Option Condition → Moves → ℕ → PolicyRun
run_of app limit goal moves count = ran app limit goal (record moves { undone = [] }) count

-- ---- what comes of a request

-- what is said of a request that is done besides how many moves are done then: nothing, how a
-- search came to its end, or what an interrupt answered
pub data Ending : Type 0 where
  Plain : Ending
  Searched : SearchEnd → Ending
  Answers : ℕ → Ending

-- What comes of a request. It is done: these are the moves that it leaves, and how it ends. Or it
-- is refused, for this cause, and the moves stay.
pub data Response : Type 0 where
  Leaves : Moves → Ending → Response
  Refuses : Refusal → Response

-- a move that answers this, if it answers something
abbrev pub ending_of : Option ℕ → Ending
ending_of None = Plain
ending_of (Some answer) = Answers answer

-- what comes of a move, which ends so and gives this state or is refused
abbrev pub go_response : Moves → PlainMove → Ending → Result Snapshot Refusal → Response
go_response moves move end (Ok s) = Leaves (moved_on moves move) end
go_response moves move end (Err refusal) = Refuses refusal

-- A run that has a goal is a search, which came to this end.
abbrev pub end_of : Option Condition → SearchEnd → Ending
end_of None end = Plain
end_of (Some condition) end = Searched end

-- what comes of a run to a goal, if it has one
abbrev pub run_response : Option Condition → PolicyRun → Response
run_response goal (Going moves) = Leaves moves (end_of goal Limit)
run_response goal (AtGoal moves) = Leaves moves (end_of goal Met)
run_response goal (Refused refusal) = Refuses refusal

-- what comes of a search back, where the condition held last at this place, or at none
abbrev pub search_response : Moves → Option ℕ → Response
search_response moves None = Leaves (back_at moves moves.base) (Searched Start)
search_response moves (Some at) = Leaves (back_at moves at) (Searched Met)

-- What comes of each request, where so many moves may be done, and these are done and undone. The
-- last moves done are undone, where so many have a record, or the first moves undone are done
-- again, where there are so many. A run is made by policy, or not at all. The way back to where a
-- condition holds is the shortest, or as far as records lead. A trim leaves the moves.
abbrev pub response_to : Application → ℕ → Moves → PlainRequest → Response
response_to app limit moves (Go action) =
    go_response moves action (ending_of (move_answer (state_of app moves) action))
    (moved app limit moves action)
response_to app limit moves (Back count) =
    if nat_le count (kept moves) then Leaves (back_at moves (length moves.done - count)) Plain
    else Refuses (TooFar (kept moves))
response_to app limit moves (Forward count) =
    run_response None (run_of app limit None moves count)
response_to app limit moves (Redo count) =
    if nat_le count (length moves.undone) then Leaves (redone moves count) Plain
    else Refuses NothingUndone
response_to app limit moves (Until condition count) =
    run_response (Some condition) (run_of app limit (Some condition) moves count)
response_to app limit moves (BackUntil condition) =
    search_response moves (last_place app condition moves)
response_to app limit moves (Trim keep) = Leaves (trimmed moves keep) Plain

-- the moves after it, which were these before
abbrev pub moves_after : Moves → Response → Moves
moves_after moves (Leaves new end) = new
moves_after moves (Refuses refusal) = moves

-- the moves that the request leaves
abbrev pub answered : Application → ℕ → Moves → PlainRequest → Moves
answered app limit moves request = moves_after moves (response_to app limit moves request)

-- ---- what needs memory

-- What a request lays on the moves done, unless it is refused: a move of its own, those that policy
-- chooses, so many of those undone again, or nothing.
pub data Lays : Type 0 where
  OwnMove : PlainMove → Lays
  ByPolicy : Lays
  Again : ℕ → Lays
  Nothing : Lays

abbrev pub lays : PlainRequest → Lays
lays (Go action) = OwnMove action
lays (Back count) = Nothing
lays (Forward count) = ByPolicy
lays (Redo count) = Again count
lays (Until condition count) = ByPolicy
lays (BackUntil condition) = Nothing
lays (Trim keep) = Nothing

-- Can it be laid on, or the first move of it?
abbrev pub can_lay : Application → ℕ → Moves → Lays → Bool
can_lay app limit moves (OwnMove move) = can_make app limit moves move
can_lay app limit moves ByPolicy = can_make app limit moves (chosen app moves)
can_lay app limit moves (Again count) = nat_le count (length moves.undone)
can_lay app limit moves Nothing = false

-- Does the request make a move, or begin to? Only then is memory needed.
abbrev pub makes_move : Application → ℕ → Moves → PlainRequest → Bool
makes_move app limit moves request = can_lay app limit moves (lays request)

-- Does it lay on any move?
abbrev pub is_any : Lays → Bool
is_any (OwnMove move) = true
is_any ByPolicy = true
is_any (Again count) = true
is_any Nothing = false

-- Can the request make moves at all? Only these may take memory.
abbrev pub may_make_moves : PlainRequest → Bool
may_make_moves request = is_any (lays request)

-- ---- lists of requests

-- the requests, one after the other
abbrev pub all_answered : Application → ℕ → Moves → List PlainRequest → Moves
all_answered app limit moves requests = fold (answered app limit) moves requests

-- The requests before one that makes a move are answered, and nothing more.
pub record StopsBefore (app : Application) (limit : ℕ) (old new : Moves)
    (requests : List PlainRequest) : Type 0 where
  pub before : ℕ
  pub request : PlainRequest
  pub there : slice_get requests before ≡ Some request
  pub makes : IsTrue (makes_move app limit new request)
  pub answered_before : new ≡ all_answered app limit old (take before requests)
