-- What one may count on when going on and back, over any courses of a timeline.
use Rattle.std.specs.Prelude.{ℕ, ◌≡◌, ◌+◌, ◌*◌, ◌<◌, ◌≤◌, Bool, true, false, [], ◌∷◌, length}
use Rattle.std.specs.Prelude.{min, take, Option, IfSome, IfNone}
use Rattle.rd_app.specs.Application.{Application}
use Rattle.rd_state.specs.Valid.{IsValid}
use Rattle.rd_timeline.specs.declared.logged.TheConstants.{MAX_KEPT_BYTES}
use Rattle.rd_moves.specs.declared.carried.Carried.TheVariants as carried
use Rattle.rd_moves.specs.declared.moves.Move.TheVariants as move
use Rattle.rd_moves.specs.declared.request.Request.TheVariants.{Go, Back, Forward, Redo, Until}
use Rattle.rd_moves.specs.declared.request.Request.TheVariants.{BackUntil, Trim}
use Rattle.rd_moves.specs.Edits.{PlainEdit}
use Rattle.rd_condition.specs.declared.condition.Condition.{Condition}
use Rattle.rd_moves.specs.Requests.{PlainRequest}
use Rattle.rd_timeline.specs.Backward.{holds_in}
use Rattle.rd_timeline.specs.Course.{Course}
use Rattle.rd_timeline.specs.History.{state_after}
use Rattle.rd_timeline.specs.LogView.{bytes_of}
use Rattle.rd_timeline.specs.Redoing.{RedoLacksRoom}
use Rattle.rd_timeline.specs.Running.{MayLackMemory}
use Rattle.rd_timeline.specs.Runs.{Moves, Response, Leaves, Refuses, answered, kept, last_place}
use Rattle.rd_timeline.specs.Runs.{response_to, state_of}

-- Is a request refused, however much memory there is?
abbrev pub is_refusal : Response → Bool
is_refusal (Leaves moves end) = false
is_refusal (Refuses refusal) = true

abbrev pub is_refused : Application → ℕ → Moves → PlainRequest → Bool
is_refused app limit moves request = is_refusal (response_to app limit moves request)

-- Moves that are taken back and then made again leave all as it was before.
abbrev pub RedoUndoesBack : Type 0
RedoUndoesBack = (app : Application) (limit : ℕ) (moves : Moves) (count : ℕ)
    → count ≤ kept moves → count ≤ length moves.done
    → answered app limit (answered app limit moves (Back count)) (Redo count) ≡ moves

-- What comes of a run behind another is what comes of one run that is as long as both.
abbrev pub RunsAddUp : Type 0
RunsAddUp = (app : Application) (limit : ℕ) (moves : Moves) (first then : ℕ)
    → is_refused app limit moves (Forward first) ≡ false
    → response_to app limit (answered app limit moves (Forward first)) (Forward then)
    ≡ response_to app limit moves (Forward (first + then))

-- Of the places that records lead back to, the condition holds at this one, and at no later one
-- before the end.
pub record HeldLast (app : Application) (condition : Condition) (moves : Moves) (end at : ℕ)
    : Type 0 where
  pub from_base : moves.base ≤ at
  pub earlier : at < end
  pub holds : holds_in condition (state_after app (take at moves.done)) ≡ true
  pub later : (place : ℕ) → at < place → place < end
      → holds_in condition (state_after app (take place moves.done)) ≡ false

-- It holds at none of them.
abbrev pub NeverHeld : Application → Condition → Moves → ℕ → Type 0
NeverHeld app condition moves end = (place : ℕ) → moves.base ≤ place → place < end
    → holds_in condition (state_after app (take place moves.done)) ≡ false

-- A search back finds the last place before the one where it began at which the condition holds,
-- of those that records lead back to, and none just where there is none.
abbrev pub BackFindsTheLast : Type 0
BackFindsTheLast = (app : Application) (condition : Condition) (moves : Moves)
    → moves.base ≤ length moves.done
    → IfSome (last_place app condition moves) (HeldLast app condition moves (length moves.done))
    × IfNone (last_place app condition moves) (NeverHeld app condition moves (length moves.done))

-- An edit that is made and taken back leaves no trace: the moves done, so the target too, and the
-- base are as they were, and it is undone.
abbrev pub EditsLeaveNoTrace : Type 0
EditsLeaveNoTrace = (app : Application) (limit : ℕ) (moves : Moves) (edit : PlainEdit)
    → moves.base ≤ length moves.done
    → let action = move.Carried (carried.Edit edit) in
    is_refused app limit moves (Go action) ≡ false
    → answered app limit (answered app limit moves (Go action)) (Back 1)
    ≡ record moves { undone = action ∷ [] }

-- ---- room

-- There is room for so many of the longest records behind those that are kept.
abbrev pub HasRoomFor : ℕ → Course → Type 0
HasRoomFor count course = bytes_of course.log + count * MAX_KEPT_BYTES ≤ course.room.bytes

-- With that room so many moves are made again without any memory.
abbrev pub RedoHasRoom : Type 0
RedoHasRoom = (old : Course) (count : ℕ) → IsValid old.app old.target → HasRoomFor count old
    → ¬ RedoLacksRoom old count

-- With that room, where there is room for as many moves more and none is undone, a run of so many
-- moves has no need of memory.
abbrev pub RunHasRoom : Type 0
RunHasRoom = (old : Course) (goal : Option Condition) (count : ℕ) → IsValid old.app old.target
    → HasRoomFor count old → length old.done + count ≤ old.room.moves → old.undone ≡ []
    → ¬ MayLackMemory old goal count

-- ---- refusals

-- A refused request of any kind leaves the moves done, so the target too, the moves undone and the
-- base.
abbrev pub RefusedRequestsLeaveAll : Type 0
RefusedRequestsLeaveAll = (app : Application) (limit : ℕ) (moves : Moves) (request : PlainRequest)
    → is_refused app limit moves request ≡ true → answered app limit moves request ≡ moves

-- ---- trims

-- The moves done and the moves undone are the same, and so is the target.
pub record AreSameMoves (app : Application) (old new : Moves) : Type 0 where
  pub done : new.done ≡ old.done
  pub undone : new.undone ≡ old.undone
  pub target : state_of app new ≡ state_of app old

-- A trim leaves the target, the moves done and the moves undone.
abbrev pub TrimLeavesMoves : Type 0
TrimLeavesMoves = (app : Application) (limit : ℕ) (moves : Moves) (keep : ℕ)
    → AreSameMoves app moves (answered app limit moves (Trim keep))

-- A trim and then another are one to the smaller of both numbers.
abbrev pub TrimsMeet : Type 0
TrimsMeet = (app : Application) (limit : ℕ) (moves : Moves) (first then : ℕ)
    → answered app limit (answered app limit moves (Trim first)) (Trim then)
    ≡ answered app limit moves (Trim (min first then))

-- What was kept can still be undone, with the same outcome as without the trim, and be redone.
pub record GoesAsBefore (app : Application) (limit : ℕ) (moves trimmed : Moves) (count : ℕ)
    : Type 0 where
  pub can : is_refused app limit trimmed (Back count) ≡ false
  pub back : AreSameMoves app (answered app limit moves (Back count))
      (answered app limit trimmed (Back count))
  pub can_redo : is_refused app limit (answered app limit trimmed (Back count)) (Redo count)
      ≡ false
  pub again : answered app limit (answered app limit trimmed (Back count)) (Redo count) ≡ trimmed

abbrev pub KeptGoesAsBefore : Type 0
KeptGoesAsBefore = (app : Application) (limit : ℕ) (moves : Moves) (keep count : ℕ)
    → count ≤ keep → count ≤ kept moves
    → GoesAsBefore app limit moves (answered app limit moves (Trim keep)) count

-- Is it a trim?
abbrev pub is_trim : PlainRequest → Bool
is_trim (Go action) = false
is_trim (Back count) = false
is_trim (Forward count) = false
is_trim (Redo count) = false
is_trim (Until condition count) = false
is_trim (BackUntil condition) = false
is_trim (Trim keep) = true

-- No request lowers the base, and none but a trim changes it.
abbrev pub OnlyTrimsMoveTheBase : Type 0
OnlyTrimsMoveTheBase = (app : Application) (limit : ℕ) (moves : Moves) (request : PlainRequest)
    → (moves.base ≤ (answered app limit moves request).base)
    × (is_trim request ≡ false → (answered app limit moves request).base ≡ moves.base)

-- No more moves lack a record than are done, whatever is asked.
abbrev pub BaseIsWithinMoves : Type 0
BaseIsWithinMoves = (app : Application) (limit : ℕ) (moves : Moves) (request : PlainRequest)
    → moves.base ≤ length moves.done
    → (answered app limit moves request).base ≤ length (answered app limit moves request).done
