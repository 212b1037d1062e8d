-- What a contract sees of a timeline.
use Rattle.std.specs.Prelude.{ℕ, ◌≡◌, ◌≢◌, ◌+◌, ◌-◌, ◌<◌, ◌≤◌, ◌⊎◌, List, ◌++◌, All}
use Rattle.std.specs.Prelude.{length, take, Err, IsOk, IsTrue}
use Rattle.rd_refusal.specs.declared.refusal.Refusal.{Refusal}
use Rattle.rd_refusal.specs.declared.refusal.Refusal.TheVariants.{MovesFull, NoMemory}
use Rattle.rd_app.specs.Application.{Application}
use Rattle.rd_state.specs.Change.{Change}
use Rattle.rd_state.specs.Snapshot.{Snapshot}
use Rattle.rd_moves.specs.Interrupts.{PlainInterrupt}
use Rattle.rd_moves.specs.Moves.{PlainMove}
use Rattle.rd_moves.specs.declared.carried.Carried.TheVariants as carried
use Rattle.rd_moves.specs.declared.moves.Move.TheVariants as move
use Rattle.rd_calls.specs.Step.{step}
use Rattle.rd_moves.specs.Moves.{IsMoveOf}
use Rattle.rd_timeline.specs.Decoded.{carried_in, carries}
use Rattle.rd_timeline.specs.History.{Retraces, CanRewind, state_after}
use Rattle.rd_timeline.specs.LogView.{bytes_of}
use Rattle.rd_timeline.specs.declared.logged.TheConstants.{MAX_KEPT_BYTES}

-- for how many moves done there is room, for how many of those that carry something, and for how
-- many bytes of records
pub record Capacity : Type 0 where
  pub moves : ℕ
  pub carried : ℕ
  pub bytes : ℕ

-- There is no less room than before.
pub record HasGrown (old new : Capacity) : Type 0 where
  pub moves : old.moves ≤ new.moves
  pub carried : old.carried ≤ new.carried
  pub bytes : old.bytes ≤ new.bytes

-- the application, how many moves may be done, the target as it is now, the moves done from boot in
-- order, the records of the last of them, and the moves undone, the one to be redone next first;
-- what there is room for; how many bytes of records were read to go back
pub record Course : Type 0 where
  pub app : Application
  pub limit : ℕ
  pub target : Snapshot
  pub done : List PlainMove
  pub log : List (List Change)
  pub undone : List PlainMove
  pub room : Capacity
  pub read : ℕ

-- how many of the moves done have no record any more
abbrev pub base_of : Course → ℕ
base_of course = length course.done - length course.log

-- All is as it was, but for the room.
abbrev pub IsAsItWas : Course → Course → Type 0
IsAsItWas old new = new ≡ record old { room = new.room }

-- The moves can be made from boot, one after the other, and there is room for as many, and for what
-- they carry.
pub record AreMade (app : Application) (limit : ℕ) (room : Capacity) (moves : List PlainMove)
    : Type 0 where
  pub state : IsOk (state_after app moves)
  pub named : All (IsMoveOf app) moves
  pub within : length moves ≤ limit
  pub has_room : length moves ≤ room.moves
  pub has_carried_room : carried_in moves ≤ room.carried

-- From the base on there is a record for each move done. Going back by them retraces these moves,
-- and can be done. From there the moves undone lead on.
pub record IsTraced (course : Course) : Type 0 where
  pub records : length course.log ≤ length course.done
  pub retraces : Retraces course.app (base_of course) course.done course.log course.target
  pub rewinds : CanRewind course.target course.log
  pub made : AreMade course.app course.limit course.room (course.done ++ course.undone)

-- the move of an interrupt
abbrev pub by_interrupt : PlainInterrupt → PlainMove
by_interrupt interrupt = move.Carried (carried.Interrupt interrupt)

-- The moves done are at their limit.
abbrev pub IsFull : Course → Type 0
IsFull course = length course.done ≡ course.limit

-- The limit allows a move more, but the kernel's rules refuse this one.
abbrev pub IsRefusedBy : Course → PlainMove → Refusal → Type 0
IsRefusedBy course move refusal =
    (length course.done ≢ course.limit) × (step course.app course.target move ≡ Err refusal)

-- The limit allows a move more, and the kernel's rules give the state after this one.
abbrev pub CanGo : Course → PlainMove → Type 0
CanGo course move = (length course.done ≢ course.limit) × IsOk (step course.app course.target move)

-- There is no room for the longest record behind those that are kept.
abbrev pub LacksBytes : Course → Type 0
LacksBytes course = course.room.bytes < bytes_of course.log + MAX_KEPT_BYTES

-- There is no room for a move more, or none for the longest record; or, for a move that carries
-- something, none for that.
abbrev pub LacksRoom : Course → PlainMove → Type 0
LacksRoom course move =
    (course.room.moves ≤ length course.done) ⊎ LacksBytes course
    ⊎ (IsTrue (carries move) × (course.room.carried ≤ carried_in course.done))

-- A move was made with room for the longest record behind those before it.
abbrev pub IsAhead : Course → Type 0
IsAhead course =
    bytes_of (take (length course.log - 1) course.log) + MAX_KEPT_BYTES ≤ course.room.bytes

-- Why a move isn't made: the moves done are at their limit, or else the kernel's rules refuse it,
-- or else there is no memory for it.
abbrev pub IsWhyNot : Course → PlainMove → Refusal → Type 0
IsWhyNot course move refusal =
    (IsFull course × (refusal ≡ MovesFull)) ⊎ IsRefusedBy course move refusal
    ⊎ (CanGo course move × (refusal ≡ NoMemory))
