-- The handles of queue sets, from move to move.
use Rattle.std.specs.Prelude.{ℕ, ◌≡◌, List, Option, None, Some, Ok}
use Rattle.rd_app.specs.Application.{Application}
use Rattle.rd_state.specs.Snapshot.{Snapshot, core_at}
use Rattle.rd_queue_calls.specs.QueueSetLaws.{handles_in}
use Rattle.rd_moves.specs.Moves.{PlainMove}
use Rattle.rd_moves.specs.declared.moves.Move.TheVariants.{Carried, Core, Tick}
use Rattle.rd_calls.specs.Carried.{handles_carried}
use Rattle.rd_calls.specs.Step.{handles_performed, next_instr, step}

-- the handles after the instruction of a core's task
abbrev pub handles_run : Application → Snapshot → Option ℕ → List (List ℕ)
handles_run app s None = handles_in s
handles_run app s (Some task) = handles_performed s (next_instr app s task)

-- after a move: those after the instruction of the core's task, or after what it carries; a tick
-- changes none
abbrev pub handles_moved : Application → Snapshot → PlainMove → List (List ℕ)
handles_moved app s (Core core) = handles_run app s (core_at s core)
handles_moved app s Tick = handles_in s
handles_moved app s (Carried carried) = handles_carried s carried

-- What becomes of callers, whose time is up, who is woken and who runs: none of it changes handles.
abbrev pub HandlesGoByMoves : Type 0
HandlesGoByMoves =
    (app : Application) (s s' : Snapshot) (move : PlainMove) → step app s move ≡ Ok s'
    → handles_in s' ≡ handles_moved app s move
