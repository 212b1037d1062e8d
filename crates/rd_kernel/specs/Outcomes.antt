-- What a kernel call does, and what becomes of its caller.
use Rattle.std.specs.Prelude.{ℕ, ◌≡◌, ◌+◌, ◌<◌, ◌≤◌, List, length, if◌then◌else◌}
use Rattle.rd_app.specs.declared.instr.Operand.{Operand}
use Rattle.rd_app.specs.Application.{Application}
use Rattle.rd_state.specs.declared.phase.Phase.{Phase}
use Rattle.rd_state.specs.declared.phase.Phase.TheVariants.{Run, Wait, Failed}
use Rattle.rd_state.specs.declared.phase.Listed.{Listed}
use Rattle.rd_state.specs.declared.phase.Place.TheVariants as sort
use Rattle.rd_state.specs.EditingView.{EditingView, Reaches}
use Rattle.rd_state.specs.Sizes.{IsSizedPhase}
use Rattle.rd_state.specs.Snapshot.{Snapshot, numbers_of, task_at}
use Rattle.rd_state.specs.Objects.{Numbers}
use Rattle.rd_state.specs.Valid.{IsValid, times_to_run}
use Rattle.rd_state.specs.Waiting.{HasList, waiting_at}
use Rattle.rd_kernel.specs.declared.outcome.Outcome.{Outcome}
use Rattle.rd_kernel.specs.declared.outcome.Outcome.TheVariants.{Returns, ReturnsBoth, Waits, Fails}
use Rattle.rd_kernel.specs.Tasks.{with_idle_core, with_register, with_pc, with_phase}
use Rattle.rd_kernel.specs.Waking.{ReadyHasRoom, deadline_of, may_wait, with_waiter, woken_first}

-- A task that runs calls the kernel, at a valid state. Wherever it may wait there is room for it,
-- and the ready list has room for whomever it wakes.
pub record IsCalling (app : Application) (s : Snapshot) (task : ℕ) : Type 0 where
  pub valid : IsValid app s
  pub there : task < length s.tasks
  pub runs : 1 ≤ times_to_run (task_at s task).phase
  pub room_to_wait : (list : Listed) → HasList s list
      → length (waiting_at s list) < length s.tasks
  pub room_to_wake : ReadyHasRoom s

-- the state that a call leaves, and what becomes of the caller
pub record Called : Type 0 where
  pub state : Snapshot
  pub outcome : Outcome

-- a call that returns
abbrev pub call_returns : Snapshot → ℕ → Called
call_returns s value = record { state = s; outcome = Returns value }

-- a call that returns a value, and gives its caller another in r1
abbrev pub call_gives : Snapshot → ℕ → ℕ → Called
call_gives s value second = record { state = s; outcome = ReturnsBoth value second }

-- pdPASS; errQUEUE_FULL and errQUEUE_EMPTY
abbrev pub call_passes : Snapshot → Called
call_passes s = call_returns s 1

abbrev pub call_fails : Snapshot → Called
call_fails s = call_returns s 0

-- A call that can't be done waits in a list, where its block time lasts, and else fails.
abbrev pub blocked : List ℕ → Snapshot → ℕ → Listed → Operand → Called
blocked priorities s task list wait =
    if may_wait s task wait
    then record {
      state = with_waiter priorities s list task;
      outcome = Waits (sort.Listed list) (deadline_of s task wait);
    }
    else call_fails s

-- A call that was done passes, and the first who waits for what it leaves is woken. Whoever is
-- woken isn't handed anything: it tries again when it runs.
abbrev pub passed : List ℕ → Snapshot → Listed → Called
passed priorities s list = call_passes (woken_first priorities s list)

-- the caller after its call: the value stands in r0 and the script goes on
abbrev pub returned : Snapshot → ℕ → ℕ → Snapshot
returned s task value =
    with_pc (with_phase (with_register s task 0 value) task Run) task ((task_at s task).pc + 1)

-- the caller off its core, in another phase
abbrev pub stopped : Snapshot → ℕ → ℕ → Phase → Snapshot
stopped s core task phase = with_idle_core (with_phase s task phase) core

-- and where it waits or has failed: it has left its core
abbrev pub concluded : Called → ℕ → ℕ → Snapshot
concluded called core task = concluded_as called.state core task called.outcome
  where
    concluded_as : Snapshot → ℕ → ℕ → Outcome → Snapshot
    concluded_as s core task (Returns value) = returned s task value
    concluded_as s core task (ReturnsBoth value second) =
        returned (with_register s task 1 second) task value
    concluded_as s core task (Waits place deadline) = stopped s core task (Wait place deadline)
    concluded_as s core task (Fails cause) = stopped s core task (Failed cause)

-- A task that is to wait, waits at a place that is there, until a deadline that is one.
abbrev pub IsSizedOutcome : Numbers → Outcome → Type 0
IsSizedOutcome numbers (Returns value) = Unit {0}
IsSizedOutcome numbers (ReturnsBoth value second) = Unit {0}
IsSizedOutcome numbers (Waits place deadline) = IsSizedPhase numbers (Wait place deadline)
IsSizedOutcome numbers (Fails cause) = Unit {0}

-- The call has been done, at that cost at the most, and this became of the caller.
pub record DoesCall (old new : EditingView) (called : Called) (cost : ℕ) (outcome : Outcome) : Type 0 where
  pub comes : Reaches old new called.state cost
  pub becomes : outcome ≡ called.outcome
  pub sized : IsSizedOutcome (numbers_of new.now) outcome
