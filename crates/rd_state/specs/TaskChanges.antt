-- The primitive changes of a task: what each does, and what undoes it.
use Rattle.std.specs.Prelude.{ℕ, ◌≡◌, ◌^◌, ◌<◌, ◌≤◌, List, length, slice_index, slice_index_or}
use Rattle.std.specs.Prelude.{slice_set}
use Rattle.rd_bytes.specs.declared.bytes.TheConstants.{MAX_BYTES}
use Rattle.rd_app.specs.declared.app.TheConstants.{MAX_CODE}
use Rattle.rd_app.specs.declared.instr.TheConstants.{REGISTERS}
use Rattle.rd_notify.specs.declared.entries.Entry.{Entry}
use Rattle.rd_notify.specs.Entries.{idle_entry}
use Rattle.rd_state.specs.declared.phase.Phase.{Phase}
use Rattle.rd_state.specs.declared.task_change.TaskChange as declared
use Rattle.rd_state.specs.declared.task_change.TaskChange.TheVariants as borrowed
use Rattle.rd_state.specs.Sizes.{IsSizedTask}
use Rattle.rd_state.specs.Snapshot.{TaskSnapshot}

-- a primitive change of a task, whatever lends its bytes
pub data TaskChange : Type 0 where
  -- The task stands at this instruction.
  SetPc : ℕ → TaskChange
  -- The register becomes the value.
  SetReg : ℕ → ℕ → TaskChange
  -- The task is in this phase.
  SetPhase : Phase → TaskChange
  -- The notification entry becomes this one.
  SetEntry : ℕ → Entry → TaskChange
  -- The data becomes these bytes.
  SetData : List ℕ → TaskChange

-- the change that one with borrowed bytes is
abbrev pub the_task_change : declared.TaskChange → TaskChange
the_task_change (borrowed.SetPc pc) = SetPc pc
the_task_change (borrowed.SetReg register value) = SetReg register value
the_task_change (borrowed.SetPhase phase) = SetPhase phase
the_task_change (borrowed.SetEntry index entry) = SetEntry index entry
the_task_change (borrowed.SetData bytes) = SetData bytes.now

-- the task after a change
abbrev pub task_applied : TaskSnapshot → TaskChange → TaskSnapshot
task_applied task (SetPc pc) = record task { pc = pc }
task_applied task (SetReg register value) =
    record task { registers = slice_set task.registers register value }
task_applied task (SetPhase phase) = record task { phase = phase }
task_applied task (SetEntry index entry) =
    record task { entries = slice_set task.entries index entry }
task_applied task (SetData bytes) = record task { bytes = bytes }

-- the change that undoes a change made at this task
abbrev pub task_inverse_of : TaskSnapshot → TaskChange → TaskChange
task_inverse_of task (SetPc pc) = SetPc task.pc
task_inverse_of task (SetReg register value) = SetReg register (slice_index task.registers register)
task_inverse_of task (SetPhase phase) = SetPhase task.phase
task_inverse_of task (SetEntry index entry) =
    SetEntry index (slice_index_or task.entries index idle_entry)
task_inverse_of task (SetData bytes) = SetData task.bytes

-- An instruction can have that number, the register or the entry is there and can hold the
-- value, and the bytes fit a task's data.
abbrev pub TaskFits : TaskSnapshot → TaskChange → Type 0
TaskFits task (SetPc pc) = pc ≤ MAX_CODE
TaskFits task (SetReg register value) = (register < REGISTERS) × (value < 2 ^ 32)
TaskFits task (SetPhase phase) = Unit {0}
TaskFits task (SetEntry index entry) = (index < length task.entries) × (entry.value < 2 ^ 32)
TaskFits task (SetData bytes) = length bytes ≤ MAX_BYTES

-- the bytes that a change carries
abbrev pub task_saved_bytes : TaskChange → ℕ
task_saved_bytes (SetPc pc) = 0
task_saved_bytes (SetReg register value) = 0
task_saved_bytes (SetPhase phase) = 0
task_saved_bytes (SetEntry index entry) = 0
task_saved_bytes (SetData bytes) = length bytes

-- A change that is undone leaves the task as it was, and what undoes it fits.
pub record TaskIsUndone (task : TaskSnapshot) (change : TaskChange) : Type 0 where
  pub back : task_applied (task_applied task change) (task_inverse_of task change) ≡ task
  pub fits : TaskFits (task_applied task change) (task_inverse_of task change)
  pub sized : IsSizedTask (task_applied task change)

-- whichever change it is, at whichever task it fits
abbrev pub EachTaskChangeIsUndone : Type 0
EachTaskChangeIsUndone = (task : TaskSnapshot) (change : TaskChange) → IsSizedTask task
    → TaskFits task change → TaskIsUndone task change
