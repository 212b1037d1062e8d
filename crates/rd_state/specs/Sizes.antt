-- What holds of a state at any time, also in the middle of a step: members of lists are tasks, and
-- lengths are within what there is room for.
use Rattle.std.specs.Prelude.{ℕ, ◌≡◌, ◌<◌, ◌≤◌, ◌^◌, length, All, Option, Some, None, IfSome}
use Rattle.rd_bytes.specs.declared.bytes.TheConstants.{MAX_BYTES}
use Rattle.rd_app.specs.declared.app.TheConstants.{MAX_CODE, MAX_TASKS}
use Rattle.rd_app.specs.declared.instr.TheConstants.{REGISTERS}
use Rattle.rd_app.specs.declared.profile.TheConstants.{MAX_CORES}
use Rattle.rd_group.specs.declared.wish.TheConstants.{MAX_BITS}
use Rattle.rd_notify.specs.declared.entries.Entry.{Entry}
use Rattle.rd_notify.specs.declared.entries.TheConstants.{MAX_ENTRIES}
use Rattle.rd_state.specs.declared.phase.Phase.{Phase}
use Rattle.rd_state.specs.declared.phase.Place.{Place}
use Rattle.rd_state.specs.Phases.{given_bits, kept_deadline, waits_at}
use Rattle.rd_state.specs.Objects.{AreSizedObjects, Numbers}
use Rattle.rd_state.specs.Snapshot.{Snapshot, TaskSnapshot, numbers_of}
use Rattle.rd_state.specs.Waiting.{IsPlace}

-- a core's task, if it has one, is one of that many
abbrev pub IsTaskOrIdle : ℕ → Option ℕ → Type 0
IsTaskOrIdle tasks running = IfSome running (λ task. task < tasks)

-- The instruction that comes next can be one of a script, and each register and each value of an
-- entry has 32 bits.
pub record IsSizedTask (task : TaskSnapshot) : Type 0 where
  pub pc : task.pc ≤ MAX_CODE
  pub registers : length task.registers ≡ REGISTERS
  pub values : All (λ value. value < 2 ^ 32) task.registers
  pub bytes : length task.bytes ≤ MAX_BYTES
  pub entries : All (λ (entry : Entry). entry.value < 2 ^ 32) task.entries
  pub few_entries : length task.entries ≤ MAX_ENTRIES

-- A deadline, where there is one, is a sum of a tick and a block time.
abbrev pub IsDeadline : Option ℕ → Type 0
IsDeadline deadline = IfSome deadline (λ tick. tick < 2 ^ 33)

-- A task waits at a place that is there, where there are so many objects, or was given bits that an
-- event group can have.
abbrev pub IsSizedWait : Numbers → Option Place → Option ℕ → Option ℕ → Type 0
IsSizedWait numbers None deadline None = IsDeadline deadline
IsSizedWait numbers None deadline (Some bits) = bits ≤ MAX_BITS
IsSizedWait numbers (Some place) deadline given = IsPlace numbers place × IsDeadline deadline

abbrev pub IsSizedPhase : Numbers → Phase → Type 0
IsSizedPhase numbers phase =
    IsSizedWait numbers (waits_at phase) (kept_deadline phase) (given_bits phase)

-- the time, who has the turn, who runs, and who is ready
pub record IsSizedScheduling (s : Snapshot) : Type 0 where
  pub tick : s.tick < 2 ^ 32
  pub turn : s.turn ≤ length s.cores
  pub cores : All (IsTaskOrIdle (length s.tasks)) s.cores
  pub few_cores : length s.cores ≤ MAX_CORES
  pub ready : All (λ task. task < length s.tasks) s.ready
  pub room : length s.ready ≤ length s.tasks

pub record AreSizedTasks (s : Snapshot) : Type 0 where
  pub tasks : All IsSizedTask s.tasks
  pub few : length s.tasks ≤ MAX_TASKS
  pub phases : All (λ task. IsSizedPhase (numbers_of s) task.phase) s.tasks

pub record IsSized (s : Snapshot) : Type 0 where
  pub scheduling : IsSizedScheduling s
  pub tasks : AreSizedTasks s
  pub objects : AreSizedObjects (length s.tasks) s.objects
