-- The primitive changes: what each does, at which states it fits, and what undoes it.
use Rattle.std.specs.Prelude.{ℕ, ◌+◌, ◌^◌, ◌<◌, ◌≤◌, List, length, slice_index, slice_set}
use Rattle.std.specs.Prelude.{insert, remove, sum_by, Bool, false, true, nat_eq, Option, IfSome}
use Rattle.rd_state.specs.declared.change.Change as declared
use Rattle.rd_state.specs.declared.change.Change.TheVariants as borrowed
use Rattle.rd_state.specs.Objects.{Numbers, object_applied, object_inverse_of}
use Rattle.rd_state.specs.Objects.{ObjectChange, object_saved_bytes, the_object_change, ObjectFits}
use Rattle.rd_state.specs.Sizes.{IsSizedPhase}
use Rattle.rd_state.specs.Snapshot.{Snapshot, core_at, numbers_of, task_at, with_objects, with_task}
use Rattle.rd_state.specs.TaskChanges.{TaskChange, SetPc, SetReg, SetPhase, SetEntry, SetData}
use Rattle.rd_state.specs.TaskChanges.{task_applied, task_inverse_of, task_saved_bytes}
use Rattle.rd_state.specs.TaskChanges.{the_task_change, TaskFits}

-- a primitive change of the state, whatever lends its bytes; tasks and cores go by number, an index
-- counts from the front
pub data Change : Type 0 where
  -- It is this tick.
  SetTick : ℕ → Change
  -- The turn becomes this core's.
  SetTurn : ℕ → Change
  -- The core has this task, or none.
  SetCore : ℕ → Option ℕ → Change
  -- The task is put into the ready list at the index; and leaves it.
  InsReady : ℕ → ℕ → Change
  DelReady : ℕ → Change
  -- The task changes so.
  Task : ℕ → TaskChange → Change
  -- An object changes so.
  Object : ObjectChange → Change

-- the change that one with borrowed bytes is
abbrev pub the_change : declared.Change → Change
the_change (borrowed.SetTick tick) = SetTick tick
the_change (borrowed.SetTurn turn) = SetTurn turn
the_change (borrowed.SetCore core task) = SetCore core task
the_change (borrowed.InsReady index task) = InsReady index task
the_change (borrowed.DelReady index) = DelReady index
the_change (borrowed.Task task change) = Task task (the_task_change change)
the_change (borrowed.Object change) = Object (the_object_change change)

-- what stands for a change that isn't there
abbrev pub no_change : Change
no_change = SetTick 0

-- the state after a change
abbrev pub applied : Snapshot → Change → Snapshot
applied s (SetTick tick) = record s { tick = tick }
applied s (SetTurn turn) = record s { turn = turn }
applied s (SetCore core task) = record s { cores = slice_set s.cores core task }
applied s (InsReady index task) = record s { ready = insert s.ready index task }
applied s (DelReady index) = record s { ready = remove s.ready index }
applied s (Task task change) = with_task s task (task_applied (task_at s task) change)
applied s (Object change) = with_objects s (object_applied s.objects change)

-- Does it change who is on a core, or who is the first that is ready?
abbrev pub moves_lineup : Change → Bool
moves_lineup (SetTick tick) = false
moves_lineup (SetTurn turn) = false
moves_lineup (SetCore core task) = true
moves_lineup (InsReady index task) = nat_eq index 0
moves_lineup (DelReady index) = true
moves_lineup (Task task change) = false
moves_lineup (Object change) = false

-- the change that undoes a change made at this state
abbrev pub inverse_of : Snapshot → Change → Change
inverse_of s (SetTick tick) = SetTick s.tick
inverse_of s (SetTurn turn) = SetTurn s.turn
inverse_of s (SetCore core task) = SetCore core (core_at s core)
inverse_of s (InsReady index task) = DelReady index
inverse_of s (DelReady index) = InsReady index (slice_index s.ready index)
inverse_of s (Task task change) = Task task (task_inverse_of (task_at s task) change)
inverse_of s (Object change) = Object (object_inverse_of s.objects change)

-- The objects that a change of a task names are there.
abbrev pub MentionsObjects : Numbers → TaskChange → Type 0
MentionsObjects numbers (SetPc pc) = Unit {0}
MentionsObjects numbers (SetReg register value) = Unit {0}
MentionsObjects numbers (SetPhase phase) = IsSizedPhase numbers phase
MentionsObjects numbers (SetEntry index entry) = Unit {0}
MentionsObjects numbers (SetData bytes) = Unit {0}

-- The change names what is there, and there is space.
abbrev pub Fits : Snapshot → Change → Type 0
Fits s (SetTick tick) = tick < 2 ^ 32
Fits s (SetTurn turn) = turn ≤ length s.cores
Fits s (SetCore core task) = (core < length s.cores) × IfSome task (λ t. t < length s.tasks)
Fits s (InsReady index task) =
    (index ≤ length s.ready) × (length s.ready < length s.tasks) × (task < length s.tasks)
Fits s (DelReady index) = index < length s.ready
Fits s (Task task change) =
    (task < length s.tasks) × TaskFits (task_at s task) change
    × MentionsObjects (numbers_of s) change
Fits s (Object change) = ObjectFits s.objects change

-- the bytes that a change carries
abbrev pub saved_bytes : Change → ℕ
saved_bytes (SetTick tick) = 0
saved_bytes (SetTurn turn) = 0
saved_bytes (SetCore core task) = 0
saved_bytes (InsReady index task) = 0
saved_bytes (DelReady index) = 0
saved_bytes (Task task change) = task_saved_bytes change
saved_bytes (Object change) = object_saved_bytes change

abbrev pub cost_of : Change → ℕ
cost_of change = 1 + saved_bytes change

-- how much a list of changes takes: the number of its changes and the bytes that they carry
abbrev pub weight_of : List Change → ℕ
weight_of changes = sum_by cost_of changes
