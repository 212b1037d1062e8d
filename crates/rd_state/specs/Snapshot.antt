-- The whole state of the target, as plain lists: what a contract sees of a `State`.
use Rattle.std.specs.Prelude.{ℕ, ◌≡◌, List, [], Option, None, slice_index_or, slice_set}
use Rattle.rd_group.specs.GroupSnapshot.{GroupSnapshot}
use Rattle.rd_group.specs.Groups.{with_bits}
use Rattle.rd_notify.specs.declared.entries.Entry.{Entry}
use Rattle.rd_queue.specs.QueueSnapshot.{QueueSnapshot}
use Rattle.rd_queue.specs.QueueSetSnapshot.{QueueSetSnapshot}
use Rattle.rd_stream.specs.MessageSnapshot.{MessageSnapshot}
use Rattle.rd_stream.specs.StreamSnapshot.{StreamSnapshot}
use Rattle.rd_state.specs.declared.phase.Phase.{Phase}
use Rattle.rd_state.specs.declared.phase.Phase.TheVariants.{Run}
use Rattle.rd_state.specs.Objects.{Numbers, ObjectsSnapshot, numbers_in, no_objects}
use Rattle.rd_state.specs.Objects.{group_in, message_in, objects_with_group}
use Rattle.rd_state.specs.Objects.{objects_with_message, objects_with_queue}
use Rattle.rd_state.specs.Objects.{objects_with_queue_set, objects_with_stream, queue_in}
use Rattle.rd_state.specs.Objects.{queue_set_in, stream_in}

-- a task: the number of the instruction that comes next, its 8 registers, its data, what it does,
-- its notification entries
pub record TaskSnapshot : Type 0 where
  pub pc : ℕ
  pub registers : List ℕ
  pub bytes : List ℕ
  pub phase : Phase
  pub entries : List Entry

-- Cores, tasks and objects go by number. A core has its task, or none when it is idle. The ready
-- list has its first task first. Two states are the same where their snapshots are equal.
pub record Snapshot : Type 0 where
  pub tick : ℕ
  pub turn : ℕ
  pub cores : List (Option ℕ)
  pub ready : List ℕ
  pub tasks : List TaskSnapshot
  pub objects : ObjectsSnapshot

-- how many objects of each kind there are
abbrev pub numbers_of : Snapshot → Numbers
numbers_of s = numbers_in s.objects

-- a state with no cores, no tasks and no objects
abbrev pub hollow_state : Snapshot
hollow_state = record {
  tick = 0;
  turn = 0;
  cores = [];
  ready = [];
  tasks = [];
  objects = no_objects;
}

-- what stands for a task that isn't there
abbrev pub no_task : TaskSnapshot
no_task = record { pc = 0; registers = []; bytes = []; phase = Run; entries = [] }

abbrev pub task_at : Snapshot → ℕ → TaskSnapshot
task_at s task = slice_index_or s.tasks task no_task

abbrev pub queue_at : Snapshot → ℕ → QueueSnapshot
queue_at s queue = queue_in s.objects queue

abbrev pub queue_set_at : Snapshot → ℕ → QueueSetSnapshot
queue_set_at s queue_set = queue_set_in s.objects queue_set

abbrev pub stream_at : Snapshot → ℕ → StreamSnapshot
stream_at s stream = stream_in s.objects stream

abbrev pub message_at : Snapshot → ℕ → MessageSnapshot
message_at s message = message_in s.objects message

abbrev pub group_at : Snapshot → ℕ → GroupSnapshot
group_at s group = group_in s.objects group

-- the items of a queue
abbrev pub items_at : Snapshot → ℕ → List (List ℕ)
items_at s queue = (queue_at s queue).items

-- the state with other objects, with another task, and with another object of a kind and number
abbrev pub with_objects : Snapshot → ObjectsSnapshot → Snapshot
with_objects s now = record s { objects = now }

abbrev pub with_task : Snapshot → ℕ → TaskSnapshot → Snapshot
with_task s task now = record s { tasks = slice_set s.tasks task now }

abbrev pub with_queue : Snapshot → ℕ → QueueSnapshot → Snapshot
with_queue s queue now = with_objects s (objects_with_queue s.objects queue now)

abbrev pub with_queue_set : Snapshot → ℕ → QueueSetSnapshot → Snapshot
with_queue_set s queue_set now =
    with_objects s (objects_with_queue_set s.objects queue_set now)

abbrev pub with_stream : Snapshot → ℕ → StreamSnapshot → Snapshot
with_stream s stream now = with_objects s (objects_with_stream s.objects stream now)

abbrev pub with_message : Snapshot → ℕ → MessageSnapshot → Snapshot
with_message s message now = with_objects s (objects_with_message s.objects message now)

abbrev pub with_group : Snapshot → ℕ → GroupSnapshot → Snapshot
with_group s group now = with_objects s (objects_with_group s.objects group now)

-- the state with other bits of an event group
abbrev pub with_bits_at : Snapshot → ℕ → ℕ → Snapshot
with_bits_at s group bits = with_group s group (with_bits (group_at s group) bits)

-- the task on a core
abbrev pub core_at : Snapshot → ℕ → Option ℕ
core_at s core = slice_index_or s.cores core None

-- Two states are the same where both of these hold.
pub record SameScheduling (s t : Snapshot) : Type 0 where
  pub tick : s.tick ≡ t.tick
  pub turn : s.turn ≡ t.turn
  pub cores : s.cores ≡ t.cores
  pub ready : s.ready ≡ t.ready

pub record SameObjects (s t : Snapshot) : Type 0 where
  pub tasks : s.tasks ≡ t.tasks
  pub objects : s.objects ≡ t.objects
