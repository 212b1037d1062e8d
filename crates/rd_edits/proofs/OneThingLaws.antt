-- An edit changes one thing, and nothing moves.
use Rattle.std.proofs.Common.{◌≡◌, ◌≢◌, List, ap, get_or, length, map, refl, set, sym, ℕ}
use Rattle.std.proofs.lemmas.List.{get_or-set_other, length-set}
use Rattle.rd_group.specs.GroupSnapshot.{GroupSnapshot}
use Rattle.rd_group.specs.Groups.{with_bits}
use Rattle.rd_notify.specs.Entries.{idle_entry}
use Rattle.rd_notify.specs.declared.entries.Entry.{Entry}
use Rattle.rd_queue.specs.QueueSetSnapshot.{QueueSetSnapshot}
use Rattle.rd_queue.specs.QueueSnapshot.{QueueSnapshot}
use Rattle.rd_queue.specs.Queues.{with_items}
use Rattle.rd_stream.specs.StreamSnapshot.{StreamSnapshot}
use Rattle.rd_stream.specs.Streams.{with_stream_bytes}
use Rattle.rd_state.specs.Objects.{ObjectsSnapshot, no_group, no_queue, no_stream, objects_with_group, objects_with_queue, objects_with_stream, queue_in, stream_in}
use Rattle.rd_state.specs.Snapshot.{Snapshot, TaskSnapshot, group_at, items_at, no_task, numbers_of, queue_at, stream_at, task_at, with_group, with_objects}
use Rattle.rd_state.specs.Snapshot.{with_queue, with_stream, with_task}
use Rattle.rd_kernel.specs.Tasks.{entry_at}
use Rattle.rd_kernel.proofs.Offered.{ContentsChange, EachStays-task, read_anyway}
use Rattle.rd_moves.specs.Edits.{PlainEdit}
use Rattle.rd_moves.specs.declared.edit.Edit.TheVariants.{Register, Data, Pc, Value, Bits, Item, Byte}
use Rattle.rd_edits.specs.EditLaws.{EditsChangeOneThing, IsSameBut, NothingMoves, Task, Queue, Stream, Group, thing_of}
use Rattle.rd_state.specs.Settled.{IsSettled}
use Rattle.rd_edits.specs.Edits.{edited}
use Rattle.rd_edits.proofs.ContentLaws.{WishesStay, bits_contents, bits_wishes, bytes_contents, bytes_wishes, items_contents, items_wishes}

-- ---- the rest

IsSameBut-task : (s : Snapshot) (task : ℕ) (x : TaskSnapshot) → IsSameBut s (with_task s task x) (Task task)
IsSameBut-task s task x = record {
  tick = refl;
  turn = refl;
  cores = refl;
  ready = refl;
  tasks = λ other apart. get_or-set_other s.tasks task other x no_task (λ same. apart (ap Task (sym same)));
  queues = λ queue apart. refl;
  queue_sets = refl;
  streams = λ stream apart. refl;
  messages = refl;
  groups = λ group apart. refl;
  shape = record { cores = refl; tasks = length-set s.tasks task x; objects = refl };
}

IsSameBut-queue : (s : Snapshot) (queue : ℕ) (now : QueueSnapshot) → IsSameBut s (with_queue s queue now) (Queue queue)
IsSameBut-queue s queue now = record {
  tick = refl;
  turn = refl;
  cores = refl;
  ready = refl;
  tasks = λ task apart. refl;
  queues = λ other apart. get_or-set_other s.objects.queues queue other now no_queue (λ same. apart (ap Queue (sym same)));
  queue_sets = refl;
  streams = λ stream apart. refl;
  messages = refl;
  groups = λ group apart. refl;
  shape = record {
    cores = refl;
    tasks = refl;
    objects = ap (λ (n : ℕ). record (numbers_of s) { queue_count = n }) (length-set s.objects.queues queue now);
  };
}

IsSameBut-stream : (s : Snapshot) (stream : ℕ) (now : StreamSnapshot) → IsSameBut s (with_stream s stream now) (Stream stream)
IsSameBut-stream s stream now = record {
  tick = refl;
  turn = refl;
  cores = refl;
  ready = refl;
  tasks = λ task apart. refl;
  queues = λ queue apart. refl;
  queue_sets = refl;
  streams = λ other apart. get_or-set_other s.objects.streams stream other now no_stream (λ same. apart (ap Stream (sym same)));
  messages = refl;
  groups = λ group apart. refl;
  shape = record {
    cores = refl;
    tasks = refl;
    objects = ap (λ (n : ℕ). record (numbers_of s) { stream_count = n }) (length-set s.objects.streams stream now);
  };
}

IsSameBut-group : (s : Snapshot) (group : ℕ) (now : GroupSnapshot) → IsSameBut s (with_group s group now) (Group group)
IsSameBut-group s group now = record {
  tick = refl;
  turn = refl;
  cores = refl;
  ready = refl;
  tasks = λ task apart. refl;
  queues = λ queue apart. refl;
  queue_sets = refl;
  streams = λ stream apart. refl;
  messages = refl;
  groups = λ other apart. get_or-set_other s.objects.groups group other now no_group (λ same. apart (ap Group (sym same)));
  shape = record {
    cores = refl;
    tasks = refl;
    objects = ap (λ (n : ℕ). record (numbers_of s) { group_count = n }) (length-set s.objects.groups group now);
  };
}

-- ---- the thing itself

-- a task that is replaced by one in the same phase, whose entries are in the same states
abbrev HasStates : List Entry → List Entry → Type 0
HasStates was now = (index : ℕ) → (get_or now index idle_entry).state ≡ (get_or was index idle_entry).state

NothingMoves-task : (s : Snapshot) (task : ℕ) (x : TaskSnapshot) → x.phase ≡ (task_at s task).phase → HasStates (task_at s task).entries x.entries
    → NothingMoves s (with_task s task x)
NothingMoves-task s task x phase states = record {
  phases = EachStays-task (λ (t : TaskSnapshot). t.phase) s task x phase;
  entries = λ other index. EachStays-task (λ (t : TaskSnapshot). (get_or t.entries index idle_entry).state) s task x (states index) other;
  waiting = λ list. refl;
  wishes = λ list. refl;
  holders = λ held. refl;
  settled = λ priorities settled. settled;
  items = λ queue. refl;
  bytes = λ stream. refl;
}

-- objects with as many items and bytes
record SameCounts (o n : ObjectsSnapshot) : Type 0 where
  items : (queue : ℕ) → length (queue_in n queue).items ≡ length (queue_in o queue).items
  bytes : (stream : ℕ) → length (stream_in n stream).bytes ≡ length (stream_in o stream).bytes

NothingMoves-objects : (s : Snapshot) (n : ObjectsSnapshot) → ContentsChange s.objects n → WishesStay s.objects n → SameCounts s.objects n
    → NothingMoves s (with_objects s n)
NothingMoves-objects s n contents wishes counts = record {
  phases = λ task. refl;
  entries = λ task index. refl;
  waiting = contents.waiting;
  wishes = wishes;
  holders = contents.holders;
  settled = λ priorities settled. settled;
  items = counts.items;
  bytes = counts.bytes;
}

-- ---- all edits

pub edits_change_one_thing : EditsChangeOneThing
edits_change_one_thing s (Register task register value) =
    let x : TaskSnapshot = record (task_at s task) { registers = set (task_at s task).registers register value } in
    record { rest = IsSameBut-task s task x; nothing_moves = NothingMoves-task s task x refl (λ index. refl) }
edits_change_one_thing s (Data task bytes) =
    let x : TaskSnapshot = record (task_at s task) { bytes = bytes } in
    record { rest = IsSameBut-task s task x; nothing_moves = NothingMoves-task s task x refl (λ index. refl) }
edits_change_one_thing s (Pc task pc) =
    let x : TaskSnapshot = record (task_at s task) { pc = pc } in
    record { rest = IsSameBut-task s task x; nothing_moves = NothingMoves-task s task x refl (λ index. refl) }
edits_change_one_thing s (Value task index value) =
    let entries = (task_at s task).entries in
    let entry : Entry = record (entry_at s task index) { value = value } in
    let x : TaskSnapshot = record (task_at s task) { entries = set entries index entry } in
    record {
      rest = IsSameBut-task s task x;
      nothing_moves = NothingMoves-task s task x refl (λ other. read_anyway (λ (e : Entry). e.state) entries index other entry idle_entry refl);
    }
edits_change_one_thing s (Bits group bits) =
    let now = with_bits (group_at s group) bits in
    record {
      rest = IsSameBut-group s group now;
      nothing_moves = NothingMoves-objects s (objects_with_group s.objects group now) (bits_contents s.objects group bits) (bits_wishes s.objects group bits)
          (record { items = λ queue. refl; bytes = λ stream. refl });
    }
edits_change_one_thing s (Item queue index bytes) =
    let items = set (items_at s queue) index bytes in
    let now = with_items (queue_at s queue) items in
    record {
      rest = IsSameBut-queue s queue now;
      nothing_moves = NothingMoves-objects s (objects_with_queue s.objects queue now) (items_contents s.objects queue items) (items_wishes s.objects queue items)
          (record {
            items = λ other. read_anyway (λ (q : QueueSnapshot). length q.items) s.objects.queues queue other now no_queue (length-set (items_at s queue) index bytes);
            bytes = λ stream. refl;
          });
    }
edits_change_one_thing s (Byte stream index value) =
    let bytes = set (stream_at s stream).bytes index value in
    let now = with_stream_bytes (stream_at s stream) bytes in
    record {
      rest = IsSameBut-stream s stream now;
      nothing_moves = NothingMoves-objects s (objects_with_stream s.objects stream now) (bytes_contents s.objects stream bytes) (bytes_wishes s.objects stream bytes)
          (record {
            items = λ queue. refl;
            bytes = λ other. read_anyway (λ (b : StreamSnapshot). length b.bytes) s.objects.streams stream other now no_stream
                (length-set (stream_at s stream).bytes index value);
          });
    }

-- ---- in the words of crates above

-- A task that isn't the edited one is as it was;
pub edited-other_task : (s : Snapshot) (edit : PlainEdit) (task : ℕ) → thing_of edit ≢ Task task → task_at (edited s edit) task ≡ task_at s task
edited-other_task s edit task apart = (edits_change_one_thing s edit).rest.tasks task apart

-- each task is in the phase that it was in,
pub edited-phase : (s : Snapshot) (edit : PlainEdit) (task : ℕ) → (task_at (edited s edit) task).phase ≡ (task_at s task).phase
edited-phase s edit task = (edits_change_one_thing s edit).nothing_moves.phases task

-- and each entry in the state;
pub edited-entry_state : (s : Snapshot) (edit : PlainEdit) (task index : ℕ) → (entry_at (edited s edit) task index).state ≡ (entry_at s task index).state
edited-entry_state s edit task index = (edits_change_one_thing s edit).nothing_moves.entries task index

-- queue sets have the handles that they had;
pub edited-handles : (s : Snapshot) (edit : PlainEdit)
    → map (λ (q : QueueSetSnapshot). q.handles) (edited s edit).objects.queue_sets ≡ map (λ (q : QueueSetSnapshot). q.handles) s.objects.queue_sets
edited-handles s edit = ap (λ (sets : List QueueSetSnapshot). map (λ (q : QueueSetSnapshot). q.handles) sets) (edits_change_one_thing s edit).rest.queue_sets

-- and nothing is left to be scheduled if nothing was.
pub edited-settled : (priorities : List ℕ) (s : Snapshot) (edit : PlainEdit) → IsSettled priorities s → IsSettled priorities (edited s edit)
edited-settled priorities s edit settled = (edits_change_one_thing s edit).nothing_moves.settled priorities settled
