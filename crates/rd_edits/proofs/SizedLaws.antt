-- The sizes of a state, which an edit preserves.
use Rattle.std.proofs.Common.{◌<◌, ◌∙◌, ◌≡◌, ◌≤◌, ◌^◌, List, [], ap, arith, length, refl, set, subst, sym, true, ℕ}
use Rattle.std.specs.Prelude.{All, nat_eq, nat_le, nat_lt}
use Rattle.std.proofs.lemmas.Bool.Decides.{nat_tests}
use Rattle.std.proofs.lemmas.List.{length-set}
use Rattle.std.proofs.lemmas.List.Elements.{All-get_or, All-set}
use Rattle.rd_app.specs.Application.{Application, IsApplication, IsScript, code_of}
use Rattle.rd_app.specs.TaskScript.{TaskScript}
use Rattle.rd_group.proofs.Offered.{group_change_is_undone}
use Rattle.rd_group.specs.declared.group_change.GroupChange.TheVariants.{SetBits}
use Rattle.rd_group.specs.Groups.{with_bits}
use Rattle.rd_notify.specs.declared.entries.Entry.{Entry}
use Rattle.rd_queue.proofs.Offered.{queue_change_is_undone}
use Rattle.rd_queue.specs.Changes.{SetItem}
use Rattle.rd_queue.specs.Queues.{with_items}
use Rattle.rd_stream.proofs.Offered.{stream_change_is_undone}
use Rattle.rd_stream.specs.StreamChanges.{SetByte}
use Rattle.rd_stream.specs.Streams.{with_stream_bytes}
use Rattle.rd_state.specs.declared.phase.Phase.{Phase}
use Rattle.rd_state.specs.Objects.{AreSizedObjects, IsGroupFor, IsQueueFor, IsQueueSetFor, IsStreamFor, Numbers, ObjectsSnapshot, group_in, numbers_in}
use Rattle.rd_state.specs.Objects.{objects_with_group, objects_with_queue, objects_with_stream, queue_in, stream_in}
use Rattle.rd_state.specs.Sizes.{IsSized, IsSizedPhase, IsSizedTask, IsTaskOrIdle}
use Rattle.rd_state.specs.Snapshot.{Snapshot, TaskSnapshot, items_at, no_task, numbers_of, queue_at, stream_at, task_at, with_bits_at, with_objects, with_task}
use Rattle.rd_state.proofs.Offered.{group_in_sized, queue_sized, stream_in_sized}
use Rattle.rd_kernel.specs.Tasks.{entry_at}
use Rattle.rd_kernel.proofs.Offered.{both}
use Rattle.rd_moves.specs.Edits.{PlainEdit}
use Rattle.rd_moves.specs.declared.edit.Edit.TheVariants.{Register, Data, Pc, Value, Bits, Item, Byte}
use Rattle.rd_edits.specs.Edits.{IsEditAt, edited, is_good_edit, with_byte_at, with_item_at}
use Rattle.rd_moves.specs.Edits.{IsEditOf, IsSizedEdit}
use Rattle.rd_state.specs.Phases.{is_first}

-- ---- tests of numbers

pub below : (a b : ℕ) → nat_lt a b ≡ true → a < b
below a b e = grind (arith, nat_tests, e)

pub at_most : (a b : ℕ) → nat_le a b ≡ true → a ≤ b
at_most a b e = grind (arith, nat_tests, e)

pub same_count : (a b : ℕ) → nat_eq a b ≡ true → a ≡ b
same_count a b e = grind (arith, nat_tests, e)

-- ---- a task that is replaced, in the same phase

IsSized-task : (s : Snapshot) (task : ℕ) (x : TaskSnapshot) → task < length s.tasks → IsSizedTask x → x.phase ≡ (task_at s task).phase → IsSized s
    → IsSized (with_task s task x)
IsSized-task s task x there sized_now phase sized =
    let same : length s.tasks ≡ length (set s.tasks task x) = sym (length-set s.tasks task x) in
    let HasPhase : TaskSnapshot → Type 0 = λ t. IsSizedPhase (numbers_of s) t.phase in
    let was : HasPhase (task_at s task) = All-get_or HasPhase s.tasks task no_task there sized.tasks.phases in
    record {
      scheduling = record {
        tick = sized.scheduling.tick;
        turn = sized.scheduling.turn;
        cores = subst (λ n. All (IsTaskOrIdle n) s.cores) same sized.scheduling.cores;
        few_cores = sized.scheduling.few_cores;
        ready = subst (λ n. All (λ t. t < n) s.ready) same sized.scheduling.ready;
        room = subst (λ n. length s.ready ≤ n) same sized.scheduling.room;
      };
      tasks = record {
        tasks = All-set IsSizedTask s.tasks task x sized_now sized.tasks.tasks;
        few = omega (arith, same, sized.tasks.few);
        phases = All-set HasPhase s.tasks task x (subst (λ (p : Phase). IsSizedPhase (numbers_of s) p) (sym phase) was) sized.tasks.phases;
      };
      objects = subst (λ n. AreSizedObjects n s.objects) same sized.objects;
    }

-- ---- other objects, as many of each kind

IsSized-objects : (s : Snapshot) (n : ObjectsSnapshot) → numbers_of s ≡ numbers_in n → AreSizedObjects (length s.tasks) n → IsSized s
    → IsSized (with_objects s n)
IsSized-objects s n same sized_now sized = record {
  scheduling = record {
    tick = sized.scheduling.tick;
    turn = sized.scheduling.turn;
    cores = sized.scheduling.cores;
    few_cores = sized.scheduling.few_cores;
    ready = sized.scheduling.ready;
    room = sized.scheduling.room;
  };
  tasks = record {
    tasks = sized.tasks.tasks;
    few = sized.tasks.few;
    phases = subst (λ (m : Numbers). All (λ (t : TaskSnapshot). IsSizedPhase m t.phase) s.tasks) same sized.tasks.phases;
  };
  objects = sized_now;
}

IsSized-bits : (s : Snapshot) (group bits : ℕ) → group < length s.objects.groups → bits ≤ 16777215 → IsSized s → IsSized (with_bits_at s group bits)
IsSized-bits s group bits there few sized =
    let o = s.objects in
    let was = group_in_sized (length s.tasks) o group sized.objects there in
    let law = group_change_is_undone (group_in o group) (SetBits bits) was.0 few in
    let now = with_bits (group_in o group) bits in
    let count = length-set o.groups group now in
    IsSized-objects s (objects_with_group o group now) (ap (λ (n : ℕ). record (numbers_of s) { group_count = n }) (sym count))
    (record {
      queues = sized.objects.queues;
      few_queues = sized.objects.few_queues;
      queue_sets = sized.objects.queue_sets;
      few_queue_sets = sized.objects.few_queue_sets;
      streams = sized.objects.streams;
      few_streams = sized.objects.few_streams;
      messages = sized.objects.messages;
      few_messages = sized.objects.few_messages;
      groups = All-set (IsGroupFor (length s.tasks)) o.groups group now (law.sized, was.1) sized.objects.groups;
      few_groups = omega (arith, count, sized.objects.few_groups);
    }) sized

IsSized-item : (s : Snapshot) (queue index : ℕ) (bytes : List ℕ) → queue < length s.objects.queues → index < length (items_at s queue)
    → length bytes ≡ (queue_at s queue).item_size → IsSized s → IsSized (with_item_at s queue index bytes)
IsSized-item s queue index bytes there within size sized =
    let o = s.objects in
    let was = queue_sized s queue sized there in
    let law = queue_change_is_undone (queue_in o queue) (SetItem index bytes) was.0 (within, size) in
    let now = with_items (queue_in o queue) (set (queue_in o queue).items index bytes) in
    let count = length-set o.queues queue now in
    IsSized-objects s (objects_with_queue o queue now) (ap (λ (n : ℕ). record (numbers_of s) { queue_count = n }) (sym count))
    (record {
      queues = All-set (IsQueueFor (length s.tasks) (length o.queue_sets)) o.queues queue now (law.sized, was.1, was.2) sized.objects.queues;
      few_queues = omega (arith, count, sized.objects.few_queues);
      queue_sets = subst (λ n. All (IsQueueSetFor (length s.tasks) n) o.queue_sets) (sym count) sized.objects.queue_sets;
      few_queue_sets = sized.objects.few_queue_sets;
      streams = sized.objects.streams;
      few_streams = sized.objects.few_streams;
      messages = sized.objects.messages;
      few_messages = sized.objects.few_messages;
      groups = sized.objects.groups;
      few_groups = sized.objects.few_groups;
    }) sized

IsSized-byte : (s : Snapshot) (stream index value : ℕ) → stream < length s.objects.streams → index < length (stream_at s stream).bytes → IsSized s
    → IsSized (with_byte_at s stream index value)
IsSized-byte s stream index value there within sized =
    let o = s.objects in
    let was = stream_in_sized (length s.tasks) o stream sized.objects there in
    let law = stream_change_is_undone (stream_in o stream) (SetByte index value) was.0 within in
    let now = with_stream_bytes (stream_in o stream) (set (stream_in o stream).bytes index value) in
    let count = length-set o.streams stream now in
    IsSized-objects s (objects_with_stream o stream now) (ap (λ (n : ℕ). record (numbers_of s) { stream_count = n }) (sym count))
    (record {
      queues = sized.objects.queues;
      few_queues = sized.objects.few_queues;
      queue_sets = sized.objects.queue_sets;
      few_queue_sets = sized.objects.few_queue_sets;
      streams = All-set (IsStreamFor (length s.tasks)) o.streams stream now (law.sized, was.1) sized.objects.streams;
      few_streams = omega (arith, count, sized.objects.few_streams);
      messages = sized.objects.messages;
      few_messages = sized.objects.few_messages;
      groups = sized.objects.groups;
      few_groups = sized.objects.few_groups;
    }) sized

-- ---- all edits

-- A script is no longer than one may be.
short_code : (app : Application) (task : ℕ) → IsApplication app → task < length app.tasks → length (code_of app task) ≤ 256
short_code app task limits there =
    let nothing : TaskScript = record { priority = 0; code = [] } in
    (All-get_or (IsScript app) app.tasks task nothing there limits.tasks).few

sized_task : (s : Snapshot) (task : ℕ) → IsSized s → task < length s.tasks → IsSizedTask (task_at s task)
sized_task s task sized there = All-get_or IsSizedTask s.tasks task no_task there sized.tasks.tasks

pub IsSized-edited : (app : Application) (s : Snapshot) (edit : PlainEdit) → IsApplication app → IsSizedEdit edit → IsEditOf app edit → IsEditAt s edit
    → is_good_edit app s edit ≡ true → IsSized s → IsSized (edited s edit)
IsSized-edited app s (Register task register value) limits small named there good sized =
    let x = task_at s task in
    let was = sized_task s task sized there.0 in
    IsSized-task s task (record x { registers = set x.registers register value }) there.0
    (record {
      pc = was.pc;
      registers = length-set x.registers register value ∙ was.registers;
      values = All-set (λ v. v < 2 ^ 32) x.registers register value small was.values;
      bytes = was.bytes;
      entries = was.entries;
      few_entries = was.few_entries;
    }) refl sized
IsSized-edited app s (Data task bytes) limits small named there good sized =
    let was = sized_task s task sized there in
    IsSized-task s task (record (task_at s task) { bytes = bytes }) there
    (record {
      pc = was.pc;
      registers = was.registers;
      values = was.values;
      bytes = small;
      entries = was.entries;
      few_entries = was.few_entries;
    }) refl sized
IsSized-edited app s (Pc task pc) limits small named there good sized =
    let was = sized_task s task sized there in
    let within : pc < length (code_of app task) =
    below pc (length (code_of app task)) (both (is_first (task_at s task).phase) (nat_lt pc (length (code_of app task))) good).1 in
    IsSized-task s task (record (task_at s task) { pc = pc }) there
    (record {
      pc = omega (arith, within, short_code app task limits named);
      registers = was.registers;
      values = was.values;
      bytes = was.bytes;
      entries = was.entries;
      few_entries = was.few_entries;
    }) refl sized
IsSized-edited app s (Value task index value) limits small named there good sized =
    let x = task_at s task in
    let was = sized_task s task sized there.0 in
    let entry : Entry = record (entry_at s task index) { value = value } in
    IsSized-task s task (record x { entries = set x.entries index entry }) there.0
    (record {
      pc = was.pc;
      registers = was.registers;
      values = was.values;
      bytes = was.bytes;
      entries = All-set (λ (e : Entry). e.value < 2 ^ 32) x.entries index entry small was.entries;
      few_entries = omega (arith, length-set x.entries index entry, was.few_entries);
    }) refl sized
IsSized-edited app s (Bits group bits) limits small named there good sized = IsSized-bits s group bits there (at_most bits 16777215 good) sized
IsSized-edited app s (Item queue index bytes) limits small named there good sized =
    let tests = both (nat_lt index (length (items_at s queue))) (nat_eq (length bytes) (queue_at s queue).item_size) good in
    IsSized-item s queue index bytes there (below index (length (items_at s queue)) tests.0) (same_count (length bytes) (queue_at s queue).item_size tests.1) sized
IsSized-edited app s (Byte stream index value) limits small named there good sized =
    let tests = both (nat_lt index (length (stream_at s stream).bytes)) (nat_le value 255) good in
    IsSized-byte s stream index value there (below index (length (stream_at s stream).bytes) tests.0) sized
