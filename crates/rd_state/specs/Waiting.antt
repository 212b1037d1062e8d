-- The places where tasks can wait, and the lists that have those who do.
use Rattle.std.specs.Prelude.{ℕ, ◌<◌, ◌&&◌, Bool, true, false, List, [], Option, None, Some, nat_eq}
use Rattle.rd_group.specs.Groups.{with_waiters}
use Rattle.rd_group.specs.declared.wish.Wish.{Wish}
use Rattle.rd_stream.specs.Holders.{holder_of, with_holder_of}
use Rattle.rd_stream.specs.Messages.{with_message_holders}
use Rattle.rd_stream.specs.Streams.{with_stream_holders}
use Rattle.rd_stream.specs.declared.side.Side.{Side}
use Rattle.rd_stream.specs.declared.side.Side.TheVariants.{Reader, Writer}
use Rattle.rd_notify.specs.declared.entries.TheConstants.{MAX_ENTRIES}
use Rattle.rd_queue.specs.declared.waiting_list.WaitingList.{WaitingList}
use Rattle.rd_queue.specs.declared.waiting_list.WaitingList.TheVariants.{Receiving, Sending}
use Rattle.rd_queue.specs.QueueSets.{with_waiting_tasks}
use Rattle.rd_queue.specs.Queues.{tasks_in_list, with_waiting}
use Rattle.rd_state.specs.declared.phase.Held.{Held}
use Rattle.rd_state.specs.declared.phase.Held.TheVariants.{Stream, Message}
use Rattle.rd_state.specs.declared.phase.Listed.{Listed}
use Rattle.rd_state.specs.declared.phase.Listed.TheVariants.{Queue, QueueSet, Group}
use Rattle.rd_state.specs.declared.phase.Place.{Place}
use Rattle.rd_state.specs.declared.phase.Place.TheVariants as sort
use Rattle.rd_state.specs.Objects.{Numbers, ObjectsSnapshot, group_in, message_in}
use Rattle.rd_state.specs.Objects.{objects_with_group, objects_with_message, objects_with_queue}
use Rattle.rd_state.specs.Objects.{objects_with_queue_set, objects_with_stream}
use Rattle.rd_state.specs.Objects.{queue_in, queue_set_in, stream_in}
use Rattle.rd_state.specs.Snapshot.{Snapshot, numbers_of, with_objects}

-- ---- what a place is

-- The list that has those who wait at a place. Whatever is said of lists, who joins them and who
-- leaves, is said of these places alone.
abbrev pub listed_at : Place → Option Listed
listed_at (sort.Listed list) = Some list
listed_at (sort.Held held) = None
listed_at (sort.Entry index) = None

-- The entry of its own through which a task is told there.
abbrev pub entry_of : Place → Option ℕ
entry_of (sort.Listed list) = None
entry_of (sort.Held held) = Some 0
entry_of (sort.Entry index) = Some index

-- The list is there, where there are so many objects.
abbrev pub IsList : Numbers → Listed → Type 0
IsList numbers (Queue queue list) = queue < numbers.queue_count
IsList numbers (QueueSet queue_set) = queue_set < numbers.queue_set_count
IsList numbers (Group group) = group < numbers.group_count

abbrev pub HasList : Snapshot → Listed → Type 0
HasList s list = IsList (numbers_of s) list

-- The buffer of the place is there.
abbrev pub IsHeld : Numbers → Held → Type 0
IsHeld numbers (Stream stream side) = stream < numbers.stream_count
IsHeld numbers (Message message side) = message < numbers.message_count

abbrev pub HasHeld : Snapshot → Held → Type 0
HasHeld s held = IsHeld (numbers_of s) held

-- The place is there.
abbrev pub IsPlace : Numbers → Place → Type 0
IsPlace numbers (sort.Listed list) = IsList numbers list
IsPlace numbers (sort.Held held) = IsHeld numbers held
IsPlace numbers (sort.Entry index) = index < MAX_ENTRIES

-- ---- lists

-- Is the list in the order of priorities? That of an event group is in the order of arrival.
abbrev pub is_by_priority : Listed → Bool
is_by_priority (Queue queue list) = true
is_by_priority (QueueSet queue_set) = true
is_by_priority (Group group) = false

-- A list by numbers: the kind of its object, which of that kind, and which of the object's lists.
abbrev pub list_kind : Listed → ℕ
list_kind (Queue queue list) = 0
list_kind (QueueSet queue_set) = 1
list_kind (Group group) = 2

abbrev pub list_object : Listed → ℕ
list_object (Queue queue list) = queue
list_object (QueueSet queue_set) = queue_set
list_object (Group group) = group

abbrev pub part_number : WaitingList → ℕ
part_number Receiving = 0
part_number Sending = 1

abbrev pub list_part : Listed → ℕ
list_part (Queue queue list) = part_number list
list_part (QueueSet queue_set) = 0
list_part (Group group) = 0

-- Are they one list?
abbrev pub same_list : Listed → Listed → Bool
same_list list other =
    nat_eq (list_kind list) (list_kind other)
    && (nat_eq (list_part list) (list_part other)
    && nat_eq (list_object list) (list_object other))

-- the tasks that wait in a list of objects, the first to be served first
abbrev pub waiting_in : ObjectsSnapshot → Listed → List ℕ
waiting_in o (Queue queue list) = tasks_in_list list (queue_in o queue)
waiting_in o (QueueSet queue_set) = (queue_set_in o queue_set).waiting
waiting_in o (Group group) = (group_in o group).waiting

abbrev pub waiting_at : Snapshot → Listed → List ℕ
waiting_at s list = waiting_in s.objects list

-- what each of them waits for, in the same order, where the list says so: that of an event group
abbrev pub wishes_in : ObjectsSnapshot → Listed → List Wish
wishes_in o (Queue queue list) = []
wishes_in o (QueueSet queue_set) = []
wishes_in o (Group group) = (group_in o group).wishes

abbrev pub wishes_at : Snapshot → Listed → List Wish
wishes_at s list = wishes_in s.objects list

-- the objects, once these tasks wait in a list and no others, each with the wish at its place,
-- where the list has wishes
abbrev pub objects_then : ObjectsSnapshot → Listed → List ℕ → List Wish → ObjectsSnapshot
objects_then o (Queue queue list) tasks wishes =
    objects_with_queue o queue (with_waiting list tasks (queue_in o queue))
objects_then o (QueueSet queue_set) tasks wishes =
    objects_with_queue_set o queue_set (with_waiting_tasks (queue_set_in o queue_set) tasks)
objects_then o (Group group) tasks wishes =
    objects_with_group o group (with_waiters (group_in o group) tasks wishes)

-- the state with these tasks in a list, and none of those that waited there
abbrev pub with_waiting_at : Snapshot → Listed → List ℕ → List Wish → Snapshot
with_waiting_at s list tasks wishes = with_objects s (objects_then s.objects list tasks wishes)

-- ---- places that name one task

-- Such a place by numbers, likewise: the kind of its buffer, which of that kind, and which side.
abbrev pub held_kind : Held → ℕ
held_kind (Stream stream side) = 0
held_kind (Message message side) = 1

abbrev pub held_object : Held → ℕ
held_object (Stream stream side) = stream
held_object (Message message side) = message

abbrev pub side_number : Side → ℕ
side_number Reader = 0
side_number Writer = 1

abbrev pub held_side : Held → Side
held_side (Stream stream side) = side
held_side (Message message side) = side

-- Are they one place?
abbrev pub same_held : Held → Held → Bool
same_held held other =
    nat_eq (held_kind held) (held_kind other)
    && (nat_eq (side_number (held_side held)) (side_number (held_side other))
    && nat_eq (held_object held) (held_object other))

-- whom a place names
abbrev pub holder_in : ObjectsSnapshot → Held → Option ℕ
holder_in o (Stream stream side) = holder_of side (stream_in o stream).holders
holder_in o (Message message side) = holder_of side (message_in o message).holders

abbrev pub holder_at : Snapshot → Held → Option ℕ
holder_at s held = holder_in s.objects held

-- the objects, once a place names this task, or nobody
abbrev pub objects_naming : ObjectsSnapshot → Held → Option ℕ → ObjectsSnapshot
objects_naming o (Stream stream side) task =
    objects_with_stream o stream
    (with_stream_holders (stream_in o stream)
    (with_holder_of side task (stream_in o stream).holders))
objects_naming o (Message message side) task =
    objects_with_message o message
    (with_message_holders (message_in o message)
    (with_holder_of side task (message_in o message).holders))

-- the state with a place that names this task, or nobody
abbrev pub with_holder : Snapshot → Held → Option ℕ → Snapshot
with_holder s held task = with_objects s (objects_naming s.objects held task)
