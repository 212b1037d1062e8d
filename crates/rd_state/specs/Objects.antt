-- The objects of the kernel: the list of each kind, its sizes, what boot makes of it, and its
-- changes. A kind has a row or a field in each of these.
use Rattle.std.specs.Prelude.{ℕ, zero, suc, ◌≡◌, ◌<◌, ◌≤◌, ◌∷◌, ◌++◌, List, [], All, None}
use Rattle.std.specs.Prelude.{◌==◌, if◌then◌else◌, length, map, replicate, slice_index_or}
use Rattle.std.specs.Prelude.{slice_set}
use Rattle.rd_group.specs.GroupChanges.{group_applied, group_inverse_of, GroupFits}
use Rattle.rd_group.specs.GroupSnapshot.{GroupSnapshot}
use Rattle.rd_group.specs.Groups.{empty_group}
use Rattle.rd_group.specs.Sizes.{IsSizedGroup}
use Rattle.rd_group.specs.declared.group_change.GroupChange.{GroupChange}
use Rattle.rd_queue.specs.Changes.{QueueChange, queue_applied, queue_inverse_of}
use Rattle.rd_queue.specs.Changes.{queue_saved_bytes, the_queue_change, QueueFits}
use Rattle.rd_queue.specs.declared.queue_set_change.QueueSetChange.{QueueSetChange}
use Rattle.rd_queue.specs.QueueSnapshot.{QueueSnapshot}
use Rattle.rd_queue.specs.Queues.{empty_queue, as_member_of}
use Rattle.rd_queue.specs.QueueSetChanges.{queue_set_applied, queue_set_inverse_of, QueueSetFits}
use Rattle.rd_queue.specs.QueueSetSnapshot.{QueueSetSnapshot}
use Rattle.rd_queue.specs.QueueSets.{empty_queue_set}
use Rattle.rd_queue.specs.Sizes.{IsSizedQueue, IsSizedQueueSet}
use Rattle.rd_queue.specs.declared.queue_set.TheConstants.{MAX_HANDLES}
use Rattle.rd_stream.specs.Holders.{no_holders}
use Rattle.rd_stream.specs.MessageChanges.{MessageChange, message_applied, message_inverse_of}
use Rattle.rd_stream.specs.MessageChanges.{message_saved_bytes, the_message_change, MessageFits}
use Rattle.rd_stream.specs.MessageSnapshot.{MessageSnapshot}
use Rattle.rd_stream.specs.Messages.{empty_message_buffer}
use Rattle.rd_stream.specs.Sizes.{IsSizedMessageBuffer, IsSizedStream}
use Rattle.rd_stream.specs.StreamChanges.{StreamChange, stream_applied, stream_inverse_of}
use Rattle.rd_stream.specs.StreamChanges.{stream_saved_bytes, the_stream_change, StreamFits}
use Rattle.rd_stream.specs.StreamSnapshot.{StreamSnapshot}
use Rattle.rd_stream.specs.declared.message_buf.TheConstants.{MAX_MESSAGE_BUFFER_SIZE}
use Rattle.rd_stream.specs.declared.stream_buf.TheConstants.{MAX_STREAM_SIZE}
use Rattle.rd_stream.specs.Streams.{empty_stream}
use Rattle.rd_app.specs.declared.objects.TheConstants.{MAX_QUEUES, MAX_QUEUE_SETS, MAX_STREAMS}
use Rattle.rd_app.specs.declared.objects.TheConstants.{MAX_GROUPS, MAX_MESSAGE_BUFFERS}
use Rattle.rd_app.specs.declared.objects.MessageShape.{MessageShape}
use Rattle.rd_app.specs.declared.objects.QueueShape.{QueueShape}
use Rattle.rd_app.specs.declared.objects.StreamShape.{StreamShape}
use Rattle.rd_app.specs.Application.{Application}
use Rattle.rd_app.specs.Objects.{ObjectShapes, queue_set_at_boot, shape_at}
use Rattle.rd_app.specs.QueueSetShapeView.{QueueSetShapeView}
use Rattle.rd_state.specs.declared.objects.ObjectChange as declared
use Rattle.rd_state.specs.declared.objects.ObjectChange.TheVariants as borrowed

pub record ObjectsSnapshot : Type 0 where
  pub queues : List QueueSnapshot
  pub queue_sets : List QueueSetSnapshot
  pub streams : List StreamSnapshot
  pub messages : List MessageSnapshot
  pub groups : List GroupSnapshot

-- how many objects of each kind there are
pub record Numbers : Type 0 where
  pub queue_count : ℕ
  pub queue_set_count : ℕ
  pub stream_count : ℕ
  pub message_count : ℕ
  pub group_count : ℕ

abbrev pub numbers_in : ObjectsSnapshot → Numbers
numbers_in o = record {
  queue_count = length o.queues;
  queue_set_count = length o.queue_sets;
  stream_count = length o.streams;
  message_count = length o.messages;
  group_count = length o.groups;
}

abbrev pub no_objects : ObjectsSnapshot
no_objects = record { queues = []; queue_sets = []; streams = []; messages = []; groups = [] }

-- what stands for an object that isn't there
abbrev pub no_queue : QueueSnapshot
no_queue = record {
  items = [];
  capacity = 0;
  item_size = 0;
  receiving = [];
  sending = [];
  task_count = 0;
  queue_set = None;
  queue_set_count = 0;
}

abbrev pub no_queue_set : QueueSetSnapshot
no_queue_set =
    record { handles = []; capacity = 0; queue_count = 0; waiting = []; task_count = 0 }

abbrev pub no_stream : StreamSnapshot
no_stream = record { bytes = []; capacity = 0; trigger = 0; holders = no_holders 0 }

abbrev pub no_message_buffer : MessageSnapshot
no_message_buffer = record { messages = []; capacity = 0; holders = no_holders 0 }

abbrev pub no_group : GroupSnapshot
no_group = record { bits = 0; waiting = []; wishes = []; task_count = 0 }

-- an object of each kind
abbrev pub queue_in : ObjectsSnapshot → ℕ → QueueSnapshot
queue_in o queue = slice_index_or o.queues queue no_queue

abbrev pub queue_set_in : ObjectsSnapshot → ℕ → QueueSetSnapshot
queue_set_in o queue_set = slice_index_or o.queue_sets queue_set no_queue_set

abbrev pub stream_in : ObjectsSnapshot → ℕ → StreamSnapshot
stream_in o stream = slice_index_or o.streams stream no_stream

abbrev pub message_in : ObjectsSnapshot → ℕ → MessageSnapshot
message_in o message = slice_index_or o.messages message no_message_buffer

abbrev pub group_in : ObjectsSnapshot → ℕ → GroupSnapshot
group_in o group = slice_index_or o.groups group no_group

-- the objects with another one of a kind and number
abbrev pub objects_with_queue : ObjectsSnapshot → ℕ → QueueSnapshot → ObjectsSnapshot
objects_with_queue o queue now = record o { queues = slice_set o.queues queue now }

abbrev pub objects_with_queue_set : ObjectsSnapshot → ℕ → QueueSetSnapshot → ObjectsSnapshot
objects_with_queue_set o queue_set now =
    record o { queue_sets = slice_set o.queue_sets queue_set now }

abbrev pub objects_with_stream : ObjectsSnapshot → ℕ → StreamSnapshot → ObjectsSnapshot
objects_with_stream o stream now = record o { streams = slice_set o.streams stream now }

abbrev pub objects_with_message : ObjectsSnapshot → ℕ → MessageSnapshot → ObjectsSnapshot
objects_with_message o message now = record o { messages = slice_set o.messages message now }

abbrev pub objects_with_group : ObjectsSnapshot → ℕ → GroupSnapshot → ObjectsSnapshot
objects_with_group o group now = record o { groups = slice_set o.groups group now }

-- a queue with room for that many tasks in each of its lists, which is a member of one of so many
-- sets, if of any
abbrev pub IsQueueFor : ℕ → ℕ → QueueSnapshot → Type 0
IsQueueFor task_count queue_set_count queue =
    IsSizedQueue queue × (queue.task_count ≡ task_count) × (queue.queue_set_count ≡ queue_set_count)

-- a set with room for that many tasks, whose handles are of so many queues
abbrev pub IsQueueSetFor : ℕ → ℕ → QueueSetSnapshot → Type 0
IsQueueSetFor task_count queue_count queue_set =
    IsSizedQueueSet queue_set × (queue_set.task_count ≡ task_count)
    × (queue_set.queue_count ≡ queue_count)

-- buffers whose places can name that many tasks
abbrev pub IsStreamFor : ℕ → StreamSnapshot → Type 0
IsStreamFor task_count stream =
    IsSizedStream stream × (stream.holders.task_count ≡ task_count)

abbrev pub IsMessageBufferFor : ℕ → MessageSnapshot → Type 0
IsMessageBufferFor task_count buffer =
    IsSizedMessageBuffer buffer × (buffer.holders.task_count ≡ task_count)

-- an event group at which that many tasks can wait
abbrev pub IsGroupFor : ℕ → GroupSnapshot → Type 0
IsGroupFor task_count group = IsSizedGroup group × (group.task_count ≡ task_count)

-- objects at which that many tasks can wait, no more of each kind than an application has
pub record AreSizedObjects (task_count : ℕ) (o : ObjectsSnapshot) : Type 0 where
  pub queues : All (IsQueueFor task_count (length o.queue_sets)) o.queues
  pub few_queues : length o.queues ≤ MAX_QUEUES
  pub queue_sets : All (IsQueueSetFor task_count (length o.queues)) o.queue_sets
  pub few_queue_sets : length o.queue_sets ≤ MAX_QUEUE_SETS
  pub streams : All (IsStreamFor task_count) o.streams
  pub few_streams : length o.streams ≤ MAX_STREAMS
  pub messages : All (IsMessageBufferFor task_count) o.messages
  pub few_messages : length o.messages ≤ MAX_MESSAGE_BUFFERS
  pub groups : All (IsGroupFor task_count) o.groups
  pub few_groups : length o.groups ≤ MAX_GROUPS

abbrev pub shape_of : QueueSnapshot → QueueShape
shape_of queue = record { capacity = queue.capacity; item_size = queue.item_size }

-- how many handles a set has room for
abbrev pub capacity_of : QueueSetSnapshot → ℕ
capacity_of queue_set = queue_set.capacity

-- how many bytes a buffer has room for
abbrev pub size_of_stream : StreamSnapshot → ℕ
size_of_stream stream = stream.capacity

abbrev pub size_of_message_buffer : MessageSnapshot → ℕ
size_of_message_buffer buffer = buffer.capacity

-- the sizes that an object keeps for good; an event group has none, and there are so many
pub record Shapes : Type 0 where
  pub queues : List QueueShape
  pub queue_sets : List ℕ
  pub streams : List ℕ
  pub messages : List ℕ
  pub groups : ℕ

abbrev pub shapes_in : ObjectsSnapshot → Shapes
shapes_in o = record {
  queues = map shape_of o.queues;
  queue_sets = map capacity_of o.queue_sets;
  streams = map size_of_stream o.streams;
  messages = map size_of_message_buffer o.messages;
  groups = length o.groups;
}

-- those that an application asks for
abbrev pub shapes_asked : ObjectShapes → Shapes
shapes_asked o = record {
  queues = o.queues;
  queue_sets = map (λ queue_set. queue_set.capacity) o.queue_sets;
  streams = map (λ stream. stream.capacity) o.streams;
  messages = map (λ message. message.capacity) o.messages;
  groups = length o.groups;
}

-- The objects have the sizes that the application gives them.
abbrev pub AreShaped : Application → ObjectsSnapshot → Type 0
AreShaped app o = shapes_in o ≡ shapes_asked app.objects

-- a queue with nothing in it, at which every task can wait, in the set that has it as a member
abbrev pub new_queue : Application → ℕ → QueueSnapshot
new_queue app queue =
    as_member_of
    (empty_queue (shape_at app.objects queue).capacity (shape_at app.objects queue).item_size
    (length app.tasks) (length app.objects.queue_sets))
    (queue_set_at_boot app.objects queue)

-- the first n queues
abbrev pub first_queues : Application → ℕ → List QueueSnapshot
first_queues app zero = []
first_queues app (suc n) = first_queues app n ++ new_queue app n ∷ []

-- The set can be made: it has room for 1 to 2,048 handles.
abbrev pub IsHandleCapacity : QueueSetShapeView → Type 0
IsHandleCapacity shape = (0 < shape.capacity) × (shape.capacity ≤ MAX_HANDLES)

-- a set without handles, at which that many tasks can wait, for handles of so many queues
abbrev pub new_queue_set : ℕ → ℕ → QueueSetShapeView → QueueSetSnapshot
new_queue_set task_count queue_count shape =
    empty_queue_set shape.capacity queue_count task_count

-- buffers with nothing in them; the trigger level 0 is taken as 1
abbrev pub trigger_taken : ℕ → ℕ
trigger_taken trigger = if trigger == 0 then 1 else trigger

abbrev pub new_stream : ℕ → StreamShape → StreamSnapshot
new_stream task_count shape =
    empty_stream shape.capacity (trigger_taken shape.trigger) task_count

abbrev pub new_message_buffer : ℕ → MessageShape → MessageSnapshot
new_message_buffer task_count shape = empty_message_buffer shape.capacity task_count

-- The buffer can be made: it has room for 1 to 1,024 bytes, and its trigger level is no more.
abbrev pub IsStreamSize : StreamShape → Type 0
IsStreamSize shape =
    (0 < shape.capacity) × (shape.capacity ≤ MAX_STREAM_SIZE) × (shape.trigger ≤ shape.capacity)

abbrev pub IsMessageBufferSize : MessageShape → Type 0
IsMessageBufferSize shape = shape.capacity ≤ MAX_MESSAGE_BUFFER_SIZE

-- the objects at boot
abbrev pub new_objects : Application → ObjectsSnapshot
new_objects app = record {
  queues = first_queues app (length app.objects.queues);
  queue_sets =
      map (new_queue_set (length app.tasks) (length app.objects.queues))
      app.objects.queue_sets;
  streams = map (new_stream (length app.tasks)) app.objects.streams;
  messages = map (new_message_buffer (length app.tasks)) app.objects.messages;
  groups = replicate (length app.objects.groups) (empty_group (length app.tasks));
}

-- a primitive change of an object, whichever kind it is of; objects go by number
pub data ObjectChange : Type 0 where
  Queue : ℕ → QueueChange → ObjectChange
  QueueSet : ℕ → QueueSetChange → ObjectChange
  Stream : ℕ → StreamChange → ObjectChange
  Message : ℕ → MessageChange → ObjectChange
  Group : ℕ → GroupChange → ObjectChange

-- the change that one with borrowed bytes is
abbrev pub the_object_change : declared.ObjectChange → ObjectChange
the_object_change (borrowed.Queue queue change) = Queue queue (the_queue_change change)
the_object_change (borrowed.QueueSet queue_set change) = QueueSet queue_set change
the_object_change (borrowed.Stream stream change) = Stream stream (the_stream_change change)
the_object_change (borrowed.Message message change) = Message message (the_message_change change)
the_object_change (borrowed.Group group change) = Group group change

-- the objects after a change of one
abbrev pub object_applied : ObjectsSnapshot → ObjectChange → ObjectsSnapshot
object_applied o (Queue queue change) =
    objects_with_queue o queue (queue_applied (queue_in o queue) change)
object_applied o (QueueSet queue_set change) =
    objects_with_queue_set o queue_set (queue_set_applied (queue_set_in o queue_set) change)
object_applied o (Stream stream change) =
    objects_with_stream o stream (stream_applied (stream_in o stream) change)
object_applied o (Message message change) =
    objects_with_message o message (message_applied (message_in o message) change)
object_applied o (Group group change) =
    objects_with_group o group (group_applied (group_in o group) change)

-- the change that undoes a change made at these objects
abbrev pub object_inverse_of : ObjectsSnapshot → ObjectChange → ObjectChange
object_inverse_of o (Queue queue change) = Queue queue (queue_inverse_of (queue_in o queue) change)
object_inverse_of o (QueueSet queue_set change) =
    QueueSet queue_set (queue_set_inverse_of (queue_set_in o queue_set) change)
object_inverse_of o (Stream stream change) =
    Stream stream (stream_inverse_of (stream_in o stream) change)
object_inverse_of o (Message message change) =
    Message message (message_inverse_of (message_in o message) change)
object_inverse_of o (Group group change) =
    Group group (group_inverse_of (group_in o group) change)

-- The object is there, and the change fits it.
abbrev pub ObjectFits : ObjectsSnapshot → ObjectChange → Type 0
ObjectFits o (Queue queue change) =
    (queue < length o.queues) × QueueFits (queue_in o queue) change
ObjectFits o (QueueSet queue_set change) =
    (queue_set < length o.queue_sets) × QueueSetFits (queue_set_in o queue_set) change
ObjectFits o (Stream stream change) =
    (stream < length o.streams) × StreamFits (stream_in o stream) change
ObjectFits o (Message message change) =
    (message < length o.messages) × MessageFits (message_in o message) change
ObjectFits o (Group group change) =
    (group < length o.groups) × GroupFits (group_in o group) change

-- the bytes that a change carries
abbrev pub object_saved_bytes : ObjectChange → ℕ
object_saved_bytes (Queue queue change) = queue_saved_bytes change
object_saved_bytes (QueueSet queue_set change) = 0
object_saved_bytes (Stream stream change) = stream_saved_bytes change
object_saved_bytes (Message message change) = message_saved_bytes change
object_saved_bytes (Group group change) = 0
