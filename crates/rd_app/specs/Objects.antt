-- The objects of an application, and the limits that each keeps. They go by number: the index in
-- the list of their kind.
use Rattle.std.specs.Prelude.{ℕ, ◌<◌, ◌≤◌, List, [], length, map, slice_index_or, All, Option}
use Rattle.std.specs.Prelude.{nat_eq, position}
use Rattle.std.specs.List.{IsDistinct, concat, list_any}
use Rattle.rd_queue.specs.declared.item.TheConstants.{MAX_ITEM_SIZE}
use Rattle.rd_queue.specs.declared.queue.TheConstants.{MAX_ITEMS}
use Rattle.rd_queue.specs.declared.queue_set.TheConstants.{MAX_HANDLES}
use Rattle.rd_stream.specs.declared.message_buf.TheConstants.{MIN_MESSAGE_BUFFER_SIZE}
use Rattle.rd_stream.specs.declared.message_buf.TheConstants.{MAX_MESSAGE_BUFFER_SIZE}
use Rattle.rd_stream.specs.declared.stream_buf.TheConstants.{MAX_STREAM_SIZE}
use Rattle.rd_app.specs.declared.objects.TheConstants.{MAX_QUEUES, MAX_QUEUE_SETS, MAX_STREAMS}
use Rattle.rd_app.specs.declared.objects.TheConstants.{MAX_MESSAGE_BUFFERS, MAX_GROUPS}
use Rattle.rd_app.specs.declared.objects.GroupShape.{GroupShape}
use Rattle.rd_app.specs.declared.objects.QueueShape.{QueueShape}
use Rattle.rd_app.specs.declared.objects.StreamShape.{StreamShape}
use Rattle.rd_app.specs.declared.objects.MessageShape.{MessageShape}
use Rattle.rd_app.specs.declared.objects.ObjectShapes as code
use Rattle.rd_app.specs.QueueSetShapeView.{QueueSetShapeView}

pub record ObjectShapes : Type 0 where
  pub queues : List QueueShape
  pub queue_sets : List QueueSetShapeView
  pub streams : List StreamShape
  pub messages : List MessageShape
  pub groups : List GroupShape

abbrev pub no_shapes : ObjectShapes
no_shapes = record { queues = []; queue_sets = []; streams = []; messages = []; groups = [] }

-- what a contract sees of the code's
abbrev pub objects_view : code.ObjectShapes → ObjectShapes
objects_view objects = record {
  queues = objects.queues.items;
  queue_sets = objects.queue_sets.items;
  streams = objects.streams.items;
  messages = objects.messages.items;
  groups = objects.groups.items;
}

-- the shape of a queue
abbrev pub shape_at : ObjectShapes → ℕ → QueueShape
shape_at o queue = slice_index_or o.queues queue (record { capacity = 0; item_size = 0 })

-- the set that a queue is a member of at boot, if it is one of any
abbrev pub queue_set_at_boot : ObjectShapes → ℕ → Option ℕ
queue_set_at_boot o queue =
    position (λ queue_set. list_any (nat_eq queue) queue_set.members) o.queue_sets

-- the members of all these sets, one set after another
abbrev pub members_of : List QueueSetShapeView → List ℕ
members_of queue_sets = concat (map (λ queue_set. queue_set.members) queue_sets)

abbrev pub IsQueueShape : QueueShape → Type 0
IsQueueShape queue =
    (0 < queue.capacity)
    × (queue.capacity ≤ MAX_ITEMS)
    × (0 < queue.item_size)
    × (queue.item_size ≤ MAX_ITEM_SIZE)

-- There is room for handles, and the members are queues.
pub record IsQueueSetShape (o : ObjectShapes) (queue_set : QueueSetShapeView) : Type 0 where
  pub some : 0 < queue_set.capacity
  pub few : queue_set.capacity ≤ MAX_HANDLES
  pub members : All (λ queue. queue < length o.queues) queue_set.members

-- There is room for a byte, and the trigger level is a number of bytes for which there is room.
abbrev pub IsStreamShape : StreamShape → Type 0
IsStreamShape stream =
    (0 < stream.capacity)
    × (stream.capacity ≤ MAX_STREAM_SIZE)
    × (stream.trigger ≤ stream.capacity)

-- There is room for a message of one byte.
abbrev pub IsMessageShape : MessageShape → Type 0
IsMessageShape buffer =
    (MIN_MESSAGE_BUFFER_SIZE ≤ buffer.capacity) × (buffer.capacity ≤ MAX_MESSAGE_BUFFER_SIZE)

pub record AreObjects (o : ObjectShapes) : Type 0 where
  pub few_queues : length o.queues ≤ MAX_QUEUES
  pub queues : All IsQueueShape o.queues
  pub few_queue_sets : length o.queue_sets ≤ MAX_QUEUE_SETS
  pub queue_sets : All (IsQueueSetShape o) o.queue_sets
  pub one_queue_set_each : IsDistinct nat_eq (members_of o.queue_sets)
  pub few_streams : length o.streams ≤ MAX_STREAMS
  pub streams : All IsStreamShape o.streams
  pub few_messages : length o.messages ≤ MAX_MESSAGE_BUFFERS
  pub messages : All IsMessageShape o.messages
  pub few_groups : length o.groups ≤ MAX_GROUPS
