-- Bytes that go from one part of the state to another: the change that each transfer makes.
use Rattle.std.specs.Prelude.{ℕ, ◌+◌, ◌<◌, ◌≤◌, List, [], length, slice_index_or, take}
use Rattle.rd_bytes.specs.declared.bytes.TheConstants.{MAX_BYTES}
use Rattle.rd_queue.specs.Changes.{SetItem, put_at}
use Rattle.rd_queue.specs.Queues.{fitted}
use Rattle.rd_state.specs.Change.{Change, Object, Task}
use Rattle.rd_state.specs.Objects.{ObjectChange, ObjectsSnapshot, Queue, Stream, Message}
use Rattle.rd_state.specs.Objects.{message_in}
use Rattle.rd_state.specs.Objects.{queue_in, stream_in}
use Rattle.rd_stream.specs.MessageChanges.{Push, HasSpaceForMessage}
use Rattle.rd_stream.specs.StreamChanges.{PushBytes}
use Rattle.rd_state.specs.TaskChanges.{SetData}
use Rattle.rd_state.specs.declared.transfer.Sink.{Sink}
use Rattle.rd_state.specs.declared.transfer.Sink.TheVariants.{QueueEnd, OverFront, StreamBack}
use Rattle.rd_state.specs.declared.transfer.Sink.TheVariants.{MessageBack}
use Rattle.rd_state.specs.declared.transfer.Source.{Source}
use Rattle.rd_state.specs.declared.transfer.Source.TheVariants.{QueueFront, StreamFront}
use Rattle.rd_state.specs.declared.transfer.Source.TheVariants.{MessageFront}
use Rattle.rd_state.specs.declared.transfer.Transfer.{Transfer}
use Rattle.rd_state.specs.declared.transfer.Transfer.TheVariants.{FromData, ToData}
use Rattle.rd_state.specs.Snapshot.{Snapshot, task_at}

-- the bytes at a source
abbrev pub bytes_at : ObjectsSnapshot → Source → List ℕ
bytes_at o (QueueFront queue) = slice_index_or (queue_in o queue).items 0 []
bytes_at o (StreamFront stream count) = take count (stream_in o stream).bytes
bytes_at o (MessageFront message) = slice_index_or (message_in o message).messages 0 []

-- the change by which bytes come to a sink
abbrev pub sunk : ObjectsSnapshot → Sink → List ℕ → ObjectChange
sunk o (QueueEnd queue end) bytes =
    Queue queue (put_at end (fitted (queue_in o queue).item_size bytes))
sunk o (OverFront queue) bytes = Queue queue (SetItem 0 (fitted (queue_in o queue).item_size bytes))
sunk o (StreamBack stream count) bytes = Stream stream (PushBytes (take count bytes))
sunk o (MessageBack message) bytes = Message message (Push bytes)

-- There are bytes at the source, and no more than a task's data has.
abbrev pub HasSource : ObjectsSnapshot → Source → Type 0
HasSource o (QueueFront queue) = (queue < length o.queues) × (0 < length (queue_in o queue).items)
HasSource o (StreamFront stream count) =
    (stream < length o.streams) × (count ≤ length (stream_in o stream).bytes)
    × (count ≤ MAX_BYTES)
HasSource o (MessageFront message) =
    (message < length o.messages) × (0 < length (message_in o message).messages)
    × (length (slice_index_or (message_in o message).messages 0 []) ≤ MAX_BYTES)

-- The sink takes the bytes: there is space for an item, or one to be replaced, or space for so many
-- of them, or for a message.
abbrev pub HasSink : ObjectsSnapshot → Sink → List ℕ → Type 0
HasSink o (QueueEnd queue end) bytes =
    (queue < length o.queues) × (length (queue_in o queue).items < (queue_in o queue).capacity)
HasSink o (OverFront queue) bytes =
    (queue < length o.queues) × (0 < length (queue_in o queue).items)
HasSink o (StreamBack stream count) bytes =
    (stream < length o.streams)
    × (length (stream_in o stream).bytes + count ≤ (stream_in o stream).capacity)
    × (count ≤ length bytes)
HasSink o (MessageBack message) bytes =
    (message < length o.messages) × HasSpaceForMessage (message_in o message) bytes

-- the change that a transfer makes of a state
abbrev pub change_of : Snapshot → Transfer → Change
change_of s (FromData task sink) = Object (sunk s.objects sink (task_at s task).bytes)
change_of s (ToData source task) = Task task (SetData (bytes_at s.objects source))

-- Both parts are there, with space or with bytes.
abbrev pub CanTransfer : Snapshot → Transfer → Type 0
CanTransfer s (FromData task sink) =
    (task < length s.tasks) × HasSink s.objects sink (task_at s task).bytes
CanTransfer s (ToData source task) = HasSource s.objects source × (task < length s.tasks)
