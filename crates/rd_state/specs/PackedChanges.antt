-- Changes as bytes, one after the other, and the changes that are read from the end of bytes.
use Rattle.std.specs.Prelude.{ℕ, zero, suc, ◌≡◌, ◌^◌, ◌<◌, ◌≤◌, ◌==◌, if◌then◌else◌, nat_lt, IfSome}
use Rattle.std.specs.Prelude.{List, [], ◌∷◌, ◌++◌, length}
use Rattle.std.specs.Int.{w32, to_le_bytes}
use Rattle.rd_bytes.specs.Ends.{all_but, byte_of_number, end_byte, end_word, number_of_byte}
use Rattle.rd_bytes.specs.Tags.{last_kind}
use Rattle.rd_bytes.specs.declared.tag.TheConstants.{SET_TICK, SET_TURN, SET_CORE, INS_READY}
use Rattle.rd_bytes.specs.declared.tag.TheConstants.{DEL_READY, OF_QUEUE, OF_QUEUE_SET, OF_STREAM}
use Rattle.rd_bytes.specs.declared.tag.TheConstants.{OF_MESSAGE}
use Rattle.rd_bytes.specs.Layouts.{FitsLayout, laid_out, last_length, last_row}
use Rattle.rd_group.specs.PackedGroupChanges.{group_layout}
use Rattle.rd_group.specs.declared.group_change.GroupChange.{GroupChange}
use Rattle.rd_queue.specs.Changes.{QueueChange}
use Rattle.rd_queue.specs.PackedChanges.{queue_layout}
use Rattle.rd_queue.specs.PackedQueueSetChanges.{queue_set_layout}
use Rattle.rd_queue.specs.declared.queue_set_change.QueueSetChange.{QueueSetChange}
use Rattle.rd_state.specs.Change.{Change, SetTick, SetTurn, SetCore, InsReady, DelReady, Task}
use Rattle.rd_state.specs.Change.{Object}
use Rattle.rd_state.specs.Objects.{ObjectChange, Queue, QueueSet, Stream, Message, Group}
use Rattle.rd_stream.specs.PackedMessageChanges.{last_message_buffer, last_message_change}
use Rattle.rd_stream.specs.PackedMessageChanges.{message_change_length, message_packed}
use Rattle.rd_stream.specs.PackedMessageChanges.{MessageHasBytes}
use Rattle.rd_stream.specs.PackedStreamChanges.{last_stream, last_stream_change}
use Rattle.rd_stream.specs.PackedStreamChanges.{stream_change_length, stream_packed}
use Rattle.rd_stream.specs.PackedStreamChanges.{StreamHasBytes}
use Rattle.rd_state.specs.PackedTaskChanges.{last_task, last_task_change, task_change_length}
use Rattle.rd_state.specs.PackedTaskChanges.{task_packed, TaskHasBytes}

-- ---- one change

-- the bytes of a change of an object
abbrev pub object_packed : ObjectChange → List ℕ
object_packed (Queue queue change) = laid_out queue_layout queue change
object_packed (QueueSet queue_set change) = laid_out queue_set_layout queue_set change
object_packed (Stream stream change) = stream_packed stream change
object_packed (Message message change) = message_packed message change
object_packed (Group group change) = laid_out group_layout group change

-- the bytes of a change: those that it carries, its fields, and its tag
abbrev pub packed : Change → List ℕ
packed (SetTick tick) = to_le_bytes w32 tick ++ SET_TICK ∷ []
packed (SetTurn turn) = turn ∷ SET_TURN ∷ []
packed (SetCore core task) = core ∷ byte_of_number task ∷ SET_CORE ∷ []
packed (InsReady index task) = index ∷ task ∷ INS_READY ∷ []
packed (DelReady index) = index ∷ DEL_READY ∷ []
packed (Task task change) = task_packed task change
packed (Object change) = object_packed change

-- The numbers of a change fit in their bytes, and none is the one that stands for none.
abbrev pub ObjectHasBytes : ObjectChange → Type 0
ObjectHasBytes (Queue queue change) = FitsLayout queue_layout queue change
ObjectHasBytes (QueueSet queue_set change) = FitsLayout queue_set_layout queue_set change
ObjectHasBytes (Stream stream change) = StreamHasBytes stream change
ObjectHasBytes (Message message change) = MessageHasBytes message change
ObjectHasBytes (Group group change) = FitsLayout group_layout group change

abbrev pub HasBytes : Change → Type 0
HasBytes (SetTick tick) = tick < 2 ^ 32
HasBytes (SetTurn turn) = turn < 255
HasBytes (SetCore core task) = (core < 255) × IfSome task (λ t. t < 255)
HasBytes (InsReady index task) = (index < 255) × (task < 255)
HasBytes (DelReady index) = index < 255
HasBytes (Task task change) = TaskHasBytes task change
HasBytes (Object change) = ObjectHasBytes change

-- a change of a queue, of a set and of a group, as one of an object
abbrev pub queue_change_of : ℕ × QueueChange → ObjectChange
queue_change_of last = Queue last.0 last.1

abbrev pub queue_set_change_of : ℕ × QueueSetChange → ObjectChange
queue_set_change_of last = QueueSet last.0 last.1

abbrev pub group_change_of : ℕ × GroupChange → ObjectChange
group_change_of last = Group last.0 last.1

-- the change of an object at the end of bytes, and how many bytes it takes
abbrev pub last_object_change : List ℕ → ObjectChange
last_object_change bytes =
    if last_kind bytes == OF_QUEUE then queue_change_of (last_row queue_layout bytes)
    else (if last_kind bytes == OF_QUEUE_SET
    then queue_set_change_of (last_row queue_set_layout bytes)
    else (if last_kind bytes == OF_STREAM
    then Stream (last_stream bytes) (last_stream_change bytes)
    else (if last_kind bytes == OF_MESSAGE
    then Message (last_message_buffer bytes) (last_message_change bytes)
    else group_change_of (last_row group_layout bytes))))

abbrev pub object_change_length : List ℕ → ℕ
object_change_length bytes =
    if last_kind bytes == OF_QUEUE then last_length queue_layout bytes
    else (if last_kind bytes == OF_QUEUE_SET then last_length queue_set_layout bytes
    else (if last_kind bytes == OF_STREAM then stream_change_length bytes
    else (if last_kind bytes == OF_MESSAGE then message_change_length bytes
    else last_length group_layout bytes)))

-- the change at the end of bytes, and how many bytes it takes
abbrev pub last_change : List ℕ → Change
last_change bytes =
    if end_byte 1 bytes == SET_TICK then SetTick (end_word 2 bytes)
    else (if end_byte 1 bytes == SET_TURN then SetTurn (end_byte 2 bytes)
    else (if end_byte 1 bytes == SET_CORE
    then SetCore (end_byte 3 bytes) (number_of_byte (end_byte 2 bytes))
    else (if end_byte 1 bytes == INS_READY then InsReady (end_byte 3 bytes) (end_byte 2 bytes)
    else (if end_byte 1 bytes == DEL_READY then DelReady (end_byte 2 bytes)
    else (if nat_lt (end_byte 1 bytes) INS_READY
    then Task (last_task bytes) (last_task_change bytes)
    else Object (last_object_change bytes))))))

abbrev pub change_length : List ℕ → ℕ
change_length bytes =
    if end_byte 1 bytes == SET_TICK then 5
    else (if end_byte 1 bytes == SET_TURN then 2
    else (if end_byte 1 bytes == SET_CORE then 3
    else (if end_byte 1 bytes == INS_READY then 3
    else (if end_byte 1 bytes == DEL_READY then 2
    else (if nat_lt (end_byte 1 bytes) INS_READY then task_change_length bytes
    else object_change_length bytes)))))

-- the bytes before the last change
abbrev pub before_last : List ℕ → List ℕ
before_last bytes = all_but (change_length bytes) bytes

-- A change is there, with its tag, whole.
pub record EndsInChange (bytes : List ℕ) : Type 0 where
  pub some : 1 ≤ length bytes
  pub tagged : SET_TICK ≤ end_byte 1 bytes
  pub whole : change_length bytes ≤ length bytes

-- This change is at the end of bytes, behind the rest of them.
pub record IsAtEnd (bytes rest : List ℕ) (change : Change) : Type 0 where
  pub ends : EndsInChange bytes
  pub same : last_change bytes ≡ change
  pub before : before_last bytes ≡ rest

-- Whichever change it is, behind whichever bytes it is put.
abbrev pub EachIsReadBack : Type 0
EachIsReadBack = (rest : List ℕ) (change : Change) → HasBytes change
    → IsAtEnd (rest ++ packed change) rest change

-- ---- changes one after the other

abbrev pub all_packed : List Change → List ℕ
all_packed [] = []
all_packed (change ∷ later) = packed change ++ all_packed later

-- so many changes, the last one at the end of the bytes
abbrev pub changes_in : ℕ → List ℕ → List Change
changes_in zero bytes = []
changes_in (suc n) bytes = changes_in n (before_last bytes) ++ last_change bytes ∷ []

-- The bytes are so many packed changes, and no more.
abbrev pub AreChanges : ℕ → List ℕ → Type 0
AreChanges zero bytes = bytes ≡ []
AreChanges (suc n) bytes =
    EndsInChange bytes × (before_last bytes ++ packed (last_change bytes) ≡ bytes)
    × AreChanges n (before_last bytes)

-- A record of these changes can be kept: the number of their bytes fits in four.
abbrev pub IsPackable : List Change → Type 0
IsPackable changes = length (all_packed changes) < 2 ^ 32

-- what a contract sees of a list of changes: the changes, and for how many bytes there is room
pub record ChangeListView : Type 0 where
  pub changes : List Change
  pub capacity : ℕ

-- There is no room for the bytes of one change more.
abbrev pub HasNoRoomForChange : ChangeListView → Change → Type 0
HasNoRoomForChange list change = list.capacity < length (all_packed list.changes ++ packed change)
