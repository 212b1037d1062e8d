-- The bytes of a change of a task, and the change that stands at the end of bytes.
use Rattle.std.specs.Prelude.{ℕ, ◌≡◌, ◌+◌, ◌%◌, ◌^◌, ◌<◌, ◌≤◌, ◌==◌, ◌||◌, if◌then◌else◌}
use Rattle.std.specs.Prelude.{Option, Some, None}
use Rattle.std.specs.Prelude.{IfSome, List, [], ◌∷◌, ◌++◌, length, nat_lt}
use Rattle.std.specs.Int.{w16, w32, w64, to_le_bytes}
use Rattle.rd_bytes.specs.Ends.{all_but, bytes_before, end_byte, end_long, end_short, end_word}
use Rattle.rd_bytes.specs.declared.tag.TheConstants.{SET_PC, SET_REG, SET_PHASE, SET_ENTRY}
use Rattle.rd_bytes.specs.declared.tag.TheConstants.{SET_DATA}
use Rattle.rd_bytes.specs.declared.tag.TheConstants.{OWN_ENTRY, SELECTING_LIST, READING_STREAM}
use Rattle.rd_bytes.specs.declared.tag.TheConstants.{WRITING_STREAM, READING_MESSAGES}
use Rattle.rd_bytes.specs.declared.tag.TheConstants.{WRITING_MESSAGES, WAITING_GROUP}
use Rattle.rd_stream.specs.declared.side.Side.TheVariants.{Reader, Writer}
use Rattle.rd_queue.specs.PackedChanges.{byte_of_list, list_of_byte}
use Rattle.rd_state.specs.TaskChanges.{TaskChange, SetPc, SetReg, SetPhase, SetEntry, SetData}
use Rattle.rd_notify.specs.declared.entries.EntryState.{EntryState}
use Rattle.rd_notify.specs.declared.entries.EntryState.TheVariants.{Idle, Waiting, Received}
use Rattle.rd_state.specs.declared.phase.Cause.{Cause}
use Rattle.rd_state.specs.declared.phase.Cause.TheVariants.{SetFull, TwoReaders, TwoWriters}
use Rattle.rd_state.specs.declared.phase.Cause.TheVariants.{EmptyData, BadBits}
use Rattle.rd_state.specs.declared.phase.Held.{Held}
use Rattle.rd_state.specs.declared.phase.Held.TheVariants.{Stream, Message}
use Rattle.rd_state.specs.declared.phase.Phase.{Phase}
use Rattle.rd_state.specs.declared.phase.Phase.TheVariants.{Run, Again, Given, Wait}
use Rattle.rd_state.specs.declared.phase.Phase.TheVariants.{Ended, Failed}
use Rattle.rd_state.specs.declared.phase.Place.{Place}
use Rattle.rd_state.specs.declared.phase.Place.TheVariants as sort
use Rattle.rd_state.specs.declared.phase.Listed.TheVariants.{Queue, QueueSet, Group}
use Rattle.rd_state.specs.declared.phase.Listed.{Listed}
use Rattle.rd_state.specs.Waiting.{held_object}

-- a deadline as a number, the largest for none; and the deadline of such a number
abbrev pub number_of_deadline : Option ℕ → ℕ
number_of_deadline None = 18446744073709551615
number_of_deadline (Some deadline) = deadline

abbrev pub deadline_of_number : ℕ → Option ℕ
deadline_of_number number = if number == 18446744073709551615 then None else Some number

-- a cause as a number, and the cause of such a number
abbrev pub number_of_cause : Cause → ℕ
number_of_cause SetFull = 0
number_of_cause TwoReaders = 1
number_of_cause TwoWriters = 2
number_of_cause EmptyData = 3
number_of_cause BadBits = 4

abbrev pub cause_of_number : ℕ → Cause
cause_of_number number =
    if number == 0 then SetFull
    else (if number == 1 then TwoReaders
    else (if number == 2 then TwoWriters
    else (if number == 3 then EmptyData
    else BadBits)))

-- a list as two bytes, its kind and its object; and the list of such bytes
abbrev pub kind_of_listed : Listed → ℕ
kind_of_listed (Queue queue list) = byte_of_list list
kind_of_listed (QueueSet queue_set) = SELECTING_LIST
kind_of_listed (Group group) = WAITING_GROUP

abbrev pub object_of_listed : Listed → ℕ
object_of_listed (Queue queue list) = queue
object_of_listed (QueueSet queue_set) = queue_set
object_of_listed (Group group) = group

abbrev pub listed_of_bytes : ℕ → ℕ → Listed
listed_of_bytes kind object =
    if kind == SELECTING_LIST then QueueSet object
    else (if kind == WAITING_GROUP then Group object
    else Queue object (list_of_byte kind))

-- a buffer's place, and any place, likewise
abbrev pub kind_of_held : Held → ℕ
kind_of_held (Stream stream Reader) = READING_STREAM
kind_of_held (Stream stream Writer) = WRITING_STREAM
kind_of_held (Message message Reader) = READING_MESSAGES
kind_of_held (Message message Writer) = WRITING_MESSAGES

abbrev pub held_of_bytes : ℕ → ℕ → Held
held_of_bytes kind object =
    if kind == READING_STREAM then Stream object Reader
    else (if kind == WRITING_STREAM then Stream object Writer
    else (if kind == READING_MESSAGES then Message object Reader
    else Message object Writer))

abbrev pub list_of_place : Place → ℕ
list_of_place (sort.Listed list) = kind_of_listed list
list_of_place (sort.Held held) = kind_of_held held
list_of_place (sort.Entry index) = OWN_ENTRY

abbrev pub object_of_place : Place → ℕ
object_of_place (sort.Listed list) = object_of_listed list
object_of_place (sort.Held held) = held_object held
object_of_place (sort.Entry index) = index

abbrev pub place_of_bytes : ℕ → ℕ → Place
place_of_bytes list object =
    if list == OWN_ENTRY then sort.Entry object
    else (if nat_lt list READING_STREAM || list == WAITING_GROUP
    then sort.Listed (listed_of_bytes list object)
    else sort.Held (held_of_bytes list object))

-- A phase is its kind, its place and a number; what it lacks is 0.
abbrev pub phase_kind : Phase → ℕ
phase_kind Run = 0
phase_kind (Again deadline) = 1
phase_kind (Given bits) = 2
phase_kind (Wait place deadline) = 3
phase_kind Ended = 4
phase_kind (Failed cause) = 5

abbrev pub phase_list : Phase → ℕ
phase_list Run = 0
phase_list (Again deadline) = 0
phase_list (Given bits) = 0
phase_list (Wait place deadline) = list_of_place place
phase_list Ended = 0
phase_list (Failed cause) = 0

abbrev pub phase_object : Phase → ℕ
phase_object Run = 0
phase_object (Again deadline) = 0
phase_object (Given bits) = 0
phase_object (Wait place deadline) = object_of_place place
phase_object Ended = 0
phase_object (Failed cause) = 0

abbrev pub phase_number : Phase → ℕ
phase_number Run = 0
phase_number (Again deadline) = number_of_deadline deadline
phase_number (Given bits) = bits
phase_number (Wait place deadline) = number_of_deadline deadline
phase_number Ended = 0
phase_number (Failed cause) = number_of_cause cause

abbrev pub phase_of_bytes : ℕ → ℕ → ℕ → ℕ → Phase
phase_of_bytes kind list object number =
    if kind == 0 then Run
    else (if kind == 1 then Again (deadline_of_number number)
    else (if kind == 2 then Given (number % 2 ^ 32)
    else (if kind == 3 then Wait (place_of_bytes list object) (deadline_of_number number)
    else (if kind == 4 then Ended
    else Failed (cause_of_number number)))))

-- the state of an entry as a byte, and the state of such a byte
abbrev pub byte_of_entry_state : EntryState → ℕ
byte_of_entry_state Idle = 0
byte_of_entry_state Waiting = 1
byte_of_entry_state Received = 2

abbrev pub entry_state_of_byte : ℕ → EntryState
entry_state_of_byte byte = if byte == 0 then Idle else (if byte == 1 then Waiting else Received)

-- the bytes that a change carries
abbrev pub task_carried : TaskChange → List ℕ
task_carried (SetPc pc) = []
task_carried (SetReg register value) = []
task_carried (SetPhase phase) = []
task_carried (SetEntry index entry) = []
task_carried (SetData bytes) = bytes

-- what follows them: the task and the other fields, with the number of those bytes in their place,
-- and the tag
abbrev pub task_fields : ℕ → TaskChange → List ℕ
task_fields task (SetPc pc) = task ∷ (to_le_bytes w16 pc ++ SET_PC ∷ [])
task_fields task (SetReg register value) = task ∷ register ∷ (to_le_bytes w32 value ++ SET_REG ∷ [])
task_fields task (SetPhase phase) =
    task ∷ phase_kind phase ∷ phase_list phase ∷ phase_object phase
    ∷ (to_le_bytes w64 (phase_number phase) ++ SET_PHASE ∷ [])
task_fields task (SetEntry index entry) =
    task ∷ index ∷ (to_le_bytes w32 entry.value ++ byte_of_entry_state entry.state ∷ SET_ENTRY ∷ [])
task_fields task (SetData bytes) = task ∷ (to_le_bytes w16 (length bytes) ++ SET_DATA ∷ [])

abbrev pub task_packed : ℕ → TaskChange → List ℕ
task_packed task change = task_carried change ++ task_fields task change

-- The numbers of a change fit in their bytes, and none is the one that stands for none.
abbrev pub DeadlineFitsBytes : Option ℕ → Type 0
DeadlineFitsBytes deadline = IfSome deadline (λ tick. tick < 18446744073709551615)

abbrev pub PlaceFitsBytes : Place → Type 0
PlaceFitsBytes place = object_of_place place < 255

abbrev pub PhaseFitsBytes : Phase → Type 0
PhaseFitsBytes Run = Unit {0}
PhaseFitsBytes (Again deadline) = DeadlineFitsBytes deadline
PhaseFitsBytes (Given bits) = bits < 2 ^ 32
PhaseFitsBytes (Wait place deadline) = PlaceFitsBytes place × DeadlineFitsBytes deadline
PhaseFitsBytes Ended = Unit {0}
PhaseFitsBytes (Failed cause) = Unit {0}

abbrev pub TaskFitsBytes : TaskChange → Type 0
TaskFitsBytes (SetPc pc) = pc < 65536
TaskFitsBytes (SetReg register value) = (register < 255) × (value < 2 ^ 32)
TaskFitsBytes (SetPhase phase) = PhaseFitsBytes phase
TaskFitsBytes (SetEntry index entry) = (index < 255) × (entry.value < 2 ^ 32)
TaskFitsBytes (SetData bytes) = length bytes < 65536

abbrev pub TaskHasBytes : ℕ → TaskChange → Type 0
TaskHasBytes task change = (task < 255) × TaskFitsBytes change

-- the change at the end of bytes, by its tag
abbrev pub last_task_change : List ℕ → TaskChange
last_task_change bytes =
    if end_byte 1 bytes == SET_PC then SetPc (end_short 2 bytes)
    else (if end_byte 1 bytes == SET_REG then SetReg (end_byte 6 bytes) (end_word 2 bytes)
    else (if end_byte 1 bytes == SET_PHASE
    then SetPhase
    (phase_of_bytes (end_byte 12 bytes) (end_byte 11 bytes) (end_byte 10 bytes) (end_long 2 bytes))
    else (if end_byte 1 bytes == SET_ENTRY
    then SetEntry (end_byte 7 bytes)
    (record { value = end_word 3 bytes; state = entry_state_of_byte (end_byte 2 bytes) })
    else SetData (bytes_before 4 (end_short 2 bytes) bytes))))

-- the task that changes
abbrev pub last_task : List ℕ → ℕ
last_task bytes =
    if end_byte 1 bytes == SET_PC then end_byte 4 bytes
    else (if end_byte 1 bytes == SET_REG then end_byte 7 bytes
    else (if end_byte 1 bytes == SET_PHASE then end_byte 13 bytes
    else (if end_byte 1 bytes == SET_ENTRY then end_byte 8 bytes
    else end_byte 4 bytes)))

-- how many bytes the change takes
abbrev pub task_change_length : List ℕ → ℕ
task_change_length bytes =
    if end_byte 1 bytes == SET_PC then 4
    else (if end_byte 1 bytes == SET_REG then 7
    else (if end_byte 1 bytes == SET_PHASE then 13
    else (if end_byte 1 bytes == SET_ENTRY then 8
    else 4 + end_short 2 bytes)))

-- A change is there, whole.
pub record EndsInTaskChange (bytes : List ℕ) : Type 0 where
  pub some : 1 ≤ length bytes
  pub whole : task_change_length bytes ≤ length bytes

-- This change of that task is at the end of bytes, behind the rest of them.
pub record TaskChangeIsAtEnd (bytes rest : List ℕ) (n : ℕ) (change : TaskChange) : Type 0 where
  pub ends : EndsInTaskChange bytes
  pub first_tag : SET_PC ≤ end_byte 1 bytes
  pub last_tag : end_byte 1 bytes ≤ SET_DATA
  pub task : last_task bytes ≡ n
  pub same : last_task_change bytes ≡ change
  pub before : all_but (task_change_length bytes) bytes ≡ rest

-- Whichever change it is, behind whichever bytes it is put.
abbrev pub EachTaskChangeIsReadBack : Type 0
EachTaskChangeIsReadBack = (rest : List ℕ) (task : ℕ) (change : TaskChange)
    → TaskHasBytes task change
    → TaskChangeIsAtEnd (rest ++ task_packed task change) rest task change
