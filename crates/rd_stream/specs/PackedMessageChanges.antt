-- The bytes of a change of a message buffer, and the change that stands at the end of bytes.
use Rattle.std.specs.Prelude.{ℕ, ◌≡◌, ◌+◌, ◌<◌, ◌≤◌, ◌==◌, if◌then◌else◌, IfSome, List, []}
use Rattle.std.specs.Prelude.{◌∷◌, ◌++◌, length}
use Rattle.std.specs.Int.{w16, to_le_bytes}
use Rattle.rd_bytes.specs.Ends.{all_but, byte_of_number, bytes_before, end_byte, end_short}
use Rattle.rd_bytes.specs.Ends.{number_of_byte}
use Rattle.rd_bytes.specs.Tags.{last_kind}
use Rattle.rd_bytes.specs.declared.tag.TheConstants.{PUSH_MESSAGE, DROP_MESSAGE, TAKE_MESSAGE}
use Rattle.rd_bytes.specs.declared.tag.TheConstants.{UNTAKE_MESSAGE, SET_READER, SET_WRITER}
use Rattle.rd_bytes.specs.declared.tag.TheConstants.{CLEAR_MESSAGES, FILL_MESSAGES}
use Rattle.rd_bytes.specs.declared.tag.TheConstants.{MESSAGE_HOLDER, OF_MESSAGE}
use Rattle.rd_stream.specs.MessageChanges.{MessageChange, Push, Drop, Take, Untake, SetHolder}
use Rattle.rd_stream.specs.MessageChanges.{Clear, Fill}
use Rattle.rd_stream.specs.Sides.{tag_of_side}
use Rattle.rd_stream.specs.declared.side.Side.TheVariants.{Reader, Writer}

-- the bytes that a change carries
abbrev pub message_carried : MessageChange → List ℕ
message_carried (Push message) = message
message_carried Drop = []
message_carried Take = []
message_carried (Untake message) = message
message_carried (SetHolder side task) = []
message_carried Clear = []
message_carried (Fill bytes) = bytes

-- what follows them: the buffer and the other fields, with the number of those bytes in their
-- place, and the tag
abbrev pub message_fields : ℕ → MessageChange → List ℕ
message_fields buffer (Push message) =
    buffer ∷ (to_le_bytes w16 (length message) ++ PUSH_MESSAGE ∷ [])
message_fields buffer Drop = buffer ∷ DROP_MESSAGE ∷ []
message_fields buffer Take = buffer ∷ TAKE_MESSAGE ∷ []
message_fields buffer (Untake message) =
    buffer ∷ (to_le_bytes w16 (length message) ++ UNTAKE_MESSAGE ∷ [])
message_fields buffer (SetHolder side task) =
    MESSAGE_HOLDER ∷ buffer ∷ byte_of_number task ∷ tag_of_side side ∷ []
message_fields buffer Clear = buffer ∷ CLEAR_MESSAGES ∷ []
message_fields buffer (Fill bytes) =
    buffer ∷ (to_le_bytes w16 (length bytes) ++ FILL_MESSAGES ∷ [])

abbrev pub message_packed : ℕ → MessageChange → List ℕ
message_packed buffer change = message_carried change ++ message_fields buffer change

-- The numbers of a change fit in their bytes, and none is the one that stands for none.
abbrev pub MessageFitsBytes : MessageChange → Type 0
MessageFitsBytes (Push message) = length message < 65536
MessageFitsBytes Drop = Unit {0}
MessageFitsBytes Take = Unit {0}
MessageFitsBytes (Untake message) = length message < 65536
MessageFitsBytes (SetHolder side task) = IfSome task (λ t. t < 255)
MessageFitsBytes Clear = Unit {0}
MessageFitsBytes (Fill bytes) = length bytes < 65536

abbrev pub MessageHasBytes : ℕ → MessageChange → Type 0
MessageHasBytes buffer change = (buffer < 255) × MessageFitsBytes change

-- the change at the end of bytes, by its tag
abbrev pub last_message_change : List ℕ → MessageChange
last_message_change bytes =
    if end_byte 1 bytes == PUSH_MESSAGE then Push (bytes_before 4 (end_short 2 bytes) bytes)
    else (if end_byte 1 bytes == DROP_MESSAGE then Drop
    else (if end_byte 1 bytes == TAKE_MESSAGE then Take
    else (if end_byte 1 bytes == UNTAKE_MESSAGE
    then Untake (bytes_before 4 (end_short 2 bytes) bytes)
    else (if end_byte 1 bytes == SET_READER
    then SetHolder Reader (number_of_byte (end_byte 2 bytes))
    else (if end_byte 1 bytes == SET_WRITER
    then SetHolder Writer (number_of_byte (end_byte 2 bytes))
    else (if end_byte 1 bytes == CLEAR_MESSAGES then Clear
    else Fill (bytes_before 4 (end_short 2 bytes) bytes)))))))

-- the buffer that changes
abbrev pub last_message_buffer : List ℕ → ℕ
last_message_buffer bytes =
    if end_byte 1 bytes == PUSH_MESSAGE then end_byte 4 bytes
    else (if end_byte 1 bytes == DROP_MESSAGE then end_byte 2 bytes
    else (if end_byte 1 bytes == TAKE_MESSAGE then end_byte 2 bytes
    else (if end_byte 1 bytes == UNTAKE_MESSAGE then end_byte 4 bytes
    else (if end_byte 1 bytes == SET_READER then end_byte 3 bytes
    else (if end_byte 1 bytes == SET_WRITER then end_byte 3 bytes
    else (if end_byte 1 bytes == CLEAR_MESSAGES then end_byte 2 bytes
    else end_byte 4 bytes))))))

-- how many bytes the change takes
abbrev pub message_change_length : List ℕ → ℕ
message_change_length bytes =
    if end_byte 1 bytes == PUSH_MESSAGE then 4 + end_short 2 bytes
    else (if end_byte 1 bytes == DROP_MESSAGE then 2
    else (if end_byte 1 bytes == TAKE_MESSAGE then 2
    else (if end_byte 1 bytes == UNTAKE_MESSAGE then 4 + end_short 2 bytes
    else (if end_byte 1 bytes == SET_READER then 4
    else (if end_byte 1 bytes == SET_WRITER then 4
    else (if end_byte 1 bytes == CLEAR_MESSAGES then 2
    else 4 + end_short 2 bytes))))))

-- A change is there, whole.
pub record EndsInMessageChange (bytes : List ℕ) : Type 0 where
  pub some : 1 ≤ length bytes
  pub whole : message_change_length bytes ≤ length bytes

-- This change of that buffer is at the end of bytes, behind the rest of them.
pub record MessageChangeIsAtEnd (bytes rest : List ℕ) (n : ℕ) (change : MessageChange)
    : Type 0 where
  pub ends : EndsInMessageChange bytes
  pub tag : SET_READER ≤ end_byte 1 bytes
  pub kind : last_kind bytes ≡ OF_MESSAGE
  pub buffer : last_message_buffer bytes ≡ n
  pub same : last_message_change bytes ≡ change
  pub before : all_but (message_change_length bytes) bytes ≡ rest

-- Whichever change it is, behind whichever bytes it is put.
abbrev pub EachMessageChangeIsReadBack : Type 0
EachMessageChangeIsReadBack =
    (rest : List ℕ) (buffer : ℕ) (change : MessageChange) → MessageHasBytes buffer change
    → MessageChangeIsAtEnd (rest ++ message_packed buffer change) rest buffer change
