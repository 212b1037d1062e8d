-- The bytes of a change of a stream buffer, and the change that stands at the end of bytes.
use Rattle.std.specs.Prelude.{ℕ, ◌≡◌, ◌+◌, ◌<◌, ◌≤◌, ◌==◌, if◌then◌else◌, IfSome, List, []}
use Rattle.std.specs.Prelude.{◌∷◌, ◌++◌, length}
use Rattle.std.specs.Int.{w16, to_le_bytes}
use Rattle.rd_bytes.specs.Ends.{all_but, byte_of_number, bytes_before, end_byte, end_short}
use Rattle.rd_bytes.specs.Ends.{number_of_byte}
use Rattle.rd_bytes.specs.Tags.{last_kind}
use Rattle.rd_bytes.specs.declared.tag.TheConstants.{PUSH_BYTES, DROP_BYTES, TAKE_BYTES}
use Rattle.rd_bytes.specs.declared.tag.TheConstants.{UNTAKE_BYTES, SET_BYTE, SET_TRIGGER}
use Rattle.rd_bytes.specs.declared.tag.TheConstants.{SET_READER, SET_WRITER, CLEAR_BYTES}
use Rattle.rd_bytes.specs.declared.tag.TheConstants.{FILL_BYTES, STREAM_HOLDER, OF_STREAM}
use Rattle.rd_stream.specs.StreamChanges.{StreamChange, PushBytes, DropBytes, TakeBytes}
use Rattle.rd_stream.specs.StreamChanges.{UntakeBytes, SetByte, SetTrigger, SetHolder, Clear, Fill}
use Rattle.rd_stream.specs.Sides.{tag_of_side}
use Rattle.rd_stream.specs.declared.side.Side.TheVariants.{Reader, Writer}

-- the bytes that a change carries
abbrev pub stream_carried : StreamChange → List ℕ
stream_carried (PushBytes bytes) = bytes
stream_carried (DropBytes count) = []
stream_carried (TakeBytes count) = []
stream_carried (UntakeBytes bytes) = bytes
stream_carried (SetByte index value) = []
stream_carried (SetTrigger trigger) = []
stream_carried (SetHolder side task) = []
stream_carried Clear = []
stream_carried (Fill bytes) = bytes

-- what follows them: the buffer and the other fields, with the number of those bytes in their
-- place, and the tag
abbrev pub stream_fields : ℕ → StreamChange → List ℕ
stream_fields stream (PushBytes bytes) =
    stream ∷ (to_le_bytes w16 (length bytes) ++ PUSH_BYTES ∷ [])
stream_fields stream (DropBytes count) = stream ∷ (to_le_bytes w16 count ++ DROP_BYTES ∷ [])
stream_fields stream (TakeBytes count) = stream ∷ (to_le_bytes w16 count ++ TAKE_BYTES ∷ [])
stream_fields stream (UntakeBytes bytes) =
    stream ∷ (to_le_bytes w16 (length bytes) ++ UNTAKE_BYTES ∷ [])
stream_fields stream (SetByte index value) =
    stream ∷ (to_le_bytes w16 index ++ value ∷ SET_BYTE ∷ [])
stream_fields stream (SetTrigger trigger) =
    stream ∷ (to_le_bytes w16 trigger ++ SET_TRIGGER ∷ [])
stream_fields stream (SetHolder side task) =
    STREAM_HOLDER ∷ stream ∷ byte_of_number task ∷ tag_of_side side ∷ []
stream_fields stream Clear = stream ∷ CLEAR_BYTES ∷ []
stream_fields stream (Fill bytes) = stream ∷ (to_le_bytes w16 (length bytes) ++ FILL_BYTES ∷ [])

abbrev pub stream_packed : ℕ → StreamChange → List ℕ
stream_packed stream change = stream_carried change ++ stream_fields stream change

-- a change of one number, and one that carries bytes, by its tag
abbrev pub number_packed : ℕ → ℕ → ℕ → List ℕ
number_packed tag stream number = stream ∷ (to_le_bytes w16 number ++ tag ∷ [])

abbrev pub bytes_packed : ℕ → ℕ → List ℕ → List ℕ
bytes_packed tag stream bytes = bytes ++ number_packed tag stream (length bytes)

-- The numbers of a change fit in their bytes, and none is the one that stands for none.
abbrev pub StreamFitsBytes : StreamChange → Type 0
StreamFitsBytes (PushBytes bytes) = length bytes < 65536
StreamFitsBytes (DropBytes count) = count < 65536
StreamFitsBytes (TakeBytes count) = count < 65536
StreamFitsBytes (UntakeBytes bytes) = length bytes < 65536
StreamFitsBytes (SetByte index value) = index < 65536
StreamFitsBytes (SetTrigger trigger) = trigger < 65536
StreamFitsBytes (SetHolder side task) = IfSome task (λ t. t < 255)
StreamFitsBytes Clear = Unit {0}
StreamFitsBytes (Fill bytes) = length bytes < 65536

abbrev pub StreamHasBytes : ℕ → StreamChange → Type 0
StreamHasBytes stream change = (stream < 255) × StreamFitsBytes change

-- the change at the end of bytes, by its tag
abbrev pub last_stream_change : List ℕ → StreamChange
last_stream_change bytes =
    if end_byte 1 bytes == PUSH_BYTES
    then PushBytes (bytes_before 4 (end_short 2 bytes) bytes)
    else (if end_byte 1 bytes == DROP_BYTES then DropBytes (end_short 2 bytes)
    else (if end_byte 1 bytes == TAKE_BYTES then TakeBytes (end_short 2 bytes)
    else (if end_byte 1 bytes == UNTAKE_BYTES
    then UntakeBytes (bytes_before 4 (end_short 2 bytes) bytes)
    else (if end_byte 1 bytes == SET_BYTE then SetByte (end_short 3 bytes) (end_byte 2 bytes)
    else (if end_byte 1 bytes == SET_TRIGGER then SetTrigger (end_short 2 bytes)
    else (if end_byte 1 bytes == SET_READER
    then SetHolder Reader (number_of_byte (end_byte 2 bytes))
    else (if end_byte 1 bytes == SET_WRITER
    then SetHolder Writer (number_of_byte (end_byte 2 bytes))
    else (if end_byte 1 bytes == CLEAR_BYTES then Clear
    else Fill (bytes_before 4 (end_short 2 bytes) bytes)))))))))

-- the buffer that changes
abbrev pub last_stream : List ℕ → ℕ
last_stream bytes =
    if end_byte 1 bytes == SET_BYTE then end_byte 5 bytes
    else (if end_byte 1 bytes == SET_READER then end_byte 3 bytes
    else (if end_byte 1 bytes == SET_WRITER then end_byte 3 bytes
    else (if end_byte 1 bytes == CLEAR_BYTES then end_byte 2 bytes
    else end_byte 4 bytes)))

-- how many bytes the change takes
abbrev pub stream_change_length : List ℕ → ℕ
stream_change_length bytes =
    if end_byte 1 bytes == PUSH_BYTES then 4 + end_short 2 bytes
    else (if end_byte 1 bytes == DROP_BYTES then 4
    else (if end_byte 1 bytes == TAKE_BYTES then 4
    else (if end_byte 1 bytes == UNTAKE_BYTES then 4 + end_short 2 bytes
    else (if end_byte 1 bytes == SET_BYTE then 5
    else (if end_byte 1 bytes == SET_TRIGGER then 4
    else (if end_byte 1 bytes == SET_READER then 4
    else (if end_byte 1 bytes == SET_WRITER then 4
    else (if end_byte 1 bytes == CLEAR_BYTES then 2
    else 4 + end_short 2 bytes))))))))

-- A change is there, whole.
pub record EndsInStreamChange (bytes : List ℕ) : Type 0 where
  pub some : 1 ≤ length bytes
  pub whole : stream_change_length bytes ≤ length bytes

-- This change of that buffer is at the end of bytes, behind the rest of them.
pub record StreamChangeIsAtEnd (bytes rest : List ℕ) (n : ℕ) (change : StreamChange) : Type 0 where
  pub ends : EndsInStreamChange bytes
  pub tag : PUSH_BYTES ≤ end_byte 1 bytes
  pub kind : last_kind bytes ≡ OF_STREAM
  pub stream : last_stream bytes ≡ n
  pub same : last_stream_change bytes ≡ change
  pub before : all_but (stream_change_length bytes) bytes ≡ rest

-- Whichever change it is, behind whichever bytes it is put.
abbrev pub EachStreamChangeIsReadBack : Type 0
EachStreamChangeIsReadBack =
    (rest : List ℕ) (stream : ℕ) (change : StreamChange) → StreamHasBytes stream change
    → StreamChangeIsAtEnd (rest ++ stream_packed stream change) rest stream change
