-- Which kind of object a packed change is of, by its tag, or by the list that it names.
use Rattle.std.specs.Prelude.{ℕ, ◌==◌, ◌||◌, if◌then◌else◌, nat_lt, List}
use Rattle.rd_bytes.specs.Ends.{end_byte}
use Rattle.rd_bytes.specs.declared.tag.TheConstants.{INS_WAIT, DEL_WAIT, PUSH_HANDLE, PUSH_BYTES}
use Rattle.rd_bytes.specs.declared.tag.TheConstants.{SET_READER, SET_WRITER}
use Rattle.rd_bytes.specs.declared.tag.TheConstants.{CLEAR_BYTES, FILL_BYTES}
use Rattle.rd_bytes.specs.declared.tag.TheConstants.{INS_GROUP, DEL_GROUP, SET_BITS}
use Rattle.rd_bytes.specs.declared.tag.TheConstants.{SELECTING_LIST, STREAM_HOLDER, OF_QUEUE}
use Rattle.rd_bytes.specs.declared.tag.TheConstants.{OF_QUEUE_SET, OF_STREAM, OF_MESSAGE, OF_GROUP}

abbrev pub kind_of_list : ℕ → ℕ
kind_of_list list = if nat_lt list SELECTING_LIST then OF_QUEUE else OF_QUEUE_SET

abbrev pub kind_of_tag : ℕ → ℕ
kind_of_tag tag =
    if tag == INS_GROUP || (tag == DEL_GROUP || tag == SET_BITS) then OF_GROUP
    else (if nat_lt tag PUSH_HANDLE then OF_QUEUE
    else (if nat_lt tag PUSH_BYTES then OF_QUEUE_SET
    else (if nat_lt tag SET_READER || (tag == CLEAR_BYTES || tag == FILL_BYTES) then OF_STREAM
    else OF_MESSAGE)))

-- the kind of buffer whose place changes, by its byte
abbrev pub kind_of_holder : ℕ → ℕ
kind_of_holder buffer = if buffer == STREAM_HOLDER then OF_STREAM else OF_MESSAGE

-- the kind of the change at the end of bytes
abbrev pub last_kind : List ℕ → ℕ
last_kind bytes =
    if end_byte 1 bytes == INS_WAIT then kind_of_list (end_byte 5 bytes)
    else (if end_byte 1 bytes == DEL_WAIT then kind_of_list (end_byte 4 bytes)
    else (if end_byte 1 bytes == SET_READER || end_byte 1 bytes == SET_WRITER
    then kind_of_holder (end_byte 4 bytes)
    else kind_of_tag (end_byte 1 bytes)))
