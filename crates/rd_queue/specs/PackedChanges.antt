-- The bytes of a change of a queue, and the change that stands at the end of bytes.
use Rattle.std.specs.Prelude.{ℕ, ◌==◌, if◌then◌else◌, List, [], ◌∷◌, length, slice_index}
use Rattle.std.specs.Prelude.{Option, None}
use Rattle.rd_bytes.specs.Ends.{byte_of_number, number_of_byte}
use Rattle.rd_bytes.specs.Layouts.{Layout, Width, Byte, Count}
use Rattle.rd_bytes.specs.declared.tag.TheConstants.{INS_WAIT, DEL_WAIT, PUT_BACK, PUT_FRONT}
use Rattle.rd_bytes.specs.declared.tag.TheConstants.{TAKE_BACK, TAKE_FRONT, SET_ITEM, CLEAR_QUEUE}
use Rattle.rd_bytes.specs.declared.tag.TheConstants.{FILL_QUEUE, SET_MEMBER}
use Rattle.rd_bytes.specs.declared.tag.TheConstants.{OF_QUEUE, RECEIVING_LIST, SENDING_LIST}
use Rattle.rd_queue.specs.declared.waiting_list.WaitingList.{WaitingList}
use Rattle.rd_queue.specs.declared.waiting_list.WaitingList.TheVariants.{Receiving, Sending}
use Rattle.rd_queue.specs.Changes.{QueueChange, InsWait, DelWait, PutBack, TakeBack, PutFront}
use Rattle.rd_queue.specs.Changes.{TakeFront, SetItem, Clear, Fill, SetMember}

-- the byte of a list, and the list of such a byte
abbrev pub byte_of_list : WaitingList → ℕ
byte_of_list Receiving = RECEIVING_LIST
byte_of_list Sending = SENDING_LIST

abbrev pub list_of_byte : ℕ → WaitingList
list_of_byte byte = if byte == RECEIVING_LIST then Receiving else Sending

-- how wide the fields before a tag are
abbrev pub queue_widths : ℕ → List Width
queue_widths tag =
    if tag == INS_WAIT then Byte ∷ Byte ∷ Byte ∷ Byte ∷ []
    else (if tag == DEL_WAIT then Byte ∷ Byte ∷ Byte ∷ []
    else (if tag == PUT_BACK then Byte ∷ Count ∷ []
    else (if tag == PUT_FRONT then Byte ∷ Count ∷ []
    else (if tag == TAKE_BACK then Byte ∷ []
    else (if tag == TAKE_FRONT then Byte ∷ []
    else (if tag == SET_ITEM then Byte ∷ Byte ∷ Count ∷ []
    else (if tag == CLEAR_QUEUE then Byte ∷ []
    else (if tag == FILL_QUEUE then Byte ∷ Count ∷ []
    else Byte ∷ Byte ∷ []))))))))

-- a change of a queue as its tag, its fields and the bytes that it carries, and the queue and the
-- change of those
abbrev pub queue_row : ℕ → QueueChange → ℕ × List ℕ × List ℕ
queue_row queue (InsWait list index task) =
    (INS_WAIT, byte_of_list list ∷ queue ∷ index ∷ task ∷ [], [])
queue_row queue (DelWait list index) = (DEL_WAIT, byte_of_list list ∷ queue ∷ index ∷ [], [])
queue_row queue (PutBack item) = (PUT_BACK, queue ∷ length item ∷ [], item)
queue_row queue TakeBack = (TAKE_BACK, queue ∷ [], [])
queue_row queue (PutFront item) = (PUT_FRONT, queue ∷ length item ∷ [], item)
queue_row queue TakeFront = (TAKE_FRONT, queue ∷ [], [])
queue_row queue (SetItem index item) = (SET_ITEM, queue ∷ index ∷ length item ∷ [], item)
queue_row queue Clear = (CLEAR_QUEUE, queue ∷ [], [])
queue_row queue (Fill bytes) = (FILL_QUEUE, queue ∷ length bytes ∷ [], bytes)
queue_row queue (SetMember queue_set) = (SET_MEMBER, queue ∷ byte_of_number queue_set ∷ [], [])

abbrev pub queue_read : ℕ → List ℕ → List ℕ → ℕ × QueueChange
queue_read tag fields carried =
    if tag == INS_WAIT
    then (
      slice_index fields 1,
      InsWait (list_of_byte (slice_index fields 0)) (slice_index fields 2) (slice_index fields 3),
    )
    else (if tag == DEL_WAIT
    then (
      slice_index fields 1,
      DelWait (list_of_byte (slice_index fields 0)) (slice_index fields 2),
    )
    else (if tag == PUT_BACK then (slice_index fields 0, PutBack carried)
    else (if tag == PUT_FRONT then (slice_index fields 0, PutFront carried)
    else (if tag == TAKE_BACK then (slice_index fields 0, TakeBack)
    else (if tag == TAKE_FRONT then (slice_index fields 0, TakeFront)
    else (if tag == SET_ITEM then (slice_index fields 0, SetItem (slice_index fields 1) carried)
    else (if tag == CLEAR_QUEUE then (slice_index fields 0, Clear)
    else (if tag == FILL_QUEUE then (slice_index fields 0, Fill carried)
    else (slice_index fields 0, SetMember (number_of_byte (slice_index fields 1)))))))))))

-- the number of a change that may be none
abbrev pub queue_optional : QueueChange → Option ℕ
queue_optional (InsWait list index task) = None
queue_optional (DelWait list index) = None
queue_optional (PutBack item) = None
queue_optional TakeBack = None
queue_optional (PutFront item) = None
queue_optional TakeFront = None
queue_optional (SetItem index item) = None
queue_optional Clear = None
queue_optional (Fill bytes) = None
queue_optional (SetMember queue_set) = queue_set

abbrev pub queue_layout : Layout QueueChange
queue_layout = record {
  kind = OF_QUEUE;
  widths = queue_widths;
  row = queue_row;
  read = queue_read;
  optional = queue_optional;
}
