-- The bytes of a change of a queue set, and the change that stands at the end of bytes.
use Rattle.std.specs.Prelude.{ℕ, ◌==◌, if◌then◌else◌, List, [], ◌∷◌, slice_index, None}
use Rattle.rd_bytes.specs.Layouts.{Layout, Width, Byte}
use Rattle.rd_bytes.specs.declared.tag.TheConstants.{INS_WAIT, DEL_WAIT, PUSH_HANDLE, DROP_HANDLE}
use Rattle.rd_bytes.specs.declared.tag.TheConstants.{TAKE_HANDLE, UNTAKE_HANDLE, SELECTING_LIST}
use Rattle.rd_bytes.specs.declared.tag.TheConstants.{OF_QUEUE_SET}
use Rattle.rd_queue.specs.declared.queue_set_change.QueueSetChange.{QueueSetChange}
use Rattle.rd_queue.specs.declared.queue_set_change.QueueSetChange.TheVariants.{InsWait, DelWait}
use Rattle.rd_queue.specs.declared.queue_set_change.QueueSetChange.TheVariants.{PushHandle}
use Rattle.rd_queue.specs.declared.queue_set_change.QueueSetChange.TheVariants.{DropHandle}
use Rattle.rd_queue.specs.declared.queue_set_change.QueueSetChange.TheVariants.{TakeHandle}
use Rattle.rd_queue.specs.declared.queue_set_change.QueueSetChange.TheVariants.{UntakeHandle}

-- how wide the fields before a tag are
abbrev pub queue_set_widths : ℕ → List Width
queue_set_widths tag =
    if tag == INS_WAIT then Byte ∷ Byte ∷ Byte ∷ Byte ∷ []
    else (if tag == DEL_WAIT then Byte ∷ Byte ∷ Byte ∷ []
    else (if tag == PUSH_HANDLE then Byte ∷ Byte ∷ []
    else (if tag == DROP_HANDLE then Byte ∷ []
    else (if tag == TAKE_HANDLE then Byte ∷ []
    else Byte ∷ Byte ∷ []))))

-- a change of a set as its tag and its fields, and the set and the change of those
abbrev pub queue_set_row : ℕ → QueueSetChange → ℕ × List ℕ × List ℕ
queue_set_row queue_set (InsWait index task) =
    (INS_WAIT, SELECTING_LIST ∷ queue_set ∷ index ∷ task ∷ [], [])
queue_set_row queue_set (DelWait index) =
    (DEL_WAIT, SELECTING_LIST ∷ queue_set ∷ index ∷ [], [])
queue_set_row queue_set (PushHandle queue) = (PUSH_HANDLE, queue_set ∷ queue ∷ [], [])
queue_set_row queue_set DropHandle = (DROP_HANDLE, queue_set ∷ [], [])
queue_set_row queue_set TakeHandle = (TAKE_HANDLE, queue_set ∷ [], [])
queue_set_row queue_set (UntakeHandle queue) = (UNTAKE_HANDLE, queue_set ∷ queue ∷ [], [])

abbrev pub queue_set_read : ℕ → List ℕ → ℕ × QueueSetChange
queue_set_read tag fields =
    if tag == INS_WAIT
    then (slice_index fields 1, InsWait (slice_index fields 2) (slice_index fields 3))
    else (if tag == DEL_WAIT then (slice_index fields 1, DelWait (slice_index fields 2))
    else (if tag == PUSH_HANDLE then (slice_index fields 0, PushHandle (slice_index fields 1))
    else (if tag == DROP_HANDLE then (slice_index fields 0, DropHandle)
    else (if tag == TAKE_HANDLE then (slice_index fields 0, TakeHandle)
    else (slice_index fields 0, UntakeHandle (slice_index fields 1))))))

abbrev pub queue_set_layout : Layout QueueSetChange
queue_set_layout = record {
  kind = OF_QUEUE_SET;
  widths = queue_set_widths;
  row = queue_set_row;
  read = λ tag fields carried. queue_set_read tag fields;
  optional = λ change. None;
}
