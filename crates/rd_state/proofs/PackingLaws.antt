-- Changes that were put behind bytes are read at their end, one after the other.
use Rattle.std.proofs.Common.{◌≡◌, ◌∙◌, ℕ, zero, suc, ◌+◌, ◌-◌, ◌^◌, ◌<◌, ◌≤◌, List, [], ◌∷◌, ◌++◌, length, take, refl, ap, sym, arith, append_assoc, append-nil, length-append, add-one}
use Rattle.std.proofs.Common.{Bool, true, false, Option, Some, None, IfSome}
use Rattle.std.specs.Prelude.{◌==◌, if◌then◌else◌}
use Rattle.std.proofs.lemmas.Bool.Decides.{nat_tests}
use Rattle.std.proofs.lemmas.List.Elements.{All-get_or}
use Rattle.std.proofs.lemmas.Nat.{from_le_bytes-to_le_bytes_4}
use Rattle.rd_bytes.proofs.Offered.{end_byte_of, end_word_of, all_but_end, length-all_but, number_again}
use Rattle.rd_bytes.specs.Ends.{all_but, byte_of_number, end_byte, end_word}
use Rattle.rd_bytes.specs.Tags.{last_kind}
use Rattle.rd_bytes.specs.declared.tag.TheConstants.{SET_TICK, SET_TURN, SET_CORE, INS_READY, DEL_READY, INS_WAIT, DEL_WAIT, OF_QUEUE, OF_QUEUE_SET, OF_STREAM, OF_MESSAGE, SELECTING_LIST}
use Rattle.rd_bytes.specs.declared.tag.TheConstants.{SET_READER, SET_WRITER, STREAM_HOLDER}
use Rattle.rd_queue.proofs.Offered.{queue_change_is_read_back, queue_set_change_is_read_back, queue_inverse_has_bytes, queue_set_inverse_has_bytes}
use Rattle.rd_group.proofs.Offered.{group_change_is_read_back, group_inverse_has_bytes}
use Rattle.rd_bytes.specs.Layouts.{encoded, IsLaidAtEnd, last_length, last_row, row_widths}
use Rattle.rd_group.specs.PackedGroupChanges.{group_layout}
use Rattle.rd_group.specs.declared.group_change.GroupChange.{GroupChange}
use Rattle.rd_group.specs.declared.group_change.GroupChange.TheVariants as of_group
use Rattle.rd_queue.specs.Changes.{QueueChange}
use Rattle.rd_queue.specs.declared.queue_set_change.QueueSetChange.{QueueSetChange}
use Rattle.rd_queue.specs.PackedChanges.{queue_layout, queue_row}
use Rattle.rd_queue.specs.PackedQueueSetChanges.{queue_set_layout}
use Rattle.rd_stream.proofs.Offered.{message_change_is_read_back, message_inverse_has_bytes, stream_change_is_read_back, stream_inverse_has_bytes}
use Rattle.rd_stream.specs.MessageChanges.{MessageChange}
use Rattle.rd_stream.specs.MessageChanges as of_message
use Rattle.rd_stream.specs.PackedMessageChanges.{last_message_change, message_change_length, message_fields, MessageChangeIsAtEnd}
use Rattle.rd_stream.specs.PackedStreamChanges.{last_stream_change, stream_change_length, stream_fields, StreamChangeIsAtEnd}
use Rattle.rd_stream.specs.StreamChanges.{StreamChange}
use Rattle.rd_stream.specs.StreamChanges as of_stream
use Rattle.rd_stream.specs.declared.side.Side.TheVariants.{Reader, Writer}
use Rattle.std.proofs.Common.{◌*◌, ◌≢◌, nat_lt}
use Rattle.std.proofs.lemmas.List.Sums.{sum_by-cons}
use Rattle.rd_queue.specs.Changes.{InsWait, DelWait, PutBack, TakeBack, PutFront, TakeFront, SetItem, Clear, Fill, SetMember}
use Rattle.rd_queue.specs.declared.queue_set_change.QueueSetChange.TheVariants as of_set
use Rattle.rd_state.specs.Change.{cost_of, saved_bytes, weight_of}
use Rattle.rd_state.specs.TaskChanges.{SetPc, SetReg, SetPhase, SetEntry, SetData}
use Rattle.rd_state.specs.PackedTaskChanges.{task_fields}
use Rattle.rd_state.specs.Change.{Change, SetTick, SetTurn, SetCore, InsReady, DelReady, Task, Object, inverse_of, Fits}
use Rattle.rd_state.specs.Objects.{ObjectChange, ObjectsSnapshot, numbers_in, Queue, QueueSet, Stream, Message, Group, group_in, message_in, queue_in, queue_set_in, stream_in, object_inverse_of, AreSizedObjects, ObjectFits}
use Rattle.rd_state.specs.TaskChanges.{TaskChange}
use Rattle.rd_state.specs.PackedTaskChanges.{last_task, last_task_change, task_change_length, TaskChangeIsAtEnd}
use Rattle.rd_state.specs.PackedChanges.{packed, group_change_of, queue_change_of, queue_set_change_of, last_object_change, object_change_length, last_change, change_length, before_last}
use Rattle.rd_state.specs.PackedChanges.{all_packed, changes_in, AreChanges, EndsInChange, HasBytes, IsAtEnd, ObjectHasBytes, EachIsReadBack}
use Rattle.rd_state.specs.PackedChanges.{ChangeListView, HasNoRoomForChange}
use Rattle.std.specs.Prelude.{Result, Ok, Err, OnErr}
use Rattle.std.proofs.lemmas.Bool.{cases_lt, false≢true}
use Rattle.std.proofs.Common.{inl, inr}
use Rattle.rd_state.specs.Sizes.{IsSized, IsTaskOrIdle}
use Rattle.rd_state.specs.Snapshot.{Snapshot, core_at, numbers_of, task_at}
use Rattle.rd_state.proofs.ObjectLaws.{group_in_sized, message_in_sized, queue_in_sized, queue_set_in_sized, stream_in_sized}
use Rattle.rd_state.proofs.TaskPackingLaws.{AreFew, task_change_is_read_back, task_inverse_has_bytes}
use Rattle.rd_state.proofs.UndoLaws.{phase_sized, task_sized}

-- ---- one change

-- What is read at the end is as long as what was put there.
plain_read : (b x : List ℕ) (change : Change) → 1 ≤ length x → SET_TICK ≤ end_byte 1 (b ++ x) → last_change (b ++ x) ≡ change → change_length (b ++ x) ≡ length x → IsAtEnd (b ++ x) b change
plain_read b x change some tagged same long = record {
  ends = record { some = omega (arith, some, length-append b x); tagged = tagged; whole = omega (arith, long, length-append b x) };
  same = same;
  before = all_but_end b x (change_length (b ++ x)) long;
}

set_tick_read : (b : List ℕ) (tick : ℕ) → tick < 2 ^ 32 → IsAtEnd (b ++ packed (SetTick tick)) b (SetTick tick)
set_tick_read b tick fits =
    let x : List ℕ = packed (SetTick tick) in
    let tag : end_byte 1 (b ++ x) ≡ SET_TICK = end_byte_of b x 1 (omega arith) (omega arith) in
    let number : end_word 2 (b ++ x) ≡ tick = end_word_of b x 2 (omega arith) (omega arith) ∙ from_le_bytes-to_le_bytes_4 tick fits in
    plain_read b x _ (omega arith) (omega (arith, tag)) (rw (tag, number) refl) (rw tag refl)

set_turn_read : (b : List ℕ) (turn : ℕ) → IsAtEnd (b ++ packed (SetTurn turn)) b (SetTurn turn)
set_turn_read b turn =
    let x : List ℕ = packed (SetTurn turn) in
    let tag : end_byte 1 (b ++ x) ≡ SET_TURN = end_byte_of b x 1 (omega arith) (omega arith) in
    let e2 : end_byte 2 (b ++ x) ≡ turn = end_byte_of b x 2 (omega arith) (omega arith) in
    plain_read b x _ (omega arith) (omega (arith, tag)) (rw (tag, e2) refl) (rw tag refl)

set_core_read : (b : List ℕ) (core : ℕ) (task : Option ℕ) → IfSome task (λ t. t < 255) → IsAtEnd (b ++ packed (SetCore core task)) b (SetCore core task)
set_core_read b core task fits =
    let x : List ℕ = packed (SetCore core task) in
    let tag : end_byte 1 (b ++ x) ≡ SET_CORE = end_byte_of b x 1 (omega arith) (omega arith) in
    let e3 : end_byte 3 (b ++ x) ≡ core = end_byte_of b x 3 (omega arith) (omega arith) in
    let e2 : end_byte 2 (b ++ x) ≡ byte_of_number task = end_byte_of b x 2 (omega arith) (omega arith) in
    plain_read b x _ (omega arith) (omega (arith, tag)) (rw (tag, e3, e2) (ap (SetCore core) (number_again task fits))) (rw tag refl)

ins_ready_read : (b : List ℕ) (index task : ℕ) → IsAtEnd (b ++ packed (InsReady index task)) b (InsReady index task)
ins_ready_read b index task =
    let x : List ℕ = packed (InsReady index task) in
    let tag : end_byte 1 (b ++ x) ≡ INS_READY = end_byte_of b x 1 (omega arith) (omega arith) in
    let e3 : end_byte 3 (b ++ x) ≡ index = end_byte_of b x 3 (omega arith) (omega arith) in
    let e2 : end_byte 2 (b ++ x) ≡ task = end_byte_of b x 2 (omega arith) (omega arith) in
    plain_read b x _ (omega arith) (omega (arith, tag)) (rw (tag, e3, e2) refl) (rw tag refl)

del_ready_read : (b : List ℕ) (index : ℕ) → IsAtEnd (b ++ packed (DelReady index)) b (DelReady index)
del_ready_read b index =
    let x : List ℕ = packed (DelReady index) in
    let tag : end_byte 1 (b ++ x) ≡ DEL_READY = end_byte_of b x 1 (omega arith) (omega arith) in
    let e2 : end_byte 2 (b ++ x) ≡ index = end_byte_of b x 2 (omega arith) (omega arith) in
    plain_read b x _ (omega arith) (omega (arith, tag)) (rw (tag, e2) refl) (rw tag refl)

-- What is read hangs on the tag alone, where that is the tag of a task's or of an object's change.
record IsByTag (bytes : List ℕ) (change : Change) (long : ℕ) : Type 0 where
  same : last_change bytes ≡ change
  length : change_length bytes ≡ long

by_task_tag : (bytes : List ℕ) → 4 ≤ end_byte 1 bytes → end_byte 1 bytes ≤ 8 → IsByTag bytes (Task (last_task bytes) (last_task_change bytes)) (task_change_length bytes)
by_task_tag bytes first last = record { same = grind (arith, nat_tests); length = grind (arith, nat_tests) }

by_object_tag : (bytes : List ℕ) → INS_WAIT ≤ end_byte 1 bytes → IsByTag bytes (Object (last_object_change bytes)) (object_change_length bytes)
by_object_tag bytes first = record { same = grind (arith, nat_tests); length = grind (arith, nat_tests) }

at_end : (bytes rest : List ℕ) (change : Change) (long : ℕ) → 1 ≤ length bytes → SET_TICK ≤ end_byte 1 bytes → IsByTag bytes change long → long ≤ length bytes → all_but long bytes ≡ rest
    → IsAtEnd bytes rest change
at_end bytes rest change long some tagged by whole before = record {
  ends = record { some = some; tagged = tagged; whole = omega (arith, by.length, whole) };
  same = by.same;
  before = ap (λ n. all_but n bytes) by.length ∙ before;
}

task_read : (bytes rest : List ℕ) (task : ℕ) (change : TaskChange) → TaskChangeIsAtEnd bytes rest task change → IsAtEnd bytes rest (Task task change)
task_read bytes rest task change there =
    let by = by_task_tag bytes there.first_tag there.last_tag in
    at_end bytes rest (Task task change) (task_change_length bytes) there.ends.some (omega (arith, there.first_tag))
    (record { same = by.same ∙ ap (λ n. Task n (last_task_change bytes)) there.task ∙ ap (Task task) there.same; length = by.length })
    there.ends.whole there.before

queue_read : (bytes rest : List ℕ) (queue : ℕ) (change : QueueChange) → IsLaidAtEnd queue_layout bytes rest queue change → IsAtEnd bytes rest (Object (Queue queue change))
queue_read bytes rest queue change there =
    let by = by_object_tag bytes there.tag in
    at_end bytes rest (Object (Queue queue change)) (last_length queue_layout bytes) there.ends.some (omega (arith, there.tag))
    (record {
      same = by.same ∙ ap Object (rw there.kind (ap queue_change_of there.same));
      length = by.length ∙ rw there.kind refl;
    })
    there.ends.whole there.before

queue_set_read : (bytes rest : List ℕ) (n : ℕ) (change : QueueSetChange) → IsLaidAtEnd queue_set_layout bytes rest n change → IsAtEnd bytes rest (Object (QueueSet n change))
queue_set_read bytes rest n change there =
    let by = by_object_tag bytes there.tag in
    at_end bytes rest (Object (QueueSet n change)) (last_length queue_set_layout bytes) there.ends.some (omega (arith, there.tag))
    (record {
      same = by.same ∙ ap Object (rw there.kind (ap queue_set_change_of there.same));
      length = by.length ∙ rw there.kind refl;
    })
    there.ends.whole there.before

stream_read : (bytes rest : List ℕ) (n : ℕ) (change : StreamChange) → StreamChangeIsAtEnd bytes rest n change → IsAtEnd bytes rest (Object (Stream n change))
stream_read bytes rest n change there =
    let by = by_object_tag bytes (omega (arith, there.tag)) in
    at_end bytes rest (Object (Stream n change)) (stream_change_length bytes) there.ends.some (omega (arith, there.tag))
    (record {
      same = by.same ∙ ap Object (rw there.kind (ap (λ k. Stream k (last_stream_change bytes)) there.stream ∙ ap (Stream n) there.same));
      length = by.length ∙ rw there.kind refl;
    })
    there.ends.whole there.before

message_read : (bytes rest : List ℕ) (n : ℕ) (change : MessageChange) → MessageChangeIsAtEnd bytes rest n change → IsAtEnd bytes rest (Object (Message n change))
message_read bytes rest n change there =
    let by = by_object_tag bytes (omega (arith, there.tag)) in
    at_end bytes rest (Object (Message n change)) (message_change_length bytes) there.ends.some (omega (arith, there.tag))
    (record {
      same = by.same ∙ ap Object (rw there.kind (ap (λ k. Message k (last_message_change bytes)) there.buffer ∙ ap (Message n) there.same));
      length = by.length ∙ rw there.kind refl;
    })
    there.ends.whole there.before

group_read : (bytes rest : List ℕ) (n : ℕ) (change : GroupChange) → IsLaidAtEnd group_layout bytes rest n change → IsAtEnd bytes rest (Object (Group n change))
group_read bytes rest n change there =
    let by = by_object_tag bytes (omega (arith, there.tag)) in
    at_end bytes rest (Object (Group n change)) (last_length group_layout bytes) there.ends.some (omega (arith, there.tag))
    (record {
      same = by.same ∙ ap Object (rw there.kind (ap group_change_of there.same));
      length = by.length ∙ rw there.kind refl;
    })
    there.ends.whole there.before

pub change_is_read_back : EachIsReadBack
change_is_read_back b (SetTick tick) fits = set_tick_read b tick fits
change_is_read_back b (SetTurn turn) fits = set_turn_read b turn
change_is_read_back b (SetCore core task) fits = set_core_read b core task fits.1
change_is_read_back b (InsReady index task) fits = ins_ready_read b index task
change_is_read_back b (DelReady index) fits = del_ready_read b index
change_is_read_back b (Task task change) fits = task_read _ b task change (task_change_is_read_back b task change fits)
change_is_read_back b (Object (Queue queue change)) fits = queue_read _ b queue change (queue_change_is_read_back b queue change fits)
change_is_read_back b (Object (QueueSet n change)) fits = queue_set_read _ b n change (queue_set_change_is_read_back b n change fits)
change_is_read_back b (Object (Stream n change)) fits = stream_read _ b n change (stream_change_is_read_back b n change fits)
change_is_read_back b (Object (Message n change)) fits = message_read _ b n change (message_change_is_read_back b n change fits)
change_is_read_back b (Object (Group n change)) fits = group_read _ b n change (group_change_is_read_back b n change fits)

-- ---- What undoes a change fits in its bytes.

core_fits : (running : Option ℕ) (count : ℕ) → IsTaskOrIdle count running → count ≤ 255 → IfSome running (λ t. t < 255)
core_fits None count there few = tt
core_fits (Some task) count there few = omega (arith, there, few)

object_inverse_has_bytes : (task_count : ℕ) (o : ObjectsSnapshot) (change : ObjectChange) → AreSizedObjects task_count o → ObjectFits o change → task_count ≤ 255
    → ObjectHasBytes (object_inverse_of o change)
object_inverse_has_bytes task_count o (Queue queue change) sized fits few =
    let here = queue_in_sized task_count o queue sized fits.0 in
    queue_inverse_has_bytes queue (queue_in o queue) change (omega (arith, fits.0, sized.few_queues)) here.0 fits.1 (omega (arith, here.1, few))
    (omega (arith, here.2, sized.few_queue_sets))
object_inverse_has_bytes task_count o (QueueSet n change) sized fits few =
    let here = queue_set_in_sized task_count o n sized fits.0 in
    queue_set_inverse_has_bytes n (queue_set_in o n) change (omega (arith, fits.0, sized.few_queue_sets)) here.0 fits.1 (omega (arith, here.1, few))
    (omega (arith, here.2, sized.few_queues))
object_inverse_has_bytes task_count o (Stream n change) sized fits few =
    let here = stream_in_sized task_count o n sized fits.0 in
    (omega (arith, fits.0, sized.few_streams), stream_inverse_has_bytes (stream_in o n) change here.0 fits.1 (omega (arith, here.1, few)))
object_inverse_has_bytes task_count o (Message n change) sized fits few =
    let here = message_in_sized task_count o n sized fits.0 in
    (omega (arith, fits.0, sized.few_messages), message_inverse_has_bytes (message_in o n) change here.0 fits.1 (omega (arith, here.1, few)))
object_inverse_has_bytes task_count o (Group n change) sized fits few =
    let here = group_in_sized task_count o n sized fits.0 in
    group_inverse_has_bytes n (group_in o n) change (omega (arith, fits.0, sized.few_groups)) here.0 fits.1

-- There are so few objects that each has a number of one byte.
few_numbers : (task_count : ℕ) (o : ObjectsSnapshot) → AreSizedObjects task_count o → AreFew (numbers_in o)
few_numbers task_count o sized = record {
  queues = omega (arith, sized.few_queues);
  queue_sets = omega (arith, sized.few_queue_sets);
  streams = omega (arith, sized.few_streams);
  messages = omega (arith, sized.few_messages);
  groups = omega (arith, sized.few_groups);
}

pub inverse_has_bytes : (s : Snapshot) (change : Change) → IsSized s → Fits s change → HasBytes (inverse_of s change)
inverse_has_bytes s (SetTick tick) sized fits = sized.scheduling.tick
inverse_has_bytes s (SetTurn turn) sized fits = omega (arith, sized.scheduling.turn, sized.scheduling.few_cores)
inverse_has_bytes s (SetCore core task) sized fits = (
  omega (arith, fits.0, sized.scheduling.few_cores),
  core_fits (core_at s core) (length s.tasks) (All-get_or (IsTaskOrIdle (length s.tasks)) s.cores core None fits.0 sized.scheduling.cores)
      (omega (arith, sized.tasks.few)),
)
inverse_has_bytes s (InsReady index task) sized fits = omega (arith, fits.0, fits.1, sized.tasks.few)
inverse_has_bytes s (DelReady index) sized fits = (
  omega (arith, fits, sized.scheduling.room, sized.tasks.few),
  omega (arith, All-get_or (λ task. task < length s.tasks) s.ready index 0 fits sized.scheduling.ready, sized.tasks.few),
)
inverse_has_bytes s (Task task change) sized fits = (
  omega (arith, fits.0, sized.tasks.few),
  task_inverse_has_bytes (numbers_of s) (task_at s task) change (task_sized s task sized fits.0) (phase_sized s task sized fits.0) fits.1
      (few_numbers (length s.tasks) s.objects sized.objects),
)
inverse_has_bytes s (Object change) sized fits = object_inverse_has_bytes (length s.tasks) s.objects change sized.objects fits (omega (arith, sized.tasks.few))

-- ---- The bytes of tasks that wait are as many, whatever they wait at.

abbrev length_of_kind : ℕ → List ℕ → ℕ
length_of_kind kind bytes =
    if kind == OF_QUEUE then last_length queue_layout bytes
    else (if kind == OF_QUEUE_SET then last_length queue_set_layout bytes
    else (if kind == OF_STREAM then stream_change_length bytes
    else (if kind == OF_MESSAGE then message_change_length bytes else last_length group_layout bytes)))

pub insertion_length : (bytes : List ℕ) → end_byte 1 bytes ≡ INS_WAIT → object_change_length bytes ≡ 5
insertion_length bytes tag = ap (λ kind. length_of_kind kind bytes) kind ∙ by_list (nat_lt (end_byte 5 bytes) SELECTING_LIST)
  where
    kind : last_kind bytes ≡ if nat_lt (end_byte 5 bytes) SELECTING_LIST then OF_QUEUE else OF_QUEUE_SET
    kind = rw tag refl

    by_list : (is : Bool) → length_of_kind (if is then OF_QUEUE else OF_QUEUE_SET) bytes ≡ 5
    by_list true = rw tag refl
    by_list false = rw tag refl

pub deletion_length : (bytes : List ℕ) → end_byte 1 bytes ≡ DEL_WAIT → object_change_length bytes ≡ 4
deletion_length bytes tag = ap (λ kind. length_of_kind kind bytes) kind ∙ by_list (nat_lt (end_byte 4 bytes) SELECTING_LIST)
  where
    kind : last_kind bytes ≡ if nat_lt (end_byte 4 bytes) SELECTING_LIST then OF_QUEUE else OF_QUEUE_SET
    kind = rw tag refl

    by_list : (is : Bool) → length_of_kind (if is then OF_QUEUE else OF_QUEUE_SET) bytes ≡ 4
    by_list true = rw tag refl
    by_list false = rw tag refl

-- So are those of a place of a buffer.
pub reader_length : (bytes : List ℕ) → end_byte 1 bytes ≡ SET_READER → object_change_length bytes ≡ 4
reader_length bytes tag = ap (λ kind. length_of_kind kind bytes) kind ∙ by_holder (end_byte 4 bytes == STREAM_HOLDER)
  where
    kind : last_kind bytes ≡ if end_byte 4 bytes == STREAM_HOLDER then OF_STREAM else OF_MESSAGE
    kind = rw tag refl

    by_holder : (is : Bool) → length_of_kind (if is then OF_STREAM else OF_MESSAGE) bytes ≡ 4
    by_holder true = rw tag refl
    by_holder false = rw tag refl

pub writer_length : (bytes : List ℕ) → end_byte 1 bytes ≡ SET_WRITER → object_change_length bytes ≡ 4
writer_length bytes tag = ap (λ kind. length_of_kind kind bytes) kind ∙ by_holder (end_byte 4 bytes == STREAM_HOLDER)
  where
    kind : last_kind bytes ≡ if end_byte 4 bytes == STREAM_HOLDER then OF_STREAM else OF_MESSAGE
    kind = rw tag refl

    by_holder : (is : Bool) → length_of_kind (if is then OF_STREAM else OF_MESSAGE) bytes ≡ 4
    by_holder true = rw tag refl
    by_holder false = rw tag refl

-- ---- changes one after the other

pub length-changes_in : (n : ℕ) (bytes : List ℕ) → length (changes_in n bytes) ≡ n
length-changes_in zero bytes = refl
length-changes_in (suc n) bytes = omega (arith, length-append (changes_in n (before_last bytes)) (last_change bytes ∷ []), length-changes_in n (before_last bytes))

pub changes_in-push : (n : ℕ) (b : List ℕ) (change : Change) → HasBytes change → changes_in (n + 1) (b ++ packed change) ≡ changes_in n b ++ change ∷ []
changes_in-push n b change fits =
    let r = change_is_read_back b change fits in
    rw (add-one, r.same, r.before) refl

pub AreChanges-push : (n : ℕ) (b : List ℕ) (change : Change) → HasBytes change → AreChanges n b → AreChanges (n + 1) (b ++ packed change)
AreChanges-push n b change fits are =
    let r = change_is_read_back b change fits in
    rw add-one (r.ends, rw (r.before, r.same) refl, rw r.before are)

pub all_packed-push : (changes : List Change) (change : Change) → all_packed (changes ++ change ∷ []) ≡ all_packed changes ++ packed change
all_packed-push [] change = append-nil (packed change)
all_packed-push (first ∷ later) change =
    ap (λ rest. packed first ++ rest) (all_packed-push later change) ∙ sym (append_assoc (packed first) (all_packed later) (packed change))

-- The bytes are those of the changes.
pub all_packed-changes_in : (n : ℕ) (bytes : List ℕ) → AreChanges n bytes → all_packed (changes_in n bytes) ≡ bytes
all_packed-changes_in zero bytes are = sym are
all_packed-changes_in (suc n) bytes are =
    all_packed-push (changes_in n (before_last bytes)) (last_change bytes)
    ∙ ap (λ before. before ++ packed (last_change bytes)) (all_packed-changes_in n (before_last bytes) are.2) ∙ are.1

-- There is no room for a change, where there is none for its bytes behind those of the others.
pub no_room_for : {T E : Type 0} (r : Result T E) (list : ChangeListView) (count capacity : ℕ) (bytes : List ℕ) (change : Change)
    → changes_in count bytes ≡ list.changes → capacity ≡ list.capacity → AreChanges count bytes
    → (length bytes + length (packed change) ≤ capacity → false ≡ true) → OnErr r (HasNoRoomForChange list change)
no_room_for r list count capacity bytes change same room are enough =
    let all : all_packed list.changes ≡ bytes = ap all_packed (sym same) ∙ all_packed-changes_in count bytes are in
    let short : HasNoRoomForChange list change =
    elim (cases_lt list.capacity (length (all_packed list.changes ++ packed change))) [
      | inl short ↦ short
      | inr fits ↦ absurd (false≢true (enough (omega (arith, fits, length-append (all_packed list.changes) (packed change), ap length all, room))))
    ] in
    elim r as (λ q. OnErr q (HasNoRoomForChange list change)) [ Ok x ↦ tt | Err y ↦ short ]

-- what is read at the end of one change more
pub record Peeled (n : ℕ) (bytes : List ℕ) : Type 0 where
  pub ends : EndsInChange bytes
  pub rest : AreChanges (n - 1) (before_last bytes)
  pub is : changes_in n bytes ≡ changes_in (n - 1) (before_last bytes) ++ last_change bytes ∷ []
  pub within : length (before_last bytes) ≤ length bytes
  pub cut : take (length (before_last bytes)) bytes ≡ before_last bytes

pub peeled : (n : ℕ) (bytes : List ℕ) → 0 < n → AreChanges n bytes → Peeled n bytes
peeled zero bytes some are = absurd (omega arith)
peeled (suc n) bytes some are =
    let e : suc n - 1 ≡ n = omega arith in
    let shorter = length-all_but bytes (change_length bytes) in
    record {
      ends = are.0;
      rest = rw e are.2;
      is = rw e refl;
      within = omega (arith, shorter);
      cut = ap (λ k. take k bytes) shorter;
    }

-- Each change takes a byte at least.
some_by_kind : (kind a b c d e : ℕ) → 1 ≤ a → 1 ≤ b → 1 ≤ c → 1 ≤ d → 1 ≤ e
    → 1 ≤ (if kind == OF_QUEUE then a else (if kind == OF_QUEUE_SET then b else (if kind == OF_STREAM then c else (if kind == OF_MESSAGE then d else e))))
some_by_kind kind a b c d e a1 b1 c1 d1 e1 = grind (arith, nat_tests, a1, b1, c1, d1, e1)

object_length_some : (bytes : List ℕ) → 1 ≤ object_change_length bytes
object_length_some bytes =
    some_by_kind (last_kind bytes) (last_length queue_layout bytes) (last_length queue_set_layout bytes) (stream_change_length bytes) (message_change_length bytes)
    (last_length group_layout bytes) (omega arith) (omega arith) (grind (arith, nat_tests)) (grind (arith, nat_tests)) (omega arith)

task_length_some : (bytes : List ℕ) → 1 ≤ task_change_length bytes
task_length_some bytes = grind (arith, nat_tests)

some_by_tag : (tag task object : ℕ) → 1 ≤ task → 1 ≤ object
    → 1 ≤ (if tag == SET_TICK then 5 else (if tag == SET_TURN then 2 else (if tag == SET_CORE then 3 else (if tag == INS_READY then 3
    else (if tag == DEL_READY then 2 else (if nat_lt tag INS_READY then task else object))))))
some_by_tag tag task object t1 o1 = grind (arith, nat_tests, t1, o1)

length_some : (bytes : List ℕ) → 1 ≤ change_length bytes
length_some bytes = some_by_tag (end_byte 1 bytes) (task_change_length bytes) (object_change_length bytes) (task_length_some bytes) (object_length_some bytes)

pub count-le : (n : ℕ) (bytes : List ℕ) → AreChanges n bytes → n ≤ length bytes
count-le zero bytes are = omega arith
count-le (suc n) bytes are =
    omega (arith, count-le n (before_last bytes) are.2, length-all_but bytes (change_length bytes), are.0.whole, are.0.some, length_some bytes)

-- ---- how many bytes they take

-- A number is no less than one, and no more than another.
abbrev pub IsBetween : ℕ → ℕ → ℕ → Type 0
IsBetween low high n = (low - n) + (n - high) ≡ 0

-- the fields of a change of a queue, and its tag
abbrev fields_of : ℕ → QueueChange → List ℕ
fields_of queue change = encoded (row_widths queue_layout queue change) (queue_row queue change).1 ++ (queue_row queue change).0 ∷ []

-- A change takes a byte at least, 15 at the most, and those that it carries.
pub packed_short : (change : Change) → IsBetween (1 + saved_bytes change) (15 + saved_bytes change) (length (packed change))
packed_short (SetTick tick) = omega arith
packed_short (SetTurn turn) = omega arith
packed_short (SetCore core task) = omega arith
packed_short (InsReady index task) = omega arith
packed_short (DelReady index) = omega arith
packed_short (Task task (SetPc pc)) = omega arith
packed_short (Task task (SetReg register value)) = omega arith
packed_short (Task task (SetPhase phase)) = omega arith
packed_short (Task task (SetEntry index entry)) = omega arith
packed_short (Task task (SetData d)) = omega (arith, length-append d (task_fields task (SetData d)))
packed_short (Object (Queue queue (InsWait list index task))) = omega arith
packed_short (Object (Queue queue (DelWait list index))) = omega arith
packed_short (Object (Queue queue (PutBack item))) = omega (arith, length-append item (fields_of queue (PutBack item)))
packed_short (Object (Queue queue TakeBack)) = omega arith
packed_short (Object (Queue queue (PutFront item))) = omega (arith, length-append item (fields_of queue (PutFront item)))
packed_short (Object (Queue queue TakeFront)) = omega arith
packed_short (Object (Queue queue (SetItem index item))) = omega (arith, length-append item (fields_of queue (SetItem index item)))
packed_short (Object (Queue queue Clear)) = omega arith
packed_short (Object (Queue queue (Fill bytes))) = omega (arith, length-append bytes (fields_of queue (Fill bytes)))
packed_short (Object (Queue queue (SetMember queue_set))) = omega arith
packed_short (Object (QueueSet n (of_set.InsWait index task))) = omega arith
packed_short (Object (QueueSet n (of_set.DelWait index))) = omega arith
packed_short (Object (QueueSet n (of_set.PushHandle queue))) = omega arith
packed_short (Object (QueueSet n of_set.DropHandle)) = omega arith
packed_short (Object (QueueSet n of_set.TakeHandle)) = omega arith
packed_short (Object (QueueSet n (of_set.UntakeHandle queue))) = omega arith
packed_short (Object (Stream n (of_stream.PushBytes bytes))) = omega (arith, length-append bytes (stream_fields n (of_stream.PushBytes bytes)))
packed_short (Object (Stream n (of_stream.DropBytes count))) = omega arith
packed_short (Object (Stream n (of_stream.TakeBytes count))) = omega arith
packed_short (Object (Stream n (of_stream.UntakeBytes bytes))) = omega (arith, length-append bytes (stream_fields n (of_stream.UntakeBytes bytes)))
packed_short (Object (Stream n (of_stream.SetByte index value))) = omega arith
packed_short (Object (Stream n (of_stream.SetTrigger trigger))) = omega arith
packed_short (Object (Stream n (of_stream.SetHolder Reader task))) = omega arith
packed_short (Object (Stream n (of_stream.SetHolder Writer task))) = omega arith
packed_short (Object (Stream n of_stream.Clear)) = omega arith
packed_short (Object (Stream n (of_stream.Fill bytes))) = omega (arith, length-append bytes (stream_fields n (of_stream.Fill bytes)))
packed_short (Object (Message n (of_message.Push message))) = omega (arith, length-append message (message_fields n (of_message.Push message)))
packed_short (Object (Message n of_message.Drop)) = omega arith
packed_short (Object (Message n of_message.Take)) = omega arith
packed_short (Object (Message n (of_message.Untake message))) = omega (arith, length-append message (message_fields n (of_message.Untake message)))
packed_short (Object (Message n (of_message.SetHolder Reader task))) = omega arith
packed_short (Object (Message n (of_message.SetHolder Writer task))) = omega arith
packed_short (Object (Message n of_message.Clear)) = omega arith
packed_short (Object (Message n (of_message.Fill bytes))) = omega (arith, length-append bytes (message_fields n (of_message.Fill bytes)))
packed_short (Object (Group n (of_group.InsWait index task wish))) = omega arith
packed_short (Object (Group n (of_group.DelWait index))) = omega arith
packed_short (Object (Group n (of_group.SetBits bits))) = omega arith

-- So a list of changes takes no more than 16 bytes a change and those that they carry.
pub weight_bounds_bytes : (changes : List Change) → length (all_packed changes) ≤ 15 * length changes + weight_of changes
weight_bounds_bytes [] = omega arith
weight_bounds_bytes (change ∷ later) =
    omega (
      arith,
      length-append (packed change) (all_packed later),
      packed_short change,
      sum_by-cons cost_of change later,
      weight_bounds_bytes later,
    )

-- And no less than their weight.
pub weight-le-bytes : (changes : List Change) → weight_of changes ≤ length (all_packed changes)
weight-le-bytes [] = omega arith
weight-le-bytes (change ∷ later) =
    omega (
      arith,
      length-append (packed change) (all_packed later),
      packed_short change,
      sum_by-cons cost_of change later,
      weight-le-bytes later,
    )

pub length-weight-le : (changes : List Change) → length changes ≤ weight_of changes
length-weight-le [] = omega arith
length-weight-le (change ∷ later) = omega (arith, sum_by-cons cost_of change later, length-weight-le later)

-- A change of an object takes as many bytes as it says.
pub record IsObjectTag (tag : ℕ) : Type 0 where
  pub tick : tag ≢ SET_TICK
  pub turn : tag ≢ SET_TURN
  pub core : tag ≢ SET_CORE
  pub ready : tag ≢ INS_READY
  pub left : tag ≢ DEL_READY
  pub above : INS_READY ≤ tag

pub IsObjectTag-above : (tag : ℕ) → DEL_READY < tag → IsObjectTag tag
IsObjectTag-above tag above = record {
  tick = grind (arith, above);
  turn = grind (arith, above);
  core = grind (arith, above);
  ready = grind (arith, above);
  left = grind (arith, above);
  above = omega (arith, above);
}

by_other_tag : (bytes : List ℕ) → IsObjectTag (end_byte 1 bytes) → IsByTag bytes (Object (last_object_change bytes)) (object_change_length bytes)
by_other_tag bytes is =
    let no_tick : (end_byte 1 bytes == SET_TICK) ≡ false = grind (arith, nat_tests, is.tick) in
    let no_turn : (end_byte 1 bytes == SET_TURN) ≡ false = grind (arith, nat_tests, is.turn) in
    let no_core : (end_byte 1 bytes == SET_CORE) ≡ false = grind (arith, nat_tests, is.core) in
    let no_ready : (end_byte 1 bytes == INS_READY) ≡ false = grind (arith, nat_tests, is.ready) in
    let no_left : (end_byte 1 bytes == DEL_READY) ≡ false = grind (arith, nat_tests, is.left) in
    let no_task : nat_lt (end_byte 1 bytes) INS_READY ≡ false = grind (arith, nat_tests, is.above) in
    record {
      same = rw (no_tick, no_turn, no_core, no_ready, no_left, no_task) refl;
      length = rw (no_tick, no_turn, no_core, no_ready, no_left, no_task) refl;
    }

pub change_length-object : (bytes : List ℕ) → IsObjectTag (end_byte 1 bytes) → change_length bytes ≡ object_change_length bytes
change_length-object bytes is = (by_other_tag bytes is).length

pub last_change-object : (bytes : List ℕ) → IsObjectTag (end_byte 1 bytes) → last_change bytes ≡ Object (last_object_change bytes)
last_change-object bytes is = (by_other_tag bytes is).same

-- A change of an object whose kind is none of the others is one of an event group.
pub record IsGroupKind (bytes : List ℕ) : Type 0 where
  pub length : object_change_length bytes ≡ last_length group_layout bytes
  pub change : last_object_change bytes ≡ group_change_of (last_row group_layout bytes)

pub IsGroupKind-other : (bytes : List ℕ) → last_kind bytes ≢ OF_QUEUE → last_kind bytes ≢ OF_QUEUE_SET → last_kind bytes ≢ OF_STREAM → last_kind bytes ≢ OF_MESSAGE
    → IsGroupKind bytes
IsGroupKind-other bytes queue queue_set stream message =
    let no_queue : (last_kind bytes == OF_QUEUE) ≡ false = grind (arith, nat_tests, queue) in
    let no_set : (last_kind bytes == OF_QUEUE_SET) ≡ false = grind (arith, nat_tests, queue_set) in
    let no_stream : (last_kind bytes == OF_STREAM) ≡ false = grind (arith, nat_tests, stream) in
    let no_message : (last_kind bytes == OF_MESSAGE) ≡ false = grind (arith, nat_tests, message) in
    record { length = rw (no_queue, no_set, no_stream, no_message) refl; change = rw (no_queue, no_set, no_stream, no_message) refl }
