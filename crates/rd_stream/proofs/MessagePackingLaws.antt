-- A change of a message buffer that was put behind bytes is read at their end.
use Rattle.std.proofs.Common.{◌≡◌, ◌∙◌, ℕ, ◌+◌, ◌-◌, ◌<◌, ◌≤◌, List, [], ◌∷◌, ◌++◌, length, get_or, refl, ap, subst, arith, append_assoc, length-append, Option, Some, None, IfSome}
use Rattle.std.proofs.lemmas.Nat.{from_le_bytes-to_le_bytes_2}
use Rattle.std.specs.Int.{w16, to_le_bytes}
use Rattle.rd_bytes.proofs.Offered.{end_byte_of, end_short_of, all_but_end, all_but_saved, bytes_before_end, number_again}
use Rattle.rd_bytes.specs.Ends.{byte_of_number, end_byte, end_short}
use Rattle.rd_bytes.specs.Tags.{last_kind}
use Rattle.rd_bytes.specs.declared.tag.TheConstants.{PUSH_MESSAGE, DROP_MESSAGE, TAKE_MESSAGE, UNTAKE_MESSAGE, SET_READER, SET_WRITER}
use Rattle.rd_bytes.specs.declared.tag.TheConstants.{CLEAR_MESSAGES, FILL_MESSAGES, MESSAGE_HOLDER, OF_MESSAGE}
use Rattle.rd_stream.specs.Holders.{HoldersView, IsSizedHolders, holder_of}
use Rattle.rd_stream.specs.MessageChanges.{MessageChange, Push, Drop, Take, Untake, SetHolder, Clear, Fill}
use Rattle.rd_stream.specs.MessageChanges.{message_inverse_of, MessageFits}
use Rattle.rd_stream.specs.MessageSnapshot.{MessageSnapshot}
use Rattle.rd_stream.specs.PackedMessageChanges.{message_carried, message_fields, message_packed, MessageFitsBytes}
use Rattle.rd_stream.specs.PackedMessageChanges.{last_message_buffer, last_message_change, message_change_length, MessageChangeIsAtEnd, EachMessageChangeIsReadBack}
use Rattle.rd_stream.specs.Sizes.{IsSizedMessageBuffer}
use Rattle.rd_stream.specs.declared.side.Side.{Side}
use Rattle.rd_stream.specs.declared.side.Side.TheVariants.{Reader, Writer}
use Rattle.rd_stream.proofs.MessageListLaws.{within_held}

-- What is read at the end is as long as what was put there.
plain_read : (b x : List ℕ) (buffer : ℕ) (change : MessageChange) → 1 ≤ length x → SET_READER ≤ end_byte 1 (b ++ x) → last_kind (b ++ x) ≡ OF_MESSAGE
    → last_message_buffer (b ++ x) ≡ buffer → last_message_change (b ++ x) ≡ change → message_change_length (b ++ x) ≡ length x
    → MessageChangeIsAtEnd (b ++ x) b buffer change
plain_read b x buffer change some tag kind number same long = record {
  ends = record { some = omega (arith, some, length-append b x); whole = omega (arith, long, length-append b x) };
  tag = tag;
  kind = kind;
  buffer = number;
  same = same;
  before = all_but_end b x (message_change_length (b ++ x)) long;
}

-- ---- changes of a place

set_reader_read : (b : List ℕ) (buffer : ℕ) (task : Option ℕ) → IfSome task (λ t. t < 255)
    → MessageChangeIsAtEnd (b ++ message_packed buffer (SetHolder Reader task)) b buffer (SetHolder Reader task)
set_reader_read b buffer task fits =
    let x : List ℕ = message_packed buffer (SetHolder Reader task) in
    let tag : end_byte 1 (b ++ x) ≡ SET_READER = end_byte_of b x 1 (omega arith) (omega arith) in
    let e4 : end_byte 4 (b ++ x) ≡ MESSAGE_HOLDER = end_byte_of b x 4 (omega arith) (omega arith) in
    let e3 : end_byte 3 (b ++ x) ≡ buffer = end_byte_of b x 3 (omega arith) (omega arith) in
    let e2 : end_byte 2 (b ++ x) ≡ byte_of_number task = end_byte_of b x 2 (omega arith) (omega arith) in
    plain_read b x buffer _ (omega arith) (omega (arith, tag)) (rw (tag, e4) refl) (rw tag e3) (rw (tag, e2) (ap (SetHolder Reader) (number_again task fits))) (rw tag refl)

set_writer_read : (b : List ℕ) (buffer : ℕ) (task : Option ℕ) → IfSome task (λ t. t < 255)
    → MessageChangeIsAtEnd (b ++ message_packed buffer (SetHolder Writer task)) b buffer (SetHolder Writer task)
set_writer_read b buffer task fits =
    let x : List ℕ = message_packed buffer (SetHolder Writer task) in
    let tag : end_byte 1 (b ++ x) ≡ SET_WRITER = end_byte_of b x 1 (omega arith) (omega arith) in
    let e4 : end_byte 4 (b ++ x) ≡ MESSAGE_HOLDER = end_byte_of b x 4 (omega arith) (omega arith) in
    let e3 : end_byte 3 (b ++ x) ≡ buffer = end_byte_of b x 3 (omega arith) (omega arith) in
    let e2 : end_byte 2 (b ++ x) ≡ byte_of_number task = end_byte_of b x 2 (omega arith) (omega arith) in
    plain_read b x buffer _ (omega arith) (omega (arith, tag)) (rw (tag, e4) refl) (rw tag e3) (rw (tag, e2) (ap (SetHolder Writer) (number_again task fits))) (rw tag refl)

-- ---- changes of two bytes, the buffer and the tag

drop_read : (b : List ℕ) (buffer : ℕ) → MessageChangeIsAtEnd (b ++ message_packed buffer Drop) b buffer Drop
drop_read b buffer =
    let x : List ℕ = message_packed buffer Drop in
    let tag : end_byte 1 (b ++ x) ≡ DROP_MESSAGE = end_byte_of b x 1 (omega arith) (omega arith) in
    let e2 : end_byte 2 (b ++ x) ≡ buffer = end_byte_of b x 2 (omega arith) (omega arith) in
    plain_read b x buffer _ (omega arith) (omega (arith, tag)) (rw tag refl) (rw tag e2) (rw tag refl) (rw tag refl)

take_read : (b : List ℕ) (buffer : ℕ) → MessageChangeIsAtEnd (b ++ message_packed buffer Take) b buffer Take
take_read b buffer =
    let x : List ℕ = message_packed buffer Take in
    let tag : end_byte 1 (b ++ x) ≡ TAKE_MESSAGE = end_byte_of b x 1 (omega arith) (omega arith) in
    let e2 : end_byte 2 (b ++ x) ≡ buffer = end_byte_of b x 2 (omega arith) (omega arith) in
    plain_read b x buffer _ (omega arith) (omega (arith, tag)) (rw tag refl) (rw tag e2) (rw tag refl) (rw tag refl)

clear_read : (b : List ℕ) (buffer : ℕ) → MessageChangeIsAtEnd (b ++ message_packed buffer Clear) b buffer Clear
clear_read b buffer =
    let x : List ℕ = message_packed buffer Clear in
    let tag : end_byte 1 (b ++ x) ≡ CLEAR_MESSAGES = end_byte_of b x 1 (omega arith) (omega arith) in
    let e2 : end_byte 2 (b ++ x) ≡ buffer = end_byte_of b x 2 (omega arith) (omega arith) in
    plain_read b x buffer _ (omega arith) (omega (arith, tag)) (rw tag refl) (rw tag e2) (rw tag refl) (rw tag refl)

-- ---- changes that carry bytes, which stand before the fields

-- the number of the bytes carried, where two bytes of the fields have it
size_read : (b carried x : List ℕ) → length carried < 65536 → 3 ≤ length x → end_short 2 x ≡ end_short 2 (to_le_bytes w16 (length carried) ++ 0 ∷ [])
    → end_short 2 ((b ++ carried) ++ x) ≡ length carried
size_read b carried x fits there is =
    end_short_of (b ++ carried) x 2 (omega arith) (omega arith) ∙ is ∙ from_le_bytes-to_le_bytes_2 (length carried) fits

bytes_read : (b carried x : List ℕ) (buffer : ℕ) (change : MessageChange) → 1 ≤ length x → SET_READER ≤ end_byte 1 ((b ++ carried) ++ x)
    → last_kind ((b ++ carried) ++ x) ≡ OF_MESSAGE → last_message_buffer ((b ++ carried) ++ x) ≡ buffer
    → last_message_change ((b ++ carried) ++ x) ≡ change → message_change_length ((b ++ carried) ++ x) ≡ length x + length carried
    → MessageChangeIsAtEnd ((b ++ carried) ++ x) b buffer change
bytes_read b carried x buffer change some tag kind number same long = record {
  ends = record {
    some = omega (arith, some, length-append (b ++ carried) x);
    whole = omega (arith, long, length-append (b ++ carried) x, length-append b carried);
  };
  tag = tag;
  kind = kind;
  buffer = number;
  same = same;
  before = all_but_saved b carried x (message_change_length ((b ++ carried) ++ x)) long;
}

push_read : (b : List ℕ) (buffer : ℕ) (m : List ℕ) → length m < 65536
    → MessageChangeIsAtEnd ((b ++ m) ++ message_fields buffer (Push m)) b buffer (Push m)
push_read b buffer m fits =
    let x : List ℕ = message_fields buffer (Push m) in
    let f : List ℕ = b ++ m in
    let tag : end_byte 1 (f ++ x) ≡ PUSH_MESSAGE = end_byte_of f x 1 (omega arith) (omega arith) in
    let e4 : end_byte 4 (f ++ x) ≡ buffer = end_byte_of f x 4 (omega arith) (omega arith) in
    let size : end_short 2 (f ++ x) ≡ length m = size_read b m x fits (omega arith) refl in
    bytes_read b m x buffer _ (omega arith) (omega (arith, tag)) (rw tag refl) (rw tag e4) (rw (tag, size) (ap Push (bytes_before_end b m x 4 (length m) refl refl))) (rw (tag, size) refl)

untake_read : (b : List ℕ) (buffer : ℕ) (m : List ℕ) → length m < 65536
    → MessageChangeIsAtEnd ((b ++ m) ++ message_fields buffer (Untake m)) b buffer (Untake m)
untake_read b buffer m fits =
    let x : List ℕ = message_fields buffer (Untake m) in
    let f : List ℕ = b ++ m in
    let tag : end_byte 1 (f ++ x) ≡ UNTAKE_MESSAGE = end_byte_of f x 1 (omega arith) (omega arith) in
    let e4 : end_byte 4 (f ++ x) ≡ buffer = end_byte_of f x 4 (omega arith) (omega arith) in
    let size : end_short 2 (f ++ x) ≡ length m = size_read b m x fits (omega arith) refl in
    bytes_read b m x buffer _ (omega arith) (omega (arith, tag)) (rw tag refl) (rw tag e4) (rw (tag, size) (ap Untake (bytes_before_end b m x 4 (length m) refl refl))) (rw (tag, size) refl)

fill_read : (b : List ℕ) (buffer : ℕ) (bytes : List ℕ) → length bytes < 65536
    → MessageChangeIsAtEnd ((b ++ bytes) ++ message_fields buffer (Fill bytes)) b buffer (Fill bytes)
fill_read b buffer bytes fits =
    let x : List ℕ = message_fields buffer (Fill bytes) in
    let f : List ℕ = b ++ bytes in
    let tag : end_byte 1 (f ++ x) ≡ FILL_MESSAGES = end_byte_of f x 1 (omega arith) (omega arith) in
    let e4 : end_byte 4 (f ++ x) ≡ buffer = end_byte_of f x 4 (omega arith) (omega arith) in
    let size : end_short 2 (f ++ x) ≡ length bytes = size_read b bytes x fits (omega arith) refl in
    bytes_read b bytes x buffer _ (omega arith) (omega (arith, tag)) (rw tag refl) (rw tag e4) (rw (tag, size) (ap Fill (bytes_before_end b bytes x 4 (length bytes) refl refl))) (rw (tag, size) refl)

-- The bytes carried stand behind the rest, and the fields behind them.
carried_read : (b : List ℕ) (buffer : ℕ) (change : MessageChange)
    → MessageChangeIsAtEnd ((b ++ message_carried change) ++ message_fields buffer change) b buffer change
    → MessageChangeIsAtEnd (b ++ message_packed buffer change) b buffer change
carried_read b buffer change there =
    subst (λ (bytes : List ℕ). MessageChangeIsAtEnd bytes b buffer change) (append_assoc b (message_carried change) (message_fields buffer change)) there

pub message_change_is_read_back : EachMessageChangeIsReadBack
message_change_is_read_back b buffer (Push m) fits = carried_read b buffer (Push m) (push_read b buffer m fits.1)
message_change_is_read_back b buffer Drop fits = drop_read b buffer
message_change_is_read_back b buffer Take fits = take_read b buffer
message_change_is_read_back b buffer (Untake m) fits = carried_read b buffer (Untake m) (untake_read b buffer m fits.1)
message_change_is_read_back b buffer (SetHolder Reader task) fits = set_reader_read b buffer task fits.1
message_change_is_read_back b buffer (SetHolder Writer task) fits = set_writer_read b buffer task fits.1
message_change_is_read_back b buffer Clear fits = clear_read b buffer
message_change_is_read_back b buffer (Fill bytes) fits = carried_read b buffer (Fill bytes) (fill_read b buffer bytes fits.1)

-- ---- What undoes a change of a message buffer fits in its bytes, where there are few tasks.

message_short : (buffer : MessageSnapshot) (index : ℕ) → IsSizedMessageBuffer buffer → index < length buffer.messages → length (get_or buffer.messages index []) < 65536
message_short buffer index sized there = omega (arith, within_held buffer.messages index there, sized.room, sized.few)

task_fits : (task : Option ℕ) (count : ℕ) → IfSome task (λ t. t < count) → count ≤ 255 → IfSome task (λ t. t < 255)
task_fits None count there few = tt
task_fits (Some task) count there few = omega (arith, there, few)

holder_fits : (side : Side) (holders : HoldersView) → IsSizedHolders holders → holders.task_count ≤ 255 → IfSome (holder_of side holders) (λ t. t < 255)
holder_fits Reader holders sized few = task_fits holders.reader holders.task_count sized.reader few
holder_fits Writer holders sized few = task_fits holders.writer holders.task_count sized.writer few

pub message_inverse_has_bytes : (buffer : MessageSnapshot) (change : MessageChange) → IsSizedMessageBuffer buffer → MessageFits buffer change
    → buffer.holders.task_count ≤ 255 → MessageFitsBytes (message_inverse_of buffer change)
message_inverse_has_bytes buffer (Push m) sized fits few = tt
message_inverse_has_bytes buffer Drop sized fits few = message_short buffer (length buffer.messages - 1) sized (omega (arith, fits))
message_inverse_has_bytes buffer Take sized fits few = message_short buffer 0 sized fits
message_inverse_has_bytes buffer (Untake m) sized fits few = tt
message_inverse_has_bytes buffer (SetHolder side task) sized fits few = holder_fits side buffer.holders sized.holders few
message_inverse_has_bytes buffer Clear sized fits few = omega (arith, sized.room, sized.few)
message_inverse_has_bytes buffer (Fill bytes) sized fits few = tt
