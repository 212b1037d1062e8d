-- A change of a stream buffer that was put behind bytes is read at their end.
use Rattle.std.proofs.Common.{◌≡◌, ◌∙◌, ℕ, ◌+◌, ◌-◌, ◌<◌, ◌≤◌, List, [], ◌∷◌, ◌++◌, length, refl, ap, subst, arith, append_assoc, length-append, Option, Some, None, IfSome}
use Rattle.std.proofs.lemmas.Nat.{from_le_bytes-to_le_bytes_2}
use Rattle.std.proofs.lemmas.List.{length-take-le, length-drop}
use Rattle.std.specs.Int.{w16, to_le_bytes}
use Rattle.rd_bytes.proofs.Offered.{end_byte_of, end_short_of, all_but_end, all_but_saved, bytes_before_end, number_again}
use Rattle.rd_bytes.specs.Tags.{last_kind}
use Rattle.rd_bytes.specs.Ends.{byte_of_number, end_byte, end_short}
use Rattle.rd_bytes.specs.declared.tag.TheConstants.{PUSH_BYTES, DROP_BYTES, TAKE_BYTES, UNTAKE_BYTES, SET_BYTE, SET_TRIGGER, SET_READER, SET_WRITER, CLEAR_BYTES, FILL_BYTES}
use Rattle.rd_bytes.specs.declared.tag.TheConstants.{STREAM_HOLDER, OF_STREAM}
use Rattle.rd_stream.specs.declared.side.Side.TheVariants.{Reader, Writer}
use Rattle.rd_stream.specs.Sizes.{IsSizedStream}
use Rattle.rd_stream.specs.StreamSnapshot.{StreamSnapshot}
use Rattle.rd_stream.specs.StreamChanges.{StreamChange, PushBytes, DropBytes, TakeBytes, UntakeBytes, SetByte, SetTrigger, SetHolder, Clear, Fill}
use Rattle.rd_stream.specs.StreamChanges.{stream_inverse_of, StreamFits}
use Rattle.rd_stream.specs.PackedStreamChanges.{stream_carried, stream_fields, stream_packed, StreamFitsBytes}
use Rattle.rd_stream.specs.PackedStreamChanges.{last_stream, last_stream_change, stream_change_length, StreamChangeIsAtEnd, EachStreamChangeIsReadBack}
use Rattle.rd_stream.proofs.StreamChangeLaws.{holder_is_task}

-- What is read at the end is as long as what was put there.
plain_read : (b x : List ℕ) (stream : ℕ) (change : StreamChange) → 1 ≤ length x → PUSH_BYTES ≤ end_byte 1 (b ++ x) → last_kind (b ++ x) ≡ OF_STREAM
    → last_stream (b ++ x) ≡ stream → last_stream_change (b ++ x) ≡ change → stream_change_length (b ++ x) ≡ length x → StreamChangeIsAtEnd (b ++ x) b stream change
plain_read b x stream change some tag kind number same long = record {
  ends = record { some = omega (arith, some, length-append b x); whole = omega (arith, long, length-append b x) };
  tag = tag;
  kind = kind;
  stream = number;
  same = same;
  before = all_but_end b x (stream_change_length (b ++ x)) long;
}

-- ---- changes of a number of two bytes

-- the number, where two bytes so far from the end have it
number_read : (b x : List ℕ) (number k : ℕ) → number < 65536 → 1 ≤ k → k + 1 ≤ length x → end_short k x ≡ end_short 2 (to_le_bytes w16 number ++ 0 ∷ [])
    → end_short k (b ++ x) ≡ number
number_read b x number k fits some there is = end_short_of b x k some there ∙ is ∙ from_le_bytes-to_le_bytes_2 number fits

drop_bytes_read : (b : List ℕ) (stream count : ℕ) → count < 65536 → StreamChangeIsAtEnd (b ++ stream_packed stream (DropBytes count)) b stream (DropBytes count)
drop_bytes_read b stream count fits =
    let x : List ℕ = stream_packed stream (DropBytes count) in
    let tag : end_byte 1 (b ++ x) ≡ DROP_BYTES = end_byte_of b x 1 (omega arith) (omega arith) in
    let e4 : end_byte 4 (b ++ x) ≡ stream = end_byte_of b x 4 (omega arith) (omega arith) in
    let n : end_short 2 (b ++ x) ≡ count = number_read b x count 2 fits (omega arith) (omega arith) refl in
    plain_read b x stream _ (omega arith) (omega (arith, tag)) (rw tag refl) (rw tag e4) (rw (tag, n) refl) (rw tag refl)

take_bytes_read : (b : List ℕ) (stream count : ℕ) → count < 65536 → StreamChangeIsAtEnd (b ++ stream_packed stream (TakeBytes count)) b stream (TakeBytes count)
take_bytes_read b stream count fits =
    let x : List ℕ = stream_packed stream (TakeBytes count) in
    let tag : end_byte 1 (b ++ x) ≡ TAKE_BYTES = end_byte_of b x 1 (omega arith) (omega arith) in
    let e4 : end_byte 4 (b ++ x) ≡ stream = end_byte_of b x 4 (omega arith) (omega arith) in
    let n : end_short 2 (b ++ x) ≡ count = number_read b x count 2 fits (omega arith) (omega arith) refl in
    plain_read b x stream _ (omega arith) (omega (arith, tag)) (rw tag refl) (rw tag e4) (rw (tag, n) refl) (rw tag refl)

set_trigger_read : (b : List ℕ) (stream trigger : ℕ) → trigger < 65536
    → StreamChangeIsAtEnd (b ++ stream_packed stream (SetTrigger trigger)) b stream (SetTrigger trigger)
set_trigger_read b stream trigger fits =
    let x : List ℕ = stream_packed stream (SetTrigger trigger) in
    let tag : end_byte 1 (b ++ x) ≡ SET_TRIGGER = end_byte_of b x 1 (omega arith) (omega arith) in
    let e4 : end_byte 4 (b ++ x) ≡ stream = end_byte_of b x 4 (omega arith) (omega arith) in
    let n : end_short 2 (b ++ x) ≡ trigger = number_read b x trigger 2 fits (omega arith) (omega arith) refl in
    plain_read b x stream _ (omega arith) (omega (arith, tag)) (rw tag refl) (rw tag e4) (rw (tag, n) refl) (rw tag refl)

set_byte_read : (b : List ℕ) (stream index value : ℕ) → index < 65536
    → StreamChangeIsAtEnd (b ++ stream_packed stream (SetByte index value)) b stream (SetByte index value)
set_byte_read b stream index value fits =
    let x : List ℕ = stream_packed stream (SetByte index value) in
    let tag : end_byte 1 (b ++ x) ≡ SET_BYTE = end_byte_of b x 1 (omega arith) (omega arith) in
    let e5 : end_byte 5 (b ++ x) ≡ stream = end_byte_of b x 5 (omega arith) (omega arith) in
    let e2 : end_byte 2 (b ++ x) ≡ value = end_byte_of b x 2 (omega arith) (omega arith) in
    let n : end_short 3 (b ++ x) ≡ index = number_read b x index 3 fits (omega arith) (omega arith) refl in
    plain_read b x stream _ (omega arith) (omega (arith, tag)) (rw tag refl) (rw tag e5) (rw (tag, n, e2) refl) (rw tag refl)

-- ---- changes of one byte, or of none

set_reader_read : (b : List ℕ) (stream : ℕ) (task : Option ℕ) → IfSome task (λ t. t < 255)
    → StreamChangeIsAtEnd (b ++ stream_packed stream (SetHolder Reader task)) b stream (SetHolder Reader task)
set_reader_read b stream task fits =
    let x : List ℕ = stream_packed stream (SetHolder Reader task) in
    let tag : end_byte 1 (b ++ x) ≡ SET_READER = end_byte_of b x 1 (omega arith) (omega arith) in
    let e4 : end_byte 4 (b ++ x) ≡ STREAM_HOLDER = end_byte_of b x 4 (omega arith) (omega arith) in
    let e3 : end_byte 3 (b ++ x) ≡ stream = end_byte_of b x 3 (omega arith) (omega arith) in
    let e2 : end_byte 2 (b ++ x) ≡ byte_of_number task = end_byte_of b x 2 (omega arith) (omega arith) in
    plain_read b x stream _ (omega arith) (omega (arith, tag)) (rw (tag, e4) refl) (rw tag e3) (rw (tag, e2) (ap (SetHolder Reader) (number_again task fits))) (rw tag refl)

set_writer_read : (b : List ℕ) (stream : ℕ) (task : Option ℕ) → IfSome task (λ t. t < 255)
    → StreamChangeIsAtEnd (b ++ stream_packed stream (SetHolder Writer task)) b stream (SetHolder Writer task)
set_writer_read b stream task fits =
    let x : List ℕ = stream_packed stream (SetHolder Writer task) in
    let tag : end_byte 1 (b ++ x) ≡ SET_WRITER = end_byte_of b x 1 (omega arith) (omega arith) in
    let e4 : end_byte 4 (b ++ x) ≡ STREAM_HOLDER = end_byte_of b x 4 (omega arith) (omega arith) in
    let e3 : end_byte 3 (b ++ x) ≡ stream = end_byte_of b x 3 (omega arith) (omega arith) in
    let e2 : end_byte 2 (b ++ x) ≡ byte_of_number task = end_byte_of b x 2 (omega arith) (omega arith) in
    plain_read b x stream _ (omega arith) (omega (arith, tag)) (rw (tag, e4) refl) (rw tag e3) (rw (tag, e2) (ap (SetHolder Writer) (number_again task fits))) (rw tag refl)

clear_read : (b : List ℕ) (stream : ℕ) → StreamChangeIsAtEnd (b ++ stream_packed stream Clear) b stream Clear
clear_read b stream =
    let x : List ℕ = stream_packed stream Clear in
    let tag : end_byte 1 (b ++ x) ≡ CLEAR_BYTES = end_byte_of b x 1 (omega arith) (omega arith) in
    let e2 : end_byte 2 (b ++ x) ≡ stream = end_byte_of b x 2 (omega arith) (omega arith) in
    plain_read b x stream _ (omega arith) (omega (arith, tag)) (rw tag refl) (rw tag e2) (rw tag refl) (rw tag refl)

-- ---- changes that carry bytes, which stand before the fields

bytes_read : (b carried x : List ℕ) (stream : ℕ) (change : StreamChange) → 1 ≤ length x → PUSH_BYTES ≤ end_byte 1 ((b ++ carried) ++ x)
    → last_kind ((b ++ carried) ++ x) ≡ OF_STREAM → last_stream ((b ++ carried) ++ x) ≡ stream
    → last_stream_change ((b ++ carried) ++ x) ≡ change → stream_change_length ((b ++ carried) ++ x) ≡ length x + length carried
    → StreamChangeIsAtEnd ((b ++ carried) ++ x) b stream change
bytes_read b carried x stream change some tag kind number same long = record {
  ends = record {
    some = omega (arith, some, length-append (b ++ carried) x);
    whole = omega (arith, long, length-append (b ++ carried) x, length-append b carried);
  };
  tag = tag;
  kind = kind;
  stream = number;
  same = same;
  before = all_but_saved b carried x (stream_change_length ((b ++ carried) ++ x)) long;
}

push_bytes_read : (b : List ℕ) (stream : ℕ) (bytes : List ℕ) → length bytes < 65536
    → StreamChangeIsAtEnd ((b ++ bytes) ++ stream_fields stream (PushBytes bytes)) b stream (PushBytes bytes)
push_bytes_read b stream bytes fits =
    let x : List ℕ = stream_fields stream (PushBytes bytes) in
    let f : List ℕ = b ++ bytes in
    let tag : end_byte 1 (f ++ x) ≡ PUSH_BYTES = end_byte_of f x 1 (omega arith) (omega arith) in
    let e4 : end_byte 4 (f ++ x) ≡ stream = end_byte_of f x 4 (omega arith) (omega arith) in
    let size : end_short 2 (f ++ x) ≡ length bytes = number_read f x (length bytes) 2 fits (omega arith) (omega arith) refl in
    bytes_read b bytes x stream _ (omega arith) (omega (arith, tag)) (rw tag refl) (rw tag e4) (rw (tag, size) (ap PushBytes (bytes_before_end b bytes x 4 (length bytes) refl refl))) (rw (tag, size) refl)

untake_bytes_read : (b : List ℕ) (stream : ℕ) (bytes : List ℕ) → length bytes < 65536
    → StreamChangeIsAtEnd ((b ++ bytes) ++ stream_fields stream (UntakeBytes bytes)) b stream (UntakeBytes bytes)
untake_bytes_read b stream bytes fits =
    let x : List ℕ = stream_fields stream (UntakeBytes bytes) in
    let f : List ℕ = b ++ bytes in
    let tag : end_byte 1 (f ++ x) ≡ UNTAKE_BYTES = end_byte_of f x 1 (omega arith) (omega arith) in
    let e4 : end_byte 4 (f ++ x) ≡ stream = end_byte_of f x 4 (omega arith) (omega arith) in
    let size : end_short 2 (f ++ x) ≡ length bytes = number_read f x (length bytes) 2 fits (omega arith) (omega arith) refl in
    bytes_read b bytes x stream _ (omega arith) (omega (arith, tag)) (rw tag refl) (rw tag e4) (rw (tag, size) (ap UntakeBytes (bytes_before_end b bytes x 4 (length bytes) refl refl))) (rw (tag, size) refl)

fill_read : (b : List ℕ) (stream : ℕ) (bytes : List ℕ) → length bytes < 65536
    → StreamChangeIsAtEnd ((b ++ bytes) ++ stream_fields stream (Fill bytes)) b stream (Fill bytes)
fill_read b stream bytes fits =
    let x : List ℕ = stream_fields stream (Fill bytes) in
    let f : List ℕ = b ++ bytes in
    let tag : end_byte 1 (f ++ x) ≡ FILL_BYTES = end_byte_of f x 1 (omega arith) (omega arith) in
    let e4 : end_byte 4 (f ++ x) ≡ stream = end_byte_of f x 4 (omega arith) (omega arith) in
    let size : end_short 2 (f ++ x) ≡ length bytes = number_read f x (length bytes) 2 fits (omega arith) (omega arith) refl in
    bytes_read b bytes x stream _ (omega arith) (omega (arith, tag)) (rw tag refl) (rw tag e4) (rw (tag, size) (ap Fill (bytes_before_end b bytes x 4 (length bytes) refl refl))) (rw (tag, size) refl)

-- The bytes carried stand behind the rest, and the fields behind them.
carried_read : (b : List ℕ) (stream : ℕ) (change : StreamChange)
    → StreamChangeIsAtEnd ((b ++ stream_carried change) ++ stream_fields stream change) b stream change
    → StreamChangeIsAtEnd (b ++ stream_packed stream change) b stream change
carried_read b stream change there =
    subst (λ (bytes : List ℕ). StreamChangeIsAtEnd bytes b stream change) (append_assoc b (stream_carried change) (stream_fields stream change)) there

pub stream_change_is_read_back : EachStreamChangeIsReadBack
stream_change_is_read_back b stream (PushBytes bytes) fits = carried_read b stream (PushBytes bytes) (push_bytes_read b stream bytes fits.1)
stream_change_is_read_back b stream (DropBytes count) fits = drop_bytes_read b stream count fits.1
stream_change_is_read_back b stream (TakeBytes count) fits = take_bytes_read b stream count fits.1
stream_change_is_read_back b stream (UntakeBytes bytes) fits = carried_read b stream (UntakeBytes bytes) (untake_bytes_read b stream bytes fits.1)
stream_change_is_read_back b stream (SetByte index value) fits = set_byte_read b stream index value fits.1
stream_change_is_read_back b stream (SetTrigger trigger) fits = set_trigger_read b stream trigger fits.1
stream_change_is_read_back b stream (SetHolder Reader task) fits = set_reader_read b stream task fits.1
stream_change_is_read_back b stream (SetHolder Writer task) fits = set_writer_read b stream task fits.1
stream_change_is_read_back b stream Clear fits = clear_read b stream
stream_change_is_read_back b stream (Fill bytes) fits = carried_read b stream (Fill bytes) (fill_read b stream bytes fits.1)

-- ---- What undoes a change of a stream buffer fits in its bytes, where there are few tasks.

task_fits : (task : Option ℕ) (count : ℕ) → IfSome task (λ t. t < count) → count ≤ 255 → IfSome task (λ t. t < 255)
task_fits None count there few = tt
task_fits (Some task) count there few = omega (arith, there, few)

pub stream_inverse_has_bytes : (stream : StreamSnapshot) (change : StreamChange) → IsSizedStream stream → StreamFits stream change
    → stream.holders.task_count ≤ 255 → StreamFitsBytes (stream_inverse_of stream change)
stream_inverse_has_bytes stream (PushBytes bytes) sized fits few = omega (arith, fits, sized.few)
stream_inverse_has_bytes stream (DropBytes count) sized fits few =
    let left = length stream.bytes - count in
    omega (arith, length-drop left stream.bytes, sized.room, sized.few)
stream_inverse_has_bytes stream (TakeBytes count) sized fits few = omega (arith, length-take-le count stream.bytes fits, sized.room, sized.few)
stream_inverse_has_bytes stream (UntakeBytes bytes) sized fits few = omega (arith, fits, sized.few)
stream_inverse_has_bytes stream (SetByte index value) sized fits few = omega (arith, fits, sized.room, sized.few)
stream_inverse_has_bytes stream (SetTrigger trigger) sized fits few = omega (arith, sized.trigger, sized.few)
stream_inverse_has_bytes stream (SetHolder side task) sized fits few =
    task_fits _ stream.holders.task_count (holder_is_task side stream.holders sized.holders) few
stream_inverse_has_bytes stream Clear sized fits few = omega (arith, sized.room, sized.few)
stream_inverse_has_bytes stream (Fill bytes) sized fits few = tt
