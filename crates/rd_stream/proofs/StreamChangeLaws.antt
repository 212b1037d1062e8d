-- Changes of a stream buffer, undone each by its inverse.
use Rattle.std.proofs.Common.{◌≡◌, ◌∙◌, ℕ, ◌-◌, ◌<◌, ◌≤◌, List, [], ◌++◌, length, get_or, set, take, drop, refl, ap, sym, arith, length-append}
use Rattle.std.proofs.lemmas.List.{length-set, length-take-le, length-drop, take-append-drop, take_at, drop_at, set-set, set-get_or}
use Rattle.std.specs.Prelude.{Option, IfSome}
use Rattle.rd_stream.specs.declared.side.Side.{Side}
use Rattle.rd_stream.specs.declared.side.Side.TheVariants.{Reader, Writer}
use Rattle.rd_stream.specs.Holders.{HoldersView, holder_of, with_holder_of, IsSizedHolders}
use Rattle.rd_stream.specs.Sizes.{IsSizedStream}
use Rattle.rd_stream.specs.StreamSnapshot.{StreamSnapshot}
use Rattle.rd_stream.specs.Streams.{with_stream_bytes, with_stream_holders}
use Rattle.rd_stream.specs.StreamChanges.{StreamChange, PushBytes, DropBytes, TakeBytes, UntakeBytes, SetByte, SetTrigger, SetHolder, Clear, Fill}
use Rattle.rd_stream.specs.StreamChanges.{stream_applied, stream_inverse_of, StreamFits, EachStreamChangeIsUndone}

-- ---- places

-- a place that names somebody else, and then whom it named before
holder_back : (side : Side) (task : Option ℕ) (holders : HoldersView) → with_holder_of side (holder_of side holders) (with_holder_of side task holders) ≡ holders
holder_back Reader task holders = refl
holder_back Writer task holders = refl

holder_sized : (side : Side) (task : Option ℕ) (holders : HoldersView) → IsSizedHolders holders → IfSome task (λ t. t < holders.task_count)
    → IsSizedHolders (with_holder_of side task holders)
holder_sized Reader task holders sized is_task = record { reader = is_task; writer = sized.writer }
holder_sized Writer task holders sized is_task = record { reader = sized.reader; writer = is_task }

same_task_count : (side : Side) (task : Option ℕ) (holders : HoldersView) → (with_holder_of side task holders).task_count ≡ holders.task_count
same_task_count Reader task holders = refl
same_task_count Writer task holders = refl

pub holder_is_task : (side : Side) (holders : HoldersView) → IsSizedHolders holders → IfSome (holder_of side holders) (λ t. t < holders.task_count)
holder_is_task Reader holders sized = sized.reader
holder_is_task Writer holders sized = sized.writer

-- whom a place named is a task also once the place names somebody else
holder_stays_task : (side : Side) (task : Option ℕ) (holders : HoldersView) → IsSizedHolders holders
    → IfSome (holder_of side holders) (λ t. t < (with_holder_of side task holders).task_count)
holder_stays_task Reader task holders sized = sized.reader
holder_stays_task Writer task holders sized = sized.writer

-- ---- what undoes a change

undoes : (stream : StreamSnapshot) (change : StreamChange) → StreamFits stream change
    → stream_applied (stream_applied stream change) (stream_inverse_of stream change) ≡ stream
undoes stream (PushBytes bytes) fits =
    ap (λ bs. with_stream_bytes stream bs)
    (take_at stream.bytes bytes (length (stream.bytes ++ bytes) - length bytes) (omega (arith, length-append stream.bytes bytes)))
undoes stream (DropBytes count) fits = ap (λ bs. with_stream_bytes stream bs) (take-append-drop (length stream.bytes - count) stream.bytes)
undoes stream (TakeBytes count) fits = ap (λ bs. with_stream_bytes stream bs) (take-append-drop count stream.bytes)
undoes stream (UntakeBytes bytes) fits = ap (λ bs. with_stream_bytes stream bs) (drop_at bytes stream.bytes (length bytes) refl)
undoes stream (SetByte index value) fits =
    ap (λ bs. with_stream_bytes stream bs) (set-set stream.bytes index value (get_or stream.bytes index 0) ∙ set-get_or stream.bytes index 0)
undoes stream (SetTrigger trigger) fits = refl
undoes stream (SetHolder side task) fits = ap (λ holders. with_stream_holders stream holders) (holder_back side task stream.holders)
undoes stream Clear fits = refl
undoes stream (Fill bytes) fits = ap (λ bs. with_stream_bytes stream bs) (sym fits.0)

-- ---- sizes

-- the buffer with other bytes
bytes_sized : (stream : StreamSnapshot) (bytes : List ℕ) → IsSizedStream stream → length bytes ≤ stream.capacity → IsSizedStream (with_stream_bytes stream bytes)
bytes_sized stream bytes sized room =
    record { room = room; few = sized.few; some_trigger = sized.some_trigger; trigger = sized.trigger; holders = sized.holders }

sized_then : (stream : StreamSnapshot) (change : StreamChange) → IsSizedStream stream → StreamFits stream change → IsSizedStream (stream_applied stream change)
sized_then stream (PushBytes bytes) sized fits = bytes_sized stream (stream.bytes ++ bytes) sized (omega (arith, length-append stream.bytes bytes, fits))
sized_then stream (DropBytes count) sized fits =
    let left = length stream.bytes - count in
    bytes_sized stream (take left stream.bytes) sized (omega (arith, length-take-le left stream.bytes (omega arith), sized.room))
sized_then stream (TakeBytes count) sized fits =
    bytes_sized stream (drop count stream.bytes) sized (omega (arith, length-drop count stream.bytes, sized.room))
sized_then stream (UntakeBytes bytes) sized fits = bytes_sized stream (bytes ++ stream.bytes) sized (omega (arith, length-append bytes stream.bytes, fits))
sized_then stream (SetByte index value) sized fits =
    bytes_sized stream (set stream.bytes index value) sized (omega (arith, length-set stream.bytes index value, sized.room))
sized_then stream (SetTrigger trigger) sized fits =
    record { room = sized.room; few = sized.few; some_trigger = fits.0; trigger = fits.1; holders = sized.holders }
sized_then stream (SetHolder side task) sized fits = record {
  room = sized.room;
  few = sized.few;
  some_trigger = sized.some_trigger;
  trigger = sized.trigger;
  holders = holder_sized side task stream.holders sized.holders fits;
}
sized_then stream Clear sized fits = bytes_sized stream [] sized (omega arith)
sized_then stream (Fill bytes) sized fits = bytes_sized stream bytes sized fits.1

-- ---- the inverse fits

inverse_fits : (stream : StreamSnapshot) (change : StreamChange) → IsSizedStream stream → StreamFits stream change
    → StreamFits (stream_applied stream change) (stream_inverse_of stream change)
inverse_fits stream (PushBytes bytes) sized fits = omega (arith, length-append stream.bytes bytes)
inverse_fits stream (DropBytes count) sized fits =
    let left = length stream.bytes - count in
    omega (arith, length-take-le left stream.bytes (omega arith), length-drop left stream.bytes, sized.room)
inverse_fits stream (TakeBytes count) sized fits =
    omega (arith, length-take-le count stream.bytes fits, length-drop count stream.bytes, sized.room)
inverse_fits stream (UntakeBytes bytes) sized fits = omega (arith, length-append bytes stream.bytes)
inverse_fits stream (SetByte index value) sized fits = omega (arith, length-set stream.bytes index value, fits)
inverse_fits stream (SetTrigger trigger) sized fits = (sized.some_trigger, sized.trigger)
inverse_fits stream (SetHolder side task) sized fits = holder_stays_task side task stream.holders sized.holders
inverse_fits stream Clear sized fits = (refl, sized.room)
inverse_fits stream (Fill bytes) sized fits = tt

-- For as many tasks, and with as much room.
same_numbers : (stream : StreamSnapshot) (change : StreamChange)
    → ((stream_applied stream change).holders.task_count ≡ stream.holders.task_count) × ((stream_applied stream change).capacity ≡ stream.capacity)
same_numbers stream (PushBytes bytes) = (refl, refl)
same_numbers stream (DropBytes count) = (refl, refl)
same_numbers stream (TakeBytes count) = (refl, refl)
same_numbers stream (UntakeBytes bytes) = (refl, refl)
same_numbers stream (SetByte index value) = (refl, refl)
same_numbers stream (SetTrigger trigger) = (refl, refl)
same_numbers stream (SetHolder side task) = (same_task_count side task stream.holders, refl)
same_numbers stream Clear = (refl, refl)
same_numbers stream (Fill bytes) = (refl, refl)

pub stream_change_is_undone : EachStreamChangeIsUndone
stream_change_is_undone stream change sized fits = record {
  back = undoes stream change fits;
  fits = inverse_fits stream change sized fits;
  sized = sized_then stream change sized fits;
  task_count = (same_numbers stream change).0;
  capacity = (same_numbers stream change).1;
}
