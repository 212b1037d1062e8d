-- The primitive changes of a stream buffer: what each does, at which buffers it fits, and what
-- undoes it.
use Rattle.std.specs.Prelude.{ℕ, ◌≡◌, ◌+◌, ◌-◌, ◌<◌, ◌≤◌, List, [], ◌++◌, length, take, drop}
use Rattle.std.specs.Prelude.{slice_index, slice_set, Option, IfSome}
use Rattle.rd_stream.specs.Holders.{holder_of, with_holder_of}
use Rattle.rd_stream.specs.Sizes.{IsSizedStream}
use Rattle.rd_stream.specs.StreamSnapshot.{StreamSnapshot}
use Rattle.rd_stream.specs.Streams.{with_stream_bytes, with_stream_holders, with_trigger}
use Rattle.rd_stream.specs.declared.side.Side.{Side}
use Rattle.rd_stream.specs.declared.stream_change.StreamChange as declared
use Rattle.rd_stream.specs.declared.stream_change.StreamChange.TheVariants as borrowed

-- a primitive change of a stream buffer, whatever lends its bytes; an index counts from the front
pub data StreamChange : Type 0 where
  -- The bytes go to the back; so many there leave.
  PushBytes : List ℕ → StreamChange
  DropBytes : ℕ → StreamChange
  -- So many bytes at the front leave; the bytes go to the front.
  TakeBytes : ℕ → StreamChange
  UntakeBytes : List ℕ → StreamChange
  -- The byte at the index has the value.
  SetByte : ℕ → ℕ → StreamChange
  -- The trigger level is this one.
  SetTrigger : ℕ → StreamChange
  -- The place at the side names the task, or nobody.
  SetHolder : Side → Option ℕ → StreamChange
  -- All bytes leave; an empty buffer gets these.
  Clear : StreamChange
  Fill : List ℕ → StreamChange

-- the change that one with borrowed bytes is
abbrev pub the_stream_change : declared.StreamChange → StreamChange
the_stream_change (borrowed.PushBytes front back) = PushBytes (front.now ++ back.now)
the_stream_change (borrowed.DropBytes count) = DropBytes count
the_stream_change (borrowed.TakeBytes count) = TakeBytes count
the_stream_change (borrowed.UntakeBytes front back) = UntakeBytes (front.now ++ back.now)
the_stream_change (borrowed.SetByte index value) = SetByte index value
the_stream_change (borrowed.SetTrigger trigger) = SetTrigger trigger
the_stream_change (borrowed.SetHolder side task) = SetHolder side task
the_stream_change borrowed.Clear = Clear
the_stream_change (borrowed.Fill front back) = Fill (front.now ++ back.now)

-- the buffer after a change
abbrev pub stream_applied : StreamSnapshot → StreamChange → StreamSnapshot
stream_applied stream (PushBytes bytes) = with_stream_bytes stream (stream.bytes ++ bytes)
stream_applied stream (DropBytes count) =
    with_stream_bytes stream (take (length stream.bytes - count) stream.bytes)
stream_applied stream (TakeBytes count) = with_stream_bytes stream (drop count stream.bytes)
stream_applied stream (UntakeBytes bytes) = with_stream_bytes stream (bytes ++ stream.bytes)
stream_applied stream (SetByte index value) =
    with_stream_bytes stream (slice_set stream.bytes index value)
stream_applied stream (SetTrigger trigger) = with_trigger stream trigger
stream_applied stream (SetHolder side task) =
    with_stream_holders stream (with_holder_of side task stream.holders)
stream_applied stream Clear = with_stream_bytes stream []
stream_applied stream (Fill bytes) = with_stream_bytes stream bytes

-- the change that undoes a change made at this buffer
abbrev pub stream_inverse_of : StreamSnapshot → StreamChange → StreamChange
stream_inverse_of stream (PushBytes bytes) = DropBytes (length bytes)
stream_inverse_of stream (DropBytes count) =
    PushBytes (drop (length stream.bytes - count) stream.bytes)
stream_inverse_of stream (TakeBytes count) = UntakeBytes (take count stream.bytes)
stream_inverse_of stream (UntakeBytes bytes) = TakeBytes (length bytes)
stream_inverse_of stream (SetByte index value) = SetByte index (slice_index stream.bytes index)
stream_inverse_of stream (SetTrigger trigger) = SetTrigger stream.trigger
stream_inverse_of stream (SetHolder side task) = SetHolder side (holder_of side stream.holders)
stream_inverse_of stream Clear = Fill stream.bytes
stream_inverse_of stream (Fill bytes) = Clear

-- The change names what is there, and there is space.
abbrev pub StreamFits : StreamSnapshot → StreamChange → Type 0
StreamFits stream (PushBytes bytes) = length stream.bytes + length bytes ≤ stream.capacity
StreamFits stream (DropBytes count) = count ≤ length stream.bytes
StreamFits stream (TakeBytes count) = count ≤ length stream.bytes
StreamFits stream (UntakeBytes bytes) = length stream.bytes + length bytes ≤ stream.capacity
StreamFits stream (SetByte index value) = index < length stream.bytes
StreamFits stream (SetTrigger trigger) = (0 < trigger) × (trigger ≤ stream.capacity)
StreamFits stream (SetHolder side task) = IfSome task (λ t. t < stream.holders.task_count)
StreamFits stream Clear = Unit {0}
StreamFits stream (Fill bytes) = (stream.bytes ≡ []) × (length bytes ≤ stream.capacity)

-- the bytes that a change carries
abbrev pub stream_saved_bytes : StreamChange → ℕ
stream_saved_bytes (PushBytes bytes) = length bytes
stream_saved_bytes (DropBytes count) = 0
stream_saved_bytes (TakeBytes count) = 0
stream_saved_bytes (UntakeBytes bytes) = length bytes
stream_saved_bytes (SetByte index value) = 0
stream_saved_bytes (SetTrigger trigger) = 0
stream_saved_bytes (SetHolder side task) = 0
stream_saved_bytes Clear = 0
stream_saved_bytes (Fill bytes) = length bytes

-- A change that is undone leaves the buffer as it was, and what undoes it fits. The buffer with the
-- change made is one, for as many tasks and of the same size.
pub record StreamIsUndone (stream : StreamSnapshot) (change : StreamChange) : Type 0 where
  pub back : stream_applied (stream_applied stream change) (stream_inverse_of stream change)
      ≡ stream
  pub fits : StreamFits (stream_applied stream change) (stream_inverse_of stream change)
  pub sized : IsSizedStream (stream_applied stream change)
  pub task_count : (stream_applied stream change).holders.task_count ≡ stream.holders.task_count
  pub capacity : (stream_applied stream change).capacity ≡ stream.capacity

-- whichever change it is, at whichever buffer it fits
abbrev pub EachStreamChangeIsUndone : Type 0
EachStreamChangeIsUndone = (stream : StreamSnapshot) (change : StreamChange)
    → IsSizedStream stream → StreamFits stream change → StreamIsUndone stream change
