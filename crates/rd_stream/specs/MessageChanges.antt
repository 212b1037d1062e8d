-- The primitive changes of a message buffer: what each does, at which buffers it fits, and what
-- undoes it.
use Rattle.std.specs.Prelude.{ℕ, ◌≡◌, ◌+◌, ◌-◌, ◌<◌, ◌≤◌, List, [], ◌∷◌, ◌++◌, length, take, drop}
use Rattle.std.specs.Prelude.{Option, slice_index_or, IfSome}
use Rattle.rd_stream.specs.Holders.{holder_of, with_holder_of}
use Rattle.rd_stream.specs.MessageSnapshot.{MessageSnapshot}
use Rattle.rd_stream.specs.Messages.{all_framed, bytes_held, framed, messages_in, AreMessages}
use Rattle.rd_stream.specs.Messages.{with_message_holders, with_messages}
use Rattle.rd_stream.specs.Sizes.{IsSizedMessageBuffer}
use Rattle.rd_stream.specs.declared.message_change.MessageChange as declared
use Rattle.rd_stream.specs.declared.message_change.MessageChange.TheVariants as borrowed
use Rattle.rd_stream.specs.declared.side.Side.{Side}

-- a primitive change of a message buffer, whatever lends its bytes
pub data MessageChange : Type 0 where
  -- The message goes to the back; the one there leaves.
  Push : List ℕ → MessageChange
  Drop : MessageChange
  -- The message at the front leaves; the message goes there.
  Take : MessageChange
  Untake : List ℕ → MessageChange
  -- The place at the side names the task, or nobody.
  SetHolder : Side → Option ℕ → MessageChange
  -- All messages leave; an empty buffer gets those that lie in these bytes.
  Clear : MessageChange
  Fill : List ℕ → MessageChange

-- the change that one with borrowed bytes is
abbrev pub the_message_change : declared.MessageChange → MessageChange
the_message_change (borrowed.Push front back) = Push (front.now ++ back.now)
the_message_change borrowed.Drop = Drop
the_message_change borrowed.Take = Take
the_message_change (borrowed.Untake front back) = Untake (front.now ++ back.now)
the_message_change (borrowed.SetHolder side task) = SetHolder side task
the_message_change borrowed.Clear = Clear
the_message_change (borrowed.Fill front back) = Fill (front.now ++ back.now)

-- the buffer after a change
abbrev pub message_applied : MessageSnapshot → MessageChange → MessageSnapshot
message_applied buffer (Push message) = with_messages buffer (buffer.messages ++ message ∷ [])
message_applied buffer Drop =
    with_messages buffer (take (length buffer.messages - 1) buffer.messages)
message_applied buffer Take = with_messages buffer (drop 1 buffer.messages)
message_applied buffer (Untake message) = with_messages buffer (message ∷ buffer.messages)
message_applied buffer (SetHolder side task) =
    with_message_holders buffer (with_holder_of side task buffer.holders)
message_applied buffer Clear = with_messages buffer []
message_applied buffer (Fill bytes) = with_messages buffer (messages_in bytes)

-- the change that undoes a change made at this buffer
abbrev pub message_inverse_of : MessageSnapshot → MessageChange → MessageChange
message_inverse_of buffer (Push message) = Drop
message_inverse_of buffer Drop =
    Push (slice_index_or buffer.messages (length buffer.messages - 1) [])
message_inverse_of buffer Take = Untake (slice_index_or buffer.messages 0 [])
message_inverse_of buffer (Untake message) = Take
message_inverse_of buffer (SetHolder side task) = SetHolder side (holder_of side buffer.holders)
message_inverse_of buffer Clear = Fill (all_framed buffer.messages)
message_inverse_of buffer (Fill bytes) = Clear

-- The buffer takes one message more, this one.
abbrev pub HasSpaceForMessage : MessageSnapshot → List ℕ → Type 0
HasSpaceForMessage buffer message =
    (0 < length message)
    × (bytes_held buffer.messages + length (framed message) ≤ buffer.capacity)

-- The change names what is there, and there is space.
abbrev pub MessageFits : MessageSnapshot → MessageChange → Type 0
MessageFits buffer (Push message) = HasSpaceForMessage buffer message
MessageFits buffer Drop = 0 < length buffer.messages
MessageFits buffer Take = 0 < length buffer.messages
MessageFits buffer (Untake message) = HasSpaceForMessage buffer message
MessageFits buffer (SetHolder side task) = IfSome task (λ t. t < buffer.holders.task_count)
MessageFits buffer Clear = Unit {0}
MessageFits buffer (Fill bytes) =
    (buffer.messages ≡ []) × AreMessages bytes × (length bytes ≤ buffer.capacity)

-- the bytes that a change carries
abbrev pub message_saved_bytes : MessageChange → ℕ
message_saved_bytes (Push message) = length message
message_saved_bytes Drop = 0
message_saved_bytes Take = 0
message_saved_bytes (Untake message) = length message
message_saved_bytes (SetHolder side task) = 0
message_saved_bytes Clear = 0
message_saved_bytes (Fill bytes) = length bytes

-- A change that is undone leaves the buffer as it was, and what undoes it fits. The buffer with the
-- change made is one, for as many tasks and of the same size.
pub record MessageIsUndone (buffer : MessageSnapshot) (change : MessageChange) : Type 0 where
  pub back : message_applied (message_applied buffer change) (message_inverse_of buffer change)
      ≡ buffer
  pub fits : MessageFits (message_applied buffer change) (message_inverse_of buffer change)
  pub sized : IsSizedMessageBuffer (message_applied buffer change)
  pub task_count : (message_applied buffer change).holders.task_count ≡ buffer.holders.task_count
  pub capacity : (message_applied buffer change).capacity ≡ buffer.capacity

-- whichever change it is, at whichever buffer it fits
abbrev pub EachMessageChangeIsUndone : Type 0
EachMessageChangeIsUndone = (buffer : MessageSnapshot) (change : MessageChange)
    → IsSizedMessageBuffer buffer → MessageFits buffer change → MessageIsUndone buffer change
