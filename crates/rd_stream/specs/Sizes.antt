-- What holds of every stream buffer, and of every message buffer.
use Rattle.std.specs.Prelude.{◌<◌, ◌≤◌, length, All}
use Rattle.rd_stream.specs.declared.message_buf.TheConstants.{MAX_MESSAGE_BUFFER_SIZE}
use Rattle.rd_stream.specs.declared.stream_buf.TheConstants.{MAX_STREAM_SIZE}
use Rattle.rd_stream.specs.Holders.{IsSizedHolders}
use Rattle.rd_stream.specs.MessageSnapshot.{MessageSnapshot}
use Rattle.rd_stream.specs.Messages.{bytes_held}
use Rattle.rd_stream.specs.StreamSnapshot.{StreamSnapshot}

pub record IsSizedStream (stream : StreamSnapshot) : Type 0 where
  pub room : length stream.bytes ≤ stream.capacity
  pub few : stream.capacity ≤ MAX_STREAM_SIZE
  pub some_trigger : 0 < stream.trigger
  pub trigger : stream.trigger ≤ stream.capacity
  pub holders : IsSizedHolders stream.holders

pub record IsSizedMessageBuffer (buffer : MessageSnapshot) : Type 0 where
  pub room : bytes_held buffer.messages ≤ buffer.capacity
  pub messages : All (λ message. 0 < length message) buffer.messages
  pub few : buffer.capacity ≤ MAX_MESSAGE_BUFFER_SIZE
  pub holders : IsSizedHolders buffer.holders
