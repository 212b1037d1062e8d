-- Rings that hold messages, one after the other.
use Rattle.std.specs.Prelude.{ℕ, ◌≡◌, length}
use Rattle.rd_ring.specs.RingView.{RingView}
use Rattle.rd_stream.specs.Messages.{messages_in, AreMessages}

-- The ring's bytes are so many messages.
pub record HoldsMessages (ring : RingView) (n : ℕ) : Type 0 where
  pub messages : AreMessages ring.bytes
  pub count : length (messages_in ring.bytes) ≡ n
