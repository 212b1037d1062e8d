-- Rings that hold the items of a queue, one after the other.
use Rattle.std.specs.Prelude.{ℕ, ◌≡◌, ◌*◌, ◌≤◌, length}
use Rattle.rd_ring.specs.RingView.{RingView}
use Rattle.rd_ring.specs.Rings.{HasWholePieces}
use Rattle.rd_queue.specs.Queues.{count_in}

-- The ring's bytes are whole items of that size, and it has room for so many of them, none of which
-- is split at the end of its memory.
pub record HoldsItems (ring : RingView) (capacity item_size : ℕ) : Type 0 where
  pub whole : length ring.bytes ≡ count_in item_size ring.bytes * item_size
  pub room : count_in item_size ring.bytes ≤ capacity
  pub reserved : ring.capacity ≡ capacity * item_size
  pub pieces : HasWholePieces ring item_size
