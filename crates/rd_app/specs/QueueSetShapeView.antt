-- What a contract sees of a queue set to be made.
use Rattle.std.specs.Prelude.{ℕ, List}

-- for how many handles there is room, and the queues that are members at boot, by number
pub record QueueSetShapeView : Type 0 where
  pub capacity : ℕ
  pub members : List ℕ
