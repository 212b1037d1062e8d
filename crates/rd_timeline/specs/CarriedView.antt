-- What a contract sees of what moves carry, as it is kept.
use Rattle.std.specs.Prelude.{ℕ, List}
use Rattle.rd_moves.specs.Carried.{PlainCarried}

-- what the moves done carry, in order, what the moves undone carry, that of the one to be redone
-- next first, and for how many moves done there is room that carry something
pub record CarriedView : Type 0 where
  pub done : List PlainCarried
  pub undone : List PlainCarried
  pub capacity : ℕ
