-- What a contract sees of a stream buffer.
use Rattle.std.specs.Prelude.{ℕ, List}
use Rattle.rd_stream.specs.Holders.{HoldersView}

-- the bytes, those to be read first in front; how many of them there is room for; how many there
-- have to be for a write to complete a reader's wait; whom the places name
pub record StreamSnapshot : Type 0 where
  pub bytes : List ℕ
  pub capacity : ℕ
  pub trigger : ℕ
  pub holders : HoldersView
