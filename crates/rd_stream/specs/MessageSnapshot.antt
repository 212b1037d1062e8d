-- What a contract sees of a message buffer.
use Rattle.std.specs.Prelude.{ℕ, List}
use Rattle.rd_stream.specs.Holders.{HoldersView}

-- the messages, the one to be read first in front, each a list of bytes; how many bytes there is
-- room for, of which each message takes four more than it has; whom the places name
pub record MessageSnapshot : Type 0 where
  pub messages : List (List ℕ)
  pub capacity : ℕ
  pub holders : HoldersView
