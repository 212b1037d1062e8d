-- What a contract sees of the memory of a session.
use Rattle.std.specs.Prelude.{ℕ, List}

-- the answers that weren't written yet, and for how many bytes of them there is room in all; how
-- many lines were begun, and the answers of how many of them are out
pub record PendingView : Type 0 where
  pub bytes : List ℕ
  pub capacity : ℕ
  pub begun : ℕ
  pub out : ℕ

-- the bytes that were read and not answered yet, and the answers that weren't written yet
pub record BuffersView : Type 0 where
  pub held : List ℕ
  pub pending : List ℕ
