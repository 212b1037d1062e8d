-- What a contract sees of a tape.
use Rattle.std.specs.Prelude.{ℕ, List}

-- the bytes, for how many there is room, and how many were read so far
pub record TapeView : Type 0 where
  pub bytes : List ℕ
  pub capacity : ℕ
  pub read : ℕ
