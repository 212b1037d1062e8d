-- What a contract sees of bytes that are put in and taken out at their end.
use Rattle.std.specs.Prelude.{ℕ, List}

-- the bytes, and for how many there is room without more memory
pub record StackView : Type 0 where
  pub bytes : List ℕ
  pub capacity : ℕ
