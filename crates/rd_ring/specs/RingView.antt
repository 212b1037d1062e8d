-- What a contract sees of a ring of bytes.
use Rattle.std.specs.Prelude.{ℕ, List}

-- the bytes, front first; how many of them there is room for; the offset in the memory at which the
-- front lies, the first being 0
pub record RingView : Type 0 where
  pub bytes : List ℕ
  pub capacity : ℕ
  pub start : ℕ
