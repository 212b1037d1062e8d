-- What a contract sees of a list of waiting tasks.
use Rattle.std.specs.Prelude.{ℕ, List}

-- the tasks by number, front first, and how many of them there is room for
pub record TaskList : Type 0 where
  pub tasks : List ℕ
  pub capacity : ℕ
