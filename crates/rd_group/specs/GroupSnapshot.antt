-- What a contract sees of an event group.
use Rattle.std.specs.Prelude.{ℕ, List}
use Rattle.rd_group.specs.declared.wish.Wish.{Wish}

-- the bits; the tasks that wait, by number, in the order of arrival; what each of them waits for,
-- in the same order; how many tasks there is room for
pub record GroupSnapshot : Type 0 where
  pub bits : ℕ
  pub waiting : List ℕ
  pub wishes : List Wish
  pub task_count : ℕ
