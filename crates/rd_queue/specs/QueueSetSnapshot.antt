-- What a contract sees of a queue set.
use Rattle.std.specs.Prelude.{ℕ, List}

-- the handles, oldest first, each the number of a queue; how many of them there is room for; how
-- many queues there are; the tasks that wait to select, by number; how many of them there is room
-- for
pub record QueueSetSnapshot : Type 0 where
  pub handles : List ℕ
  pub capacity : ℕ
  pub queue_count : ℕ
  pub waiting : List ℕ
  pub task_count : ℕ
