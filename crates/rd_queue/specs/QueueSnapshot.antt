-- What a contract sees of a queue.
use Rattle.std.specs.Prelude.{ℕ, List, Option}

-- the items, front first, each a list of bytes; how many of them there is room for; how many bytes
-- each has; the tasks that wait to receive, and to send, by number; how many of them there is room
-- for in each list; the queue set that it is a member of, by number, or none; how many queue sets
-- there are
pub record QueueSnapshot : Type 0 where
  pub items : List (List ℕ)
  pub capacity : ℕ
  pub item_size : ℕ
  pub receiving : List ℕ
  pub sending : List ℕ
  pub task_count : ℕ
  pub queue_set : Option ℕ
  pub queue_set_count : ℕ
