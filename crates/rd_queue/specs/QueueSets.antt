-- Queue sets as lists of handles and of waiting tasks.
use Rattle.std.specs.Prelude.{ℕ, List, []}
use Rattle.rd_queue.specs.QueueSetSnapshot.{QueueSetSnapshot}

-- a new set for handles of that many queues, at which that many tasks can wait
abbrev pub empty_queue_set : ℕ → ℕ → ℕ → QueueSetSnapshot
empty_queue_set capacity queue_count task_count = record {
  handles = [];
  capacity = capacity;
  queue_count = queue_count;
  waiting = [];
  task_count = task_count;
}

-- the set with these handles, and with these waiting tasks, in place of its own
abbrev pub with_handles : QueueSetSnapshot → List ℕ → QueueSetSnapshot
with_handles queue_set handles = record queue_set { handles = handles }

abbrev pub with_waiting_tasks : QueueSetSnapshot → List ℕ → QueueSetSnapshot
with_waiting_tasks queue_set waiting = record queue_set { waiting = waiting }
