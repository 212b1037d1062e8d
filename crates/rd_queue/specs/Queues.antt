-- Queues as lists of items and of waiting tasks.
use Rattle.std.specs.Prelude.{ℕ, zero, suc, ◌++◌, ◌/◌, List, [], ◌∷◌, length}
use Rattle.std.specs.Prelude.{take, drop, replicate, Option, None}
use Rattle.rd_queue.specs.declared.waiting_list.WaitingList.{WaitingList}
use Rattle.rd_queue.specs.declared.waiting_list.WaitingList.TheVariants.{Receiving, Sending}
use Rattle.rd_queue.specs.QueueSnapshot.{QueueSnapshot}

-- a new queue in no set, at which that many tasks can wait in each list, among that many sets
abbrev pub empty_queue : ℕ → ℕ → ℕ → ℕ → QueueSnapshot
empty_queue capacity item_size task_count queue_set_count = record {
  items = [];
  capacity = capacity;
  item_size = item_size;
  receiving = [];
  sending = [];
  task_count = task_count;
  queue_set = None;
  queue_set_count = queue_set_count;
}

-- how many items of that size lie in these bytes, one after the other, and which these are
abbrev pub count_in : ℕ → List ℕ → ℕ
count_in size bytes = length bytes / size

abbrev pub first_items : ℕ → ℕ → List ℕ → List (List ℕ)
first_items size zero bytes = []
first_items size (suc count) bytes = take size bytes ∷ first_items size count (drop size bytes)

abbrev pub items_in : ℕ → List ℕ → List (List ℕ)
items_in size bytes = first_items size (count_in size bytes) bytes

-- the queue with these items in place of its own
abbrev pub with_items : QueueSnapshot → List (List ℕ) → QueueSnapshot
with_items queue items = record queue { items = items }

-- the queue as a member of that set, or of none, in place of its own
abbrev pub as_member_of : QueueSnapshot → Option ℕ → QueueSnapshot
as_member_of queue queue_set = record queue { queue_set = queue_set }

-- the tasks of a list
abbrev pub tasks_in_list : WaitingList → QueueSnapshot → List ℕ
tasks_in_list Receiving queue = queue.receiving
tasks_in_list Sending queue = queue.sending

-- who waits to receive, and to send, once these tasks have taken the place of a list's own
abbrev receiving_then : WaitingList → List ℕ → QueueSnapshot → List ℕ
receiving_then Receiving tasks queue = tasks
receiving_then Sending tasks queue = queue.receiving

abbrev sending_then : WaitingList → List ℕ → QueueSnapshot → List ℕ
sending_then Receiving tasks queue = queue.sending
sending_then Sending tasks queue = tasks

-- the queue with these tasks in a list, in place of its own
abbrev pub with_waiting : WaitingList → List ℕ → QueueSnapshot → QueueSnapshot
with_waiting list tasks queue = record queue {
  receiving = receiving_then list tasks queue;
  sending = sending_then list tasks queue;
}

-- the bytes cut, or filled up with zero bytes, to that size: what a send makes of its task's data
abbrev pub fitted : ℕ → List ℕ → List ℕ
fitted size bytes = take size (bytes ++ replicate size 0)
