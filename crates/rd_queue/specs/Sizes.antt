-- What holds of every queue, and of every queue set.
use Rattle.std.specs.Prelude.{◌≡◌, ◌<◌, ◌≤◌, length, All, IfSome}
use Rattle.rd_queue.specs.declared.item.TheConstants.{MAX_ITEM_SIZE}
use Rattle.rd_queue.specs.declared.queue.TheConstants.{MAX_ITEMS}
use Rattle.rd_queue.specs.declared.queue_set.TheConstants.{MAX_HANDLES}
use Rattle.rd_queue.specs.QueueSnapshot.{QueueSnapshot}
use Rattle.rd_queue.specs.QueueSetSnapshot.{QueueSetSnapshot}
-- Those that wait are tasks, and no more than there are.
pub use Rattle.rd_wait.specs.Sizes.{IsSizedList}

pub record IsSizedQueue (queue : QueueSnapshot) : Type 0 where
  pub room : length queue.items ≤ queue.capacity
  pub items : All (λ item. length item ≡ queue.item_size) queue.items
  pub some_capacity : 0 < queue.capacity
  pub few : queue.capacity ≤ MAX_ITEMS
  pub some_bytes : 0 < queue.item_size
  pub small : queue.item_size ≤ MAX_ITEM_SIZE
  pub receiving : IsSizedList queue.task_count queue.receiving
  pub sending : IsSizedList queue.task_count queue.sending
  pub queue_set : IfSome queue.queue_set (λ queue_set. queue_set < queue.queue_set_count)

pub record IsSizedQueueSet (queue_set : QueueSetSnapshot) : Type 0 where
  pub room : length queue_set.handles ≤ queue_set.capacity
  pub handles : All (λ queue. queue < queue_set.queue_count) queue_set.handles
  pub some_capacity : 0 < queue_set.capacity
  pub few : queue_set.capacity ≤ MAX_HANDLES
  pub waiting : IsSizedList queue_set.task_count queue_set.waiting
