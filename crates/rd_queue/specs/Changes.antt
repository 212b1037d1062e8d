-- The primitive changes of a queue: what each does, at which queues it fits, and what undoes it.
use Rattle.std.specs.Prelude.{ℕ, ◌≡◌, ◌-◌, ◌*◌, ◌<◌, ◌≤◌, List, [], ◌∷◌, ◌++◌}
use Rattle.std.specs.Prelude.{length, take, drop, Option}
use Rattle.std.specs.Prelude.{insert, remove, slice_index, slice_index_or, slice_set, IfSome}
use Rattle.std.specs.List.{concat}
use Rattle.rd_queue.specs.declared.end.End.{End}
use Rattle.rd_queue.specs.declared.end.End.TheVariants.{Back, Front}
use Rattle.rd_queue.specs.declared.change.QueueChange as declared
use Rattle.rd_queue.specs.declared.change.QueueChange.TheVariants as borrowed
use Rattle.rd_queue.specs.declared.waiting_list.WaitingList.{WaitingList}
use Rattle.rd_queue.specs.QueueSnapshot.{QueueSnapshot}
use Rattle.rd_queue.specs.Queues.{count_in, items_in, tasks_in_list}
use Rattle.rd_queue.specs.Queues.{with_items, as_member_of, with_waiting}
use Rattle.rd_queue.specs.Sizes.{IsSizedQueue}

-- a primitive change of a queue, whatever lends its bytes; an index counts from the front
pub data QueueChange : Type 0 where
  -- The task is put into the list of those that wait, at the index; and leaves it.
  InsWait : WaitingList → ℕ → ℕ → QueueChange
  DelWait : WaitingList → ℕ → QueueChange
  -- The item goes to the back, and to the front; the item there leaves.
  PutBack : List ℕ → QueueChange
  TakeBack : QueueChange
  PutFront : List ℕ → QueueChange
  TakeFront : QueueChange
  -- The item takes the place of the one at the index.
  SetItem : ℕ → List ℕ → QueueChange
  -- All items leave; an empty queue gets those that these bytes are, one after the other.
  Clear : QueueChange
  Fill : List ℕ → QueueChange
  -- The queue becomes a member of that set, or of none.
  SetMember : Option ℕ → QueueChange

-- the change that one with borrowed bytes is
abbrev pub the_queue_change : declared.QueueChange → QueueChange
the_queue_change (borrowed.InsWait list index task) = InsWait list index task
the_queue_change (borrowed.DelWait list index) = DelWait list index
the_queue_change (borrowed.PutBack item) = PutBack item.now
the_queue_change borrowed.TakeBack = TakeBack
the_queue_change (borrowed.PutFront item) = PutFront item.now
the_queue_change borrowed.TakeFront = TakeFront
the_queue_change (borrowed.SetItem index item) = SetItem index item.now
the_queue_change borrowed.Clear = Clear
the_queue_change (borrowed.Fill front back) = Fill (front.now ++ back.now)
the_queue_change (borrowed.SetMember queue_set) = SetMember queue_set

-- the queue after a change
abbrev pub queue_applied : QueueSnapshot → QueueChange → QueueSnapshot
queue_applied queue (InsWait list index task) =
    with_waiting list (insert (tasks_in_list list queue) index task) queue
queue_applied queue (DelWait list index) =
    with_waiting list (remove (tasks_in_list list queue) index) queue
queue_applied queue (PutBack item) = with_items queue (queue.items ++ item ∷ [])
queue_applied queue TakeBack = with_items queue (take (length queue.items - 1) queue.items)
queue_applied queue (PutFront item) = with_items queue (item ∷ queue.items)
queue_applied queue TakeFront = with_items queue (drop 1 queue.items)
queue_applied queue (SetItem index item) = with_items queue (slice_set queue.items index item)
queue_applied queue Clear = with_items queue []
queue_applied queue (Fill bytes) = with_items queue (items_in queue.item_size bytes)
queue_applied queue (SetMember queue_set) = as_member_of queue queue_set

-- the change that undoes a change made at this queue
abbrev pub queue_inverse_of : QueueSnapshot → QueueChange → QueueChange
queue_inverse_of queue (InsWait list index task) = DelWait list index
queue_inverse_of queue (DelWait list index) =
    InsWait list index (slice_index (tasks_in_list list queue) index)
queue_inverse_of queue (PutBack item) = TakeBack
queue_inverse_of queue TakeBack =
    PutBack (slice_index_or queue.items (length queue.items - 1) [])
queue_inverse_of queue (PutFront item) = TakeFront
queue_inverse_of queue TakeFront = PutFront (slice_index_or queue.items 0 [])
queue_inverse_of queue (SetItem index item) = SetItem index (slice_index_or queue.items index [])
queue_inverse_of queue Clear = Fill (concat queue.items)
queue_inverse_of queue (Fill bytes) = Clear
queue_inverse_of queue (SetMember queue_set) = SetMember queue.queue_set

-- the change that puts an item at an end
abbrev pub put_at : End → List ℕ → QueueChange
put_at Back item = PutBack item
put_at Front item = PutFront item

-- The queue takes one more item, this one.
abbrev pub HasSpaceFor : QueueSnapshot → List ℕ → Type 0
HasSpaceFor queue item =
    (length queue.items < queue.capacity) × (length item ≡ queue.item_size)

-- The bytes are whole items, one after the other, and the queue has space for them all.
pub record HasSpaceForAll (queue : QueueSnapshot) (bytes : List ℕ) : Type 0 where
  pub empty : queue.items ≡ []
  pub whole : length bytes ≡ count_in queue.item_size bytes * queue.item_size
  pub space : count_in queue.item_size bytes ≤ queue.capacity

-- The change names what is there, and there is space.
abbrev pub QueueFits : QueueSnapshot → QueueChange → Type 0
QueueFits queue (InsWait list index task) =
    (index ≤ length (tasks_in_list list queue))
    × (length (tasks_in_list list queue) < queue.task_count)
    × (task < queue.task_count)
QueueFits queue (DelWait list index) = index < length (tasks_in_list list queue)
QueueFits queue (PutBack item) = HasSpaceFor queue item
QueueFits queue TakeBack = 0 < length queue.items
QueueFits queue (PutFront item) = HasSpaceFor queue item
QueueFits queue TakeFront = 0 < length queue.items
QueueFits queue (SetItem index item) =
    (index < length queue.items) × (length item ≡ queue.item_size)
QueueFits queue Clear = Unit {0}
QueueFits queue (Fill bytes) = HasSpaceForAll queue bytes
QueueFits queue (SetMember queue_set) = IfSome queue_set (λ s. s < queue.queue_set_count)

-- the bytes that a change carries
abbrev pub queue_saved_bytes : QueueChange → ℕ
queue_saved_bytes (InsWait list index task) = 0
queue_saved_bytes (DelWait list index) = 0
queue_saved_bytes (PutBack item) = length item
queue_saved_bytes TakeBack = 0
queue_saved_bytes (PutFront item) = length item
queue_saved_bytes TakeFront = 0
queue_saved_bytes (SetItem index item) = length item
queue_saved_bytes Clear = 0
queue_saved_bytes (Fill bytes) = length bytes
queue_saved_bytes (SetMember queue_set) = 0

-- A change that is undone leaves the queue as it was, and what undoes it fits. The queue with the
-- change made is one, with room for as many tasks, among as many sets.
pub record QueueIsUndone (queue : QueueSnapshot) (change : QueueChange) : Type 0 where
  pub back : queue_applied (queue_applied queue change) (queue_inverse_of queue change) ≡ queue
  pub fits : QueueFits (queue_applied queue change) (queue_inverse_of queue change)
  pub sized : IsSizedQueue (queue_applied queue change)
  pub task_count : (queue_applied queue change).task_count ≡ queue.task_count
  pub queue_set_count : (queue_applied queue change).queue_set_count ≡ queue.queue_set_count

-- whichever change it is, at whichever queue it fits
abbrev pub EachQueueChangeIsUndone : Type 0
EachQueueChangeIsUndone = (queue : QueueSnapshot) (change : QueueChange) → IsSizedQueue queue
    → QueueFits queue change → QueueIsUndone queue change
