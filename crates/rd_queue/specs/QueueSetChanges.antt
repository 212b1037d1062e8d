-- The primitive changes of a queue set: what each does, at which sets it fits, and what undoes it.
use Rattle.std.specs.Prelude.{ℕ, ◌≡◌, ◌-◌, ◌<◌, ◌≤◌, [], ◌∷◌, ◌++◌, length, take, drop}
use Rattle.std.specs.Prelude.{insert, remove, slice_index}
use Rattle.rd_queue.specs.declared.queue_set_change.QueueSetChange.{QueueSetChange}
use Rattle.rd_queue.specs.declared.queue_set_change.QueueSetChange.TheVariants.{InsWait, DelWait}
use Rattle.rd_queue.specs.declared.queue_set_change.QueueSetChange.TheVariants.{PushHandle}
use Rattle.rd_queue.specs.declared.queue_set_change.QueueSetChange.TheVariants.{DropHandle}
use Rattle.rd_queue.specs.declared.queue_set_change.QueueSetChange.TheVariants.{TakeHandle}
use Rattle.rd_queue.specs.declared.queue_set_change.QueueSetChange.TheVariants.{UntakeHandle}
use Rattle.rd_queue.specs.QueueSetSnapshot.{QueueSetSnapshot}
use Rattle.rd_queue.specs.QueueSets.{with_handles, with_waiting_tasks}
use Rattle.rd_queue.specs.Sizes.{IsSizedQueueSet}

-- the set after a change
abbrev pub queue_set_applied : QueueSetSnapshot → QueueSetChange → QueueSetSnapshot
queue_set_applied queue_set (InsWait index task) =
    with_waiting_tasks queue_set (insert queue_set.waiting index task)
queue_set_applied queue_set (DelWait index) =
    with_waiting_tasks queue_set (remove queue_set.waiting index)
queue_set_applied queue_set (PushHandle queue) =
    with_handles queue_set (queue_set.handles ++ queue ∷ [])
queue_set_applied queue_set DropHandle =
    with_handles queue_set (take (length queue_set.handles - 1) queue_set.handles)
queue_set_applied queue_set TakeHandle = with_handles queue_set (drop 1 queue_set.handles)
queue_set_applied queue_set (UntakeHandle queue) =
    with_handles queue_set (queue ∷ queue_set.handles)

-- the change that undoes a change made at this set
abbrev pub queue_set_inverse_of : QueueSetSnapshot → QueueSetChange → QueueSetChange
queue_set_inverse_of queue_set (InsWait index task) = DelWait index
queue_set_inverse_of queue_set (DelWait index) = InsWait index (slice_index queue_set.waiting index)
queue_set_inverse_of queue_set (PushHandle queue) = DropHandle
queue_set_inverse_of queue_set DropHandle =
    PushHandle (slice_index queue_set.handles (length queue_set.handles - 1))
queue_set_inverse_of queue_set TakeHandle = UntakeHandle (slice_index queue_set.handles 0)
queue_set_inverse_of queue_set (UntakeHandle queue) = TakeHandle

-- The set takes one more handle, that of this queue.
abbrev pub HasSpaceForHandle : QueueSetSnapshot → ℕ → Type 0
HasSpaceForHandle queue_set queue =
    (length queue_set.handles < queue_set.capacity) × (queue < queue_set.queue_count)

-- The change names what is there, and there is space.
abbrev pub QueueSetFits : QueueSetSnapshot → QueueSetChange → Type 0
QueueSetFits queue_set (InsWait index task) =
    (index ≤ length queue_set.waiting) × (length queue_set.waiting < queue_set.task_count)
    × (task < queue_set.task_count)
QueueSetFits queue_set (DelWait index) = index < length queue_set.waiting
QueueSetFits queue_set (PushHandle queue) = HasSpaceForHandle queue_set queue
QueueSetFits queue_set DropHandle = 0 < length queue_set.handles
QueueSetFits queue_set TakeHandle = 0 < length queue_set.handles
QueueSetFits queue_set (UntakeHandle queue) = HasSpaceForHandle queue_set queue

-- A change that is undone leaves the set as it was, and what undoes it fits. The set with the
-- change made is one, with room for as many tasks, for handles of as many queues.
pub record QueueSetIsUndone (queue_set : QueueSetSnapshot) (change : QueueSetChange) : Type 0 where
  pub back : queue_set_applied (queue_set_applied queue_set change)
      (queue_set_inverse_of queue_set change) ≡ queue_set
  pub fits : QueueSetFits (queue_set_applied queue_set change)
      (queue_set_inverse_of queue_set change)
  pub sized : IsSizedQueueSet (queue_set_applied queue_set change)
  pub task_count : (queue_set_applied queue_set change).task_count ≡ queue_set.task_count
  pub queue_count : (queue_set_applied queue_set change).queue_count ≡ queue_set.queue_count

-- whichever change it is, at whichever set it fits
abbrev pub EachQueueSetChangeIsUndone : Type 0
EachQueueSetChangeIsUndone =
    (queue_set : QueueSetSnapshot) (change : QueueSetChange) → IsSizedQueueSet queue_set
    → QueueSetFits queue_set change → QueueSetIsUndone queue_set change
