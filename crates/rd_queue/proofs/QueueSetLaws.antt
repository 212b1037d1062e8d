-- Changes of a queue set, undone each by its inverse.
use Rattle.std.proofs.Common.{◌≡◌, ℕ, ◌-◌, ◌<◌, ◌≤◌, List, [], ◌∷◌, ◌++◌, length, take, drop, refl, ap, sym, arith}
use Rattle.std.proofs.lemmas.List.{length_push, length-take-le, length-drop, drop_more}
use Rattle.std.proofs.lemmas.List.Edits.{length-insert}
use Rattle.std.proofs.lemmas.List.Elements.{All-get_or, All-cons, All-push, All-take, All-drop}
use Rattle.std.specs.Prelude.{All, insert, remove}
use Rattle.rd_queue.specs.declared.queue_set_change.QueueSetChange.{QueueSetChange}
use Rattle.rd_queue.specs.declared.queue_set_change.QueueSetChange.TheVariants.{InsWait, DelWait, PushHandle, DropHandle, TakeHandle, UntakeHandle}
use Rattle.rd_queue.specs.QueueSetSnapshot.{QueueSetSnapshot}
use Rattle.rd_queue.specs.QueueSets.{with_handles, with_waiting_tasks}
use Rattle.rd_queue.specs.Sizes.{IsSizedList, IsSizedQueueSet}
use Rattle.rd_queue.specs.QueueSetChanges.{queue_set_applied, queue_set_inverse_of, QueueSetFits, EachQueueSetChangeIsUndone}
use Rattle.rd_queue.proofs.SharedLaws.{last_taken_after_push, last_pushed_after_take}
use Rattle.rd_wait.proofs.Offered.{remove-insert, insert-remove, inserted_sized, removed_sized, room_after}

-- ---- what undoes a change

undoes : (queue_set : QueueSetSnapshot) (change : QueueSetChange) → QueueSetFits queue_set change → queue_set_applied (queue_set_applied queue_set change) (queue_set_inverse_of queue_set change) ≡ queue_set
undoes queue_set (InsWait index task) fits = ap (λ tasks. with_waiting_tasks queue_set tasks) (remove-insert queue_set.waiting index task fits.0)
undoes queue_set (DelWait index) fits = ap (λ tasks. with_waiting_tasks queue_set tasks) (insert-remove queue_set.waiting index 0 fits)
undoes queue_set (PushHandle queue) fits = ap (λ handles. with_handles queue_set handles) (last_taken_after_push queue_set.handles queue)
undoes queue_set DropHandle fits = ap (λ handles. with_handles queue_set handles) (last_pushed_after_take queue_set.handles 0 fits)
undoes queue_set TakeHandle fits = ap (λ handles. with_handles queue_set handles) (sym (drop_more queue_set.handles 0 0 fits))
undoes queue_set (UntakeHandle queue) fits = refl

-- ---- sizes

-- the set with other waiting tasks, and with other handles
waiting_sized : (queue_set : QueueSetSnapshot) (waiting : List ℕ) → IsSizedQueueSet queue_set → IsSizedList queue_set.task_count waiting → IsSizedQueueSet (with_waiting_tasks queue_set waiting)
waiting_sized queue_set waiting sized few =
    record { room = sized.room; handles = sized.handles; some_capacity = sized.some_capacity; few = sized.few; waiting = few }

handles_sized : (queue_set : QueueSetSnapshot) (handles : List ℕ) → IsSizedQueueSet queue_set → length handles ≤ queue_set.capacity → All (λ queue. queue < queue_set.queue_count) handles
    → IsSizedQueueSet (with_handles queue_set handles)
handles_sized queue_set handles sized few all =
    record { room = few; handles = all; some_capacity = sized.some_capacity; few = sized.few; waiting = sized.waiting }

sized_then : (queue_set : QueueSetSnapshot) (change : QueueSetChange) → IsSizedQueueSet queue_set → QueueSetFits queue_set change → IsSizedQueueSet (queue_set_applied queue_set change)
sized_then queue_set (InsWait index task) sized fits =
    waiting_sized queue_set (insert queue_set.waiting index task) sized (inserted_sized queue_set.task_count queue_set.waiting index task sized.waiting fits.0 fits.1 fits.2)
sized_then queue_set (DelWait index) sized fits = waiting_sized queue_set (remove queue_set.waiting index) sized (removed_sized queue_set.task_count queue_set.waiting index sized.waiting fits)
sized_then queue_set (PushHandle queue) sized fits =
    handles_sized queue_set (queue_set.handles ++ queue ∷ []) sized (omega (arith, length_push queue_set.handles queue, fits.0))
    (All-push (λ q. q < queue_set.queue_count) queue_set.handles queue sized.handles fits.1)
sized_then queue_set DropHandle sized fits =
    let count = length queue_set.handles - 1 in
    handles_sized queue_set (take count queue_set.handles) sized (omega (arith, length-take-le count queue_set.handles (omega arith), sized.room))
    (All-take (λ q. q < queue_set.queue_count) count queue_set.handles sized.handles)
sized_then queue_set TakeHandle sized fits =
    handles_sized queue_set (drop 1 queue_set.handles) sized (omega (arith, length-drop 1 queue_set.handles, sized.room))
    (All-drop (λ q. q < queue_set.queue_count) 1 queue_set.handles sized.handles)
sized_then queue_set (UntakeHandle queue) sized fits =
    handles_sized queue_set (queue ∷ queue_set.handles) sized (omega (arith, fits.0)) (All-cons (λ q. q < queue_set.queue_count) queue queue_set.handles fits.1 sized.handles)

-- ---- the inverse fits

inverse_fits : (queue_set : QueueSetSnapshot) (change : QueueSetChange) → IsSizedQueueSet queue_set → QueueSetFits queue_set change → QueueSetFits (queue_set_applied queue_set change) (queue_set_inverse_of queue_set change)
inverse_fits queue_set (InsWait index task) sized fits = omega (arith, length-insert queue_set.waiting index task fits.0)
inverse_fits queue_set (DelWait index) sized fits = room_after queue_set.task_count queue_set.waiting index sized.waiting fits
inverse_fits queue_set (PushHandle queue) sized fits = omega (arith, length_push queue_set.handles queue)
inverse_fits queue_set DropHandle sized fits =
    let count = length queue_set.handles - 1 in (
      omega (arith, length-take-le count queue_set.handles (omega arith), sized.room, fits),
      All-get_or (λ q. q < queue_set.queue_count) queue_set.handles count 0 (omega (arith, fits)) sized.handles,
    )
inverse_fits queue_set TakeHandle sized fits =
    (omega (arith, length-drop 1 queue_set.handles, sized.room, fits), All-get_or (λ q. q < queue_set.queue_count) queue_set.handles 0 0 fits sized.handles)
inverse_fits queue_set (UntakeHandle queue) sized fits = omega arith

-- Room to wait for as many tasks, for as many queues.
same_numbers : (queue_set : QueueSetSnapshot) (change : QueueSetChange) → ((queue_set_applied queue_set change).task_count ≡ queue_set.task_count) × ((queue_set_applied queue_set change).queue_count ≡ queue_set.queue_count)
same_numbers queue_set (InsWait index task) = (refl, refl)
same_numbers queue_set (DelWait index) = (refl, refl)
same_numbers queue_set (PushHandle queue) = (refl, refl)
same_numbers queue_set DropHandle = (refl, refl)
same_numbers queue_set TakeHandle = (refl, refl)
same_numbers queue_set (UntakeHandle queue) = (refl, refl)

pub queue_set_change_is_undone : EachQueueSetChangeIsUndone
queue_set_change_is_undone queue_set change sized fits = record {
  back = undoes queue_set change fits;
  fits = inverse_fits queue_set change sized fits;
  sized = sized_then queue_set change sized fits;
  task_count = (same_numbers queue_set change).0;
  queue_count = (same_numbers queue_set change).1;
}
