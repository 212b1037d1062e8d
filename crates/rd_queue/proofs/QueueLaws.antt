-- Changes of a queue, undone each by its inverse.
use Rattle.std.proofs.Common.{◌≡◌, ◌∙◌, ℕ, ◌-◌, ◌*◌, ◌<◌, ◌≤◌, List, [], ◌∷◌, ◌++◌, length, get_or, set, take, drop, refl, ap, sym, arith}
use Rattle.std.proofs.lemmas.List.{length_push, length-set, drop_more}
use Rattle.std.proofs.lemmas.List.{length-take-le, length-drop}
use Rattle.std.proofs.lemmas.List.Edits.{length-insert}
use Rattle.std.proofs.lemmas.List.Elements.{All-get_or, All-nil, All-cons, All-push, All-set, All-take, All-drop}
use Rattle.std.specs.Prelude.{All, insert, remove, Option, IfSome}
use Rattle.rd_queue.specs.Changes.{QueueChange}
use Rattle.rd_queue.specs.Changes.{InsWait, DelWait, PutBack, TakeBack, PutFront, TakeFront, SetItem, Clear, Fill, SetMember}
use Rattle.rd_queue.specs.declared.waiting_list.WaitingList.{WaitingList}
use Rattle.rd_queue.specs.declared.waiting_list.WaitingList.TheVariants.{Receiving, Sending}
use Rattle.rd_queue.specs.QueueSnapshot.{QueueSnapshot}
use Rattle.rd_queue.specs.Queues.{count_in, items_in, tasks_in_list, with_items, as_member_of, with_waiting}
use Rattle.rd_queue.specs.Sizes.{IsSizedList, IsSizedQueue}
use Rattle.rd_queue.specs.Changes.{queue_applied, queue_inverse_of, QueueFits, EachQueueChangeIsUndone}
use Rattle.rd_queue.proofs.ItemLaws.{All-first_items, length-first_items, length-concat, count_in-concat, items_in-concat}
use Rattle.rd_queue.proofs.SharedLaws.{last_taken_after_push, last_pushed_after_take}
use Rattle.rd_wait.proofs.Offered.{remove-insert, insert-remove, set_back, inserted_sized, removed_sized, room_after}

-- ---- what undoes a change

undoes : (queue : QueueSnapshot) (change : QueueChange) → IsSizedQueue queue → QueueFits queue change
    → queue_applied (queue_applied queue change) (queue_inverse_of queue change) ≡ queue
undoes queue (InsWait Receiving index task) sized fits = ap (λ (ts : List ℕ). with_waiting Receiving ts queue) (remove-insert queue.receiving index task fits.0)
undoes queue (InsWait Sending index task) sized fits = ap (λ (ts : List ℕ). with_waiting Sending ts queue) (remove-insert queue.sending index task fits.0)
undoes queue (DelWait Receiving index) sized fits = ap (λ (ts : List ℕ). with_waiting Receiving ts queue) (insert-remove queue.receiving index 0 fits)
undoes queue (DelWait Sending index) sized fits = ap (λ (ts : List ℕ). with_waiting Sending ts queue) (insert-remove queue.sending index 0 fits)
undoes queue (PutBack item) sized fits = ap (λ items. with_items queue items) (last_taken_after_push queue.items item)
undoes queue TakeBack sized fits = ap (λ items. with_items queue items) (last_pushed_after_take queue.items [] fits)
undoes queue (PutFront item) sized fits = refl
undoes queue TakeFront sized fits = ap (λ items. with_items queue items) (sym (drop_more queue.items 0 [] fits))
undoes queue (SetItem index item) sized fits =
    ap (λ items. with_items queue items) (set_back queue.items index [] item)
undoes queue Clear sized fits = ap (λ items. with_items queue items) (items_in-concat queue.item_size queue.items sized.some_bytes sized.items)
undoes queue (Fill bytes) sized fits = ap (λ items. with_items queue items) (sym fits.empty)
undoes queue (SetMember queue_set) sized fits = refl

-- ---- sizes

-- a list of a queue
list_sized : (queue : QueueSnapshot) (list : WaitingList) → IsSizedQueue queue → IsSizedList queue.task_count (tasks_in_list list queue)
list_sized queue Receiving sized = sized.receiving
list_sized queue Sending sized = sized.sending

-- the queue with these items and waiting tasks, and in that set or in none
parts_sized : (queue : QueueSnapshot) (items : List (List ℕ)) (receiving sending : List ℕ) (queue_set : Option ℕ) → IsSizedQueue queue
    → length items ≤ queue.capacity → All (λ item. length item ≡ queue.item_size) items → IsSizedList queue.task_count receiving → IsSizedList queue.task_count sending
    → IfSome queue_set (λ s. s < queue.queue_set_count) → IsSizedQueue (record queue { items = items; receiving = receiving; sending = sending; queue_set = queue_set })
parts_sized queue items receiving sending queue_set sized few all receivers senders there = record {
  room = few;
  items = all;
  some_capacity = sized.some_capacity;
  few = sized.few;
  some_bytes = sized.some_bytes;
  small = sized.small;
  receiving = receivers;
  sending = senders;
  queue_set = there;
}

-- the queue with other tasks in a list, with other items, and in another set or in none
waiting_sized : (queue : QueueSnapshot) (list : WaitingList) (waiting : List ℕ) → IsSizedQueue queue → IsSizedList queue.task_count waiting
    → IsSizedQueue (with_waiting list waiting queue)
waiting_sized queue Receiving waiting sized few =
    parts_sized queue queue.items waiting queue.sending queue.queue_set sized sized.room sized.items few sized.sending sized.queue_set
waiting_sized queue Sending waiting sized few =
    parts_sized queue queue.items queue.receiving waiting queue.queue_set sized sized.room sized.items sized.receiving few sized.queue_set

items_sized : (queue : QueueSnapshot) (items : List (List ℕ)) → IsSizedQueue queue → length items ≤ queue.capacity
    → All (λ item. length item ≡ queue.item_size) items → IsSizedQueue (with_items queue items)
items_sized queue items sized few all =
    parts_sized queue items queue.receiving queue.sending queue.queue_set sized few all sized.receiving sized.sending sized.queue_set

queue_set_sized : (queue : QueueSnapshot) (queue_set : Option ℕ) → IsSizedQueue queue → IfSome queue_set (λ s. s < queue.queue_set_count) → IsSizedQueue (as_member_of queue queue_set)
queue_set_sized queue queue_set sized there =
    parts_sized queue queue.items queue.receiving queue.sending queue_set sized sized.room sized.items sized.receiving sized.sending there

sized_then : (queue : QueueSnapshot) (change : QueueChange) → IsSizedQueue queue → QueueFits queue change → IsSizedQueue (queue_applied queue change)
sized_then queue (InsWait list index task) sized fits =
    let waiting = tasks_in_list list queue in
    waiting_sized queue list (insert waiting index task) sized
    (inserted_sized queue.task_count waiting index task (list_sized queue list sized) fits.0 fits.1 fits.2)
sized_then queue (DelWait list index) sized fits =
    let waiting = tasks_in_list list queue in
    waiting_sized queue list (remove waiting index) sized (removed_sized queue.task_count waiting index (list_sized queue list sized) fits)
sized_then queue (PutBack item) sized fits =
    items_sized queue (queue.items ++ item ∷ []) sized (omega (arith, length_push queue.items item, fits.0))
    (All-push (λ (i : List ℕ). length i ≡ queue.item_size) queue.items item sized.items fits.1)
sized_then queue TakeBack sized fits =
    let count = length queue.items - 1 in
    items_sized queue (take count queue.items) sized (omega (arith, length-take-le count queue.items (omega arith), sized.room))
    (All-take (λ (i : List ℕ). length i ≡ queue.item_size) count queue.items sized.items)
sized_then queue (PutFront item) sized fits =
    items_sized queue (item ∷ queue.items) sized (omega (arith, fits.0))
    (All-cons (λ (i : List ℕ). length i ≡ queue.item_size) item queue.items fits.1 sized.items)
sized_then queue TakeFront sized fits =
    items_sized queue (drop 1 queue.items) sized (omega (arith, length-drop 1 queue.items, sized.room))
    (All-drop (λ (i : List ℕ). length i ≡ queue.item_size) 1 queue.items sized.items)
sized_then queue (SetItem index item) sized fits =
    items_sized queue (set queue.items index item) sized (omega (arith, length-set queue.items index item, sized.room))
    (All-set (λ (i : List ℕ). length i ≡ queue.item_size) queue.items index item fits.1 sized.items)
sized_then queue Clear sized fits = items_sized queue [] sized (omega arith) (All-nil (λ (i : List ℕ). length i ≡ queue.item_size))
sized_then queue (Fill bytes) sized fits =
    let count = count_in queue.item_size bytes in
    items_sized queue (items_in queue.item_size bytes) sized (omega (arith, length-first_items queue.item_size count bytes, fits.space))
    (All-first_items queue.item_size count bytes fits.whole)
sized_then queue (SetMember queue_set) sized fits = queue_set_sized queue queue_set sized fits

-- ---- the inverse fits

-- an item of a queue has its size
item_sized : (queue : QueueSnapshot) (index : ℕ) → IsSizedQueue queue → index < length queue.items → length (get_or queue.items index []) ≡ queue.item_size
item_sized queue index sized there = All-get_or (λ (i : List ℕ). length i ≡ queue.item_size) queue.items index [] there sized.items

inverse_fits : (queue : QueueSnapshot) (change : QueueChange) → IsSizedQueue queue → QueueFits queue change
    → QueueFits (queue_applied queue change) (queue_inverse_of queue change)
inverse_fits queue (InsWait Receiving index task) sized fits = omega (arith, length-insert queue.receiving index task fits.0)
inverse_fits queue (InsWait Sending index task) sized fits = omega (arith, length-insert queue.sending index task fits.0)
inverse_fits queue (DelWait Receiving index) sized fits = room_after queue.task_count queue.receiving index sized.receiving fits
inverse_fits queue (DelWait Sending index) sized fits = room_after queue.task_count queue.sending index sized.sending fits
inverse_fits queue (PutBack item) sized fits = omega (arith, length_push queue.items item)
inverse_fits queue TakeBack sized fits =
    let count = length queue.items - 1 in
    (omega (arith, length-take-le count queue.items (omega arith), sized.room, fits), item_sized queue count sized (omega (arith, fits)))
inverse_fits queue (PutFront item) sized fits = omega arith
inverse_fits queue TakeFront sized fits =
    (omega (arith, length-drop 1 queue.items, sized.room, fits), item_sized queue 0 sized fits)
inverse_fits queue (SetItem index item) sized fits = (omega (arith, length-set queue.items index item, fits.0), item_sized queue index sized fits.0)
inverse_fits queue Clear sized fits =
    let count = count_in-concat queue.item_size queue.items sized.some_bytes sized.items in
    record {
      empty = refl;
      whole = length-concat queue.item_size queue.items sized.items ∙ ap (λ n. n * queue.item_size) (sym count);
      space = omega (arith, count, sized.room);
    }
inverse_fits queue (Fill bytes) sized fits = tt
inverse_fits queue (SetMember queue_set) sized fits = sized.queue_set

-- Room to wait for as many tasks, among as many sets.
same_numbers : (queue : QueueSnapshot) (change : QueueChange)
    → ((queue_applied queue change).task_count ≡ queue.task_count) × ((queue_applied queue change).queue_set_count ≡ queue.queue_set_count)
same_numbers queue (InsWait list index task) = (refl, refl)
same_numbers queue (DelWait list index) = (refl, refl)
same_numbers queue (PutBack item) = (refl, refl)
same_numbers queue TakeBack = (refl, refl)
same_numbers queue (PutFront item) = (refl, refl)
same_numbers queue TakeFront = (refl, refl)
same_numbers queue (SetItem index item) = (refl, refl)
same_numbers queue Clear = (refl, refl)
same_numbers queue (Fill bytes) = (refl, refl)
same_numbers queue (SetMember queue_set) = (refl, refl)

pub queue_change_is_undone : EachQueueChangeIsUndone
queue_change_is_undone queue change sized fits = record {
  back = undoes queue change sized fits;
  fits = inverse_fits queue change sized fits;
  sized = sized_then queue change sized fits;
  task_count = (same_numbers queue change).0;
  queue_set_count = (same_numbers queue change).1;
}
