-- An item that is put without a caller, and what it makes known, leave what makes a state valid.
use Rattle.std.proofs.Common.{◌≡◌, ◌∙◌, ℕ, ◌<◌, ◌≤◌, ◌∷◌, ◌++◌, [], List, length, Option, None, Some, refl, ap, arith}
use Rattle.std.specs.Option.{option_to_list}
use Rattle.std.specs.Prelude.{IfSome, slice_get}
use Rattle.rd_app.specs.Application.{Application, priorities_of}
use Rattle.rd_queue.specs.declared.waiting_list.WaitingList.TheVariants.{Receiving}
use Rattle.rd_queue.specs.Queues.{with_items}
use Rattle.rd_queue.specs.QueueSets.{with_handles}
use Rattle.rd_state.specs.declared.phase.Listed.TheVariants.{Queue, QueueSet}
use Rattle.rd_state.specs.declared.phase.Phase.{Phase}
use Rattle.rd_state.specs.declared.phase.Phase.TheVariants.{Again}
use Rattle.rd_state.specs.Sizes.{IsSized}
use Rattle.rd_state.specs.Snapshot.{Snapshot, queue_at, queue_set_at, task_at, with_queue}
use Rattle.rd_state.specs.Valid.{times_in_list}
use Rattle.rd_state.proofs.Offered.{times_in_list-cons}
use Rattle.rd_state.specs.Phases.{waits_at}
use Rattle.rd_state.specs.Waiting.{waiting_at}
use Rattle.rd_kernel.specs.declared.waking.Waking.TheVariants.{TriesAgain}
use Rattle.rd_kernel.proofs.Offered.{AfterWaking-woken_all, IsConsistent, IsConsistent-woken_first, first_is_listed, same_one, waits_is_task, woken_first-tick}
use Rattle.rd_queue_calls.proofs.ContentsLaws.{IsConsistent-items, IsConsistent-queue_set_replaced, waiting_at-with_queue, waiting_at-with_queue_set}
use Rattle.rd_queue_calls.proofs.QueueCallLaws.{items_same_waiting}
use Rattle.rd_queue_calls.specs.Posts.{list_posted_to, posted, with_handle}

pub IsConsistent-posted : (app : Application) (D : ℕ → Phase → Type 0) (s : Snapshot) (queue : ℕ) (member : Option ℕ) (items : List (List ℕ))
    → ((t : ℕ) (deadline : Option ℕ) → D t (Again deadline)) → IsSized s → queue < length s.objects.queues
    → IfSome member (λ queue_set. queue_set < length s.objects.queue_sets) → IsConsistent app D s
    → IsConsistent app D (posted (priorities_of app) (with_queue s queue (with_items (queue_at s queue) items)) queue member).state
IsConsistent-posted app D s queue None items asked sized there has_set at =
    let now = with_items (queue_at s queue) items in
    let p = with_queue s queue now in
    let same = waiting_at-with_queue s queue now (Queue queue Receiving) there (items_same_waiting (queue_at s queue) items) in
    IsConsistent-woken_first app D p (Queue queue Receiving)
    (λ t some. waits_is_task s (Queue queue Receiving) t sized there (omega (arith, some, ap (times_in_list t) same))) asked
    (IsConsistent-items app D s queue items there at)
IsConsistent-posted app D s queue (Some number) items asked sized there has_set at =
    let now = with_items (queue_at s queue) items in
    let p = with_queue s queue now in
    let handles = with_handles (queue_set_at p number) ((queue_set_at p number).handles ++ queue ∷ []) in
    let q = with_handle p number queue in
    let same = waiting_at-with_queue_set p number handles (QueueSet number) has_set refl
    ∙ waiting_at-with_queue s queue now (QueueSet number) there (items_same_waiting (queue_at s queue) items) in
    IsConsistent-woken_first app D q (QueueSet number)
    (λ t some. waits_is_task s (QueueSet number) t sized has_set (omega (arith, some, ap (times_in_list t) same))) asked
    (IsConsistent-queue_set_replaced app D p number handles has_set refl refl (IsConsistent-items app D s queue items there at))

pub posted-tick : (priorities : List ℕ) (s : Snapshot) (queue : ℕ) (member : Option ℕ) → (posted priorities s queue member).state.tick ≡ s.tick
posted-tick priorities s queue None = woken_first-tick priorities s (Queue queue Receiving)
posted-tick priorities s queue (Some number) = woken_first-tick priorities (with_handle s number queue) (QueueSet number)

-- The first who waits to receive waits nowhere any more, once an item is put into a queue in no set.
pub post_wakes_the_first : (priorities : List ℕ) (s : Snapshot) (queue task : ℕ) (items : List (List ℕ)) → IsSized s → queue < length s.objects.queues
    → slice_get (waiting_at s (Queue queue Receiving)) 0 ≡ Some task
    → waits_at (task_at (posted priorities (with_queue s queue (with_items (queue_at s queue) items)) queue None).state task).phase ≡ None
post_wakes_the_first priorities s queue task items sized there first =
    let now = with_items (queue_at s queue) items in
    let p = with_queue s queue now in
    let list = waiting_at p (Queue queue Receiving) in
    let same = waiting_at-with_queue s queue now (Queue queue Receiving) there (items_same_waiting (queue_at s queue) items) in
    let found : slice_get list 0 ≡ Some task = ap (λ (ts : List ℕ). slice_get ts 0) same ∙ first in
    let woken : option_to_list (slice_get list 0) ≡ task ∷ [] = ap option_to_list found in
    let listed : 1 ≤ times_in_list task (option_to_list (slice_get list 0)) =
    omega (arith, ap (times_in_list task) woken, times_in_list-cons task task [], same_one task) in
    let in_list = first_is_listed list task listed in
    let is_task = waits_is_task s (Queue queue Receiving) task sized there (omega (arith, in_list, ap (times_in_list task) same)) in
    (AfterWaking-woken_all priorities TriesAgain p (option_to_list (slice_get list 0))).woken task listed is_task

-- Who waits where an item is made known waited there before it was put.
pub waiting-put : (s : Snapshot) (queue : ℕ) (member : Option ℕ) (items : List (List ℕ)) → queue < length s.objects.queues
    → waiting_at (with_queue s queue (with_items (queue_at s queue) items)) (list_posted_to queue member) ≡ waiting_at s (list_posted_to queue member)
waiting-put s queue None items there =
    waiting_at-with_queue s queue (with_items (queue_at s queue) items) (Queue queue Receiving) there (items_same_waiting (queue_at s queue) items)
waiting-put s queue (Some number) items there =
    waiting_at-with_queue s queue (with_items (queue_at s queue) items) (QueueSet number) there (items_same_waiting (queue_at s queue) items)
