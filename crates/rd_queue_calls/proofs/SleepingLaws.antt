-- Calls of queues and of queue sets leave asleep who waits as the reader or the writer of a buffer.
use Rattle.std.proofs.Common.{◌&&◌, ◌+◌, ◌++◌, ◌∙◌, ◌≡◌, ◌≢◌, ◌∷◌, Bool, List, None, Option, Some, [], ap, cond, drop, false, refl, set, slice_index}
use Rattle.std.proofs.Common.{true, ℕ}
use Rattle.std.specs.Prelude.{slice_index_or}
use Rattle.rd_app.specs.declared.instr.Operand.{Operand}
use Rattle.rd_app.specs.declared.instr.QueueCall.{QueueCall}
use Rattle.rd_app.specs.declared.instr.QueueCall.TheVariants.{AddToSet, Count, Overwrite, Peek, Receive, RemoveFromSet, Reset, Send, Spaces}
use Rattle.rd_app.specs.declared.instr.QueueSetCall.{QueueSetCall}
use Rattle.rd_app.specs.declared.instr.QueueSetCall.TheVariants.{Select}
use Rattle.rd_queue.specs.Changes.{put_at, queue_applied}
use Rattle.rd_queue.specs.QueueSets.{with_handles}
use Rattle.rd_queue.specs.QueueSetSnapshot.{QueueSetSnapshot}
use Rattle.rd_queue.specs.QueueSnapshot.{QueueSnapshot}
use Rattle.rd_queue.specs.Queues.{with_items}
use Rattle.rd_queue.specs.declared.end.End.{End}
use Rattle.rd_queue.specs.declared.end.End.TheVariants.{Back}
use Rattle.rd_queue.specs.declared.waiting_list.WaitingList.TheVariants.{Receiving, Sending}
use Rattle.rd_state.specs.Objects.{no_queue, no_queue_set}
use Rattle.rd_state.specs.Snapshot.{Snapshot, items_at, queue_at, queue_set_at, task_at, with_queue, with_queue_set}
use Rattle.rd_state.specs.Valid.{times_in_list}
use Rattle.rd_state.specs.Waiting.{waiting_at}
use Rattle.rd_state.specs.declared.phase.Cause.TheVariants.{SetFull}
use Rattle.rd_state.specs.declared.phase.Held.{Held}
use Rattle.rd_state.specs.declared.phase.Listed.{Listed}
use Rattle.rd_state.specs.declared.phase.Listed.TheVariants.{Group, Queue, QueueSet}
use Rattle.rd_state.specs.declared.phase.Place.TheVariants as sort
use Rattle.rd_kernel.specs.Outcomes.{Called, blocked, call_fails, call_passes, call_returns, passed}
use Rattle.rd_kernel.specs.Waking.{deadline_of, may_wait, with_waiter, woken_first}
use Rattle.rd_kernel.specs.declared.outcome.Outcome.TheVariants.{Waits}
use Rattle.rd_kernel.proofs.Offered.{IsSleeper, Sleeps, Sleeps-other, Sleeps-woken_first, read_anyway}
use Rattle.rd_queue_calls.specs.Posts.{call_breaks, is_in_full_queue_set, is_in_no_queue_set, is_in_queue_set, membership_of, posted, replaced}
use Rattle.rd_queue_calls.specs.Posts.{with_handle, with_member}
use Rattle.rd_queue_calls.specs.QueueCalls.{is_empty, is_full, outcome_with_space, queue_outcome, sent_item, with_item_over, with_item_peeked, with_item_sent}
use Rattle.rd_queue_calls.specs.QueueCalls.{with_item_taken, with_no_items}
use Rattle.rd_queue_calls.specs.QueueSetCalls.{has_no_handle, queue_set_outcome, with_handle_taken}
use Rattle.rd_queue_calls.proofs.ContentsLaws.{IsSameWaiting}
use Rattle.rd_queue_calls.proofs.QueueCallLaws.{items_same_waiting, put_same_waiting}

-- ---- a task that is left asleep and stands in no list

pub record Lies (task : ℕ) (s p : Snapshot) : Type 0 where
  pub sleeps : Sleeps task s p
  pub unlisted : (list : Listed) → times_in_list task (waiting_at p list) ≡ 0

-- A queue or a set changes in something else than who waits there, if it is there at all.
waiting_anyway : (s : Snapshot) (queue : ℕ) (now : QueueSnapshot) (list : Listed) → IsSameWaiting now (queue_at s queue)
    → waiting_at (with_queue s queue now) list ≡ waiting_at s list
waiting_anyway s queue now (Queue other Receiving) same_waiting = read_anyway (λ
    (q : QueueSnapshot). q.receiving) s.objects.queues queue other now no_queue same_waiting.receiving
waiting_anyway s queue now (Queue other Sending) same_waiting = read_anyway (λ (q : QueueSnapshot). q.sending) s.objects.queues queue other now no_queue same_waiting.sending
waiting_anyway s queue now (QueueSet other) same_waiting = refl
waiting_anyway s queue now (Group other) same_waiting = refl

Lies-with_queue : (s p : Snapshot) (task queue : ℕ) (now : QueueSnapshot) → IsSameWaiting now (queue_at p queue) → Lies task s p
    → Lies task s (with_queue p queue now)
Lies-with_queue s p task queue now same_waiting lies = record {
  sleeps = lies.sleeps;
  unlisted = λ list. ap (times_in_list task) (waiting_anyway p queue now list same_waiting) ∙ lies.unlisted list;
}

set_waiting_anyway : (s : Snapshot) (number : ℕ) (now : QueueSetSnapshot) (list : Listed) → now.waiting ≡ (queue_set_at s number).waiting
    → waiting_at (with_queue_set s number now) list ≡ waiting_at s list
set_waiting_anyway s number now (Queue queue Receiving) same_waiting = refl
set_waiting_anyway s number now (Queue queue Sending) same_waiting = refl
set_waiting_anyway s number now (QueueSet other) same_waiting = read_anyway (λ
    (q : QueueSetSnapshot). q.waiting) s.objects.queue_sets number other now no_queue_set same_waiting
set_waiting_anyway s number now (Group other) same_waiting = refl

Lies-with_handle : (s p : Snapshot) (task number queue : ℕ) → Lies task s p → Lies task s (with_handle p number queue)
Lies-with_handle s p task number queue lies =
    let now = with_handles (queue_set_at p number) ((queue_set_at p number).handles ++ queue ∷ []) in
    record { sleeps = lies.sleeps; unlisted = λ list. ap (times_in_list task) (set_waiting_anyway p number now list refl) ∙ lies.unlisted list }

-- The first who waits is woken, and that is another.
first_woken : (priorities : List ℕ) (s p : Snapshot) (task : ℕ) (list : Listed) → Lies task s p → Sleeps task s (woken_first priorities p list)
first_woken priorities s p task list lies = Sleeps-woken_first priorities p task list (lies.unlisted list) ∙ lies.sleeps

-- ---- each call

-- Whichever of two it is.
either_sleeps : (s : Snapshot) (task : ℕ) (b : Bool) (one other : Called) → Sleeps task s one.state → Sleeps task s other.state
    → Sleeps task s (cond b one other).state
either_sleeps s task true one other first second = first
either_sleeps s task false one other first second = second

or_blocked_sleeps : (priorities : List ℕ) (s : Snapshot) (task caller : ℕ) (b : Bool) (list : Listed) (wait : Operand) (other : Called)
    → Sleeps task s other.state
    → Sleeps task s (cond b (blocked priorities s caller list wait) other).state
or_blocked_sleeps priorities s task caller b list wait other done =
    either_sleeps s task b (blocked priorities s caller list wait) other
    (either_sleeps s task (may_wait s caller wait)
    (record { state = with_waiter priorities s list caller; outcome = Waits (sort.Listed list) (deadline_of s caller wait) }) (call_fails s) refl refl) done

pub posted_sleeps : (priorities : List ℕ) (s p : Snapshot) (task queue : ℕ) (member : Option ℕ) → Lies task s p
    → Sleeps task s (posted priorities p queue member).state
posted_sleeps priorities s p task queue None lies = first_woken priorities s p task (Queue queue Receiving) lies
posted_sleeps priorities s p task queue (Some number) lies =
    first_woken priorities s (with_handle p number queue) task (QueueSet number) (Lies-with_handle s p task number queue lies)

sends_sleep : (priorities : List ℕ) (s : Snapshot) (task caller queue : ℕ) (end : End) → Lies task s s
    → Sleeps task s (outcome_with_space priorities s caller queue end).state
sends_sleep priorities s task caller queue end lies =
    let p = with_item_sent s caller queue end in
    either_sleeps s task (is_in_full_queue_set s (membership_of s queue)) (call_breaks s SetFull) (posted priorities p queue (membership_of s queue)) refl
    (posted_sleeps priorities s p task queue (membership_of s queue)
    (Lies-with_queue s s task queue (queue_applied (queue_at s queue) (put_at end (sent_item s caller queue)))
    (put_same_waiting (queue_at s queue) end (sent_item s caller queue)) lies))

replaced_sleeps : (priorities : List ℕ) (s p : Snapshot) (task queue : ℕ) (member : Option ℕ) → Lies task s p
    → Sleeps task s (replaced priorities p queue member).state
replaced_sleeps priorities s p task queue None lies = first_woken priorities s p task (Queue queue Receiving) lies
replaced_sleeps priorities s p task queue (Some number) lies = lies.sleeps

-- The first item becomes another task's data.
Lies-peeked : (s : Snapshot) (task caller queue : ℕ) → task ≢ caller → Lies task s s → Lies task s (with_item_peeked s caller queue)
Lies-peeked s task caller queue differs lies = record {
  sleeps = Sleeps-other s task caller (record (task_at s caller) { bytes = slice_index_or (items_at s queue) 0 [] }) differs;
  unlisted = lies.unlisted;
}

pub Lies-items : (s p : Snapshot) (task queue : ℕ) (items : List (List ℕ)) → Lies task s p → Lies task s (with_queue p queue (with_items (queue_at p queue) items))
Lies-items s p task queue items lies = Lies-with_queue s p task queue (with_items (queue_at p queue) items) (items_same_waiting (queue_at p queue) items) lies

pub queue_call-sleeps : (priorities : List ℕ) (s : Snapshot) (task caller queue : ℕ) (own : Held) (call : QueueCall) → task ≢ caller → IsSleeper s task own
    → Sleeps task s (queue_outcome priorities s caller queue call).state
queue_call-sleeps priorities s task caller queue own call differs sleeper = by_call call
  where
    lies : Lies task s s
    lies = record { sleeps = refl; unlisted = sleeper.unlisted }

    peeked : Lies task s (with_item_peeked s caller queue)
    peeked = Lies-peeked s task caller queue differs lies

    by_call : (call : QueueCall) → Sleeps task s (queue_outcome priorities s caller queue call).state
    by_call (Send end wait) =
        or_blocked_sleeps priorities s task caller (is_full (queue_at s queue)) (Queue queue Sending) wait (outcome_with_space priorities s caller queue end)
        (sends_sleep priorities s task caller queue end lies)
    by_call (Receive wait) =
        or_blocked_sleeps priorities s task caller (is_empty (queue_at s queue)) (Queue queue Receiving) wait
        (passed priorities (with_item_taken s caller queue) (Queue queue Sending))
        (first_woken priorities s (with_item_taken s caller queue) task (Queue queue Sending)
        (Lies-items s (with_item_peeked s caller queue) task queue (drop 1 (items_at s queue)) peeked))
    by_call (Peek wait) =
        or_blocked_sleeps priorities s task caller (is_empty (queue_at s queue)) (Queue queue Receiving) wait
        (passed priorities (with_item_peeked s caller queue) (Queue queue Receiving))
        (first_woken priorities s (with_item_peeked s caller queue) task (Queue queue Receiving) peeked)
    by_call Overwrite =
        either_sleeps s task (is_empty (queue_at s queue)) (outcome_with_space priorities s caller queue Back)
        (replaced priorities (with_item_over s caller queue) queue (membership_of s queue)) (sends_sleep priorities s task caller queue Back lies)
        (replaced_sleeps priorities s (with_item_over s caller queue) task queue (membership_of s queue)
        (Lies-items s s task queue (set (items_at s queue) 0 (sent_item s caller queue)) lies))
    by_call Reset = first_woken priorities s (with_no_items s queue) task (Queue queue Sending) (Lies-items s s task queue [] lies)
    by_call Count = refl
    by_call Spaces = refl
    by_call (AddToSet number) =
        either_sleeps s task (is_empty (queue_at s queue) && is_in_no_queue_set (membership_of s queue)) (call_passes (with_member s queue (Some number)))
        (call_fails s) refl refl
    by_call (RemoveFromSet number) =
        either_sleeps s task (is_empty (queue_at s queue) && is_in_queue_set number (membership_of s queue)) (call_passes (with_member s queue None))
        (call_fails s) refl refl

pub queue_set_call-sleeps : (priorities : List ℕ) (s : Snapshot) (task caller number : ℕ) (call : QueueSetCall)
    → Sleeps task s (queue_set_outcome priorities s caller number call).state
queue_set_call-sleeps priorities s task caller number (Select wait) =
    or_blocked_sleeps priorities s task caller (has_no_handle (queue_set_at s number)) (QueueSet number) wait
    (call_returns (with_handle_taken s number) (slice_index (queue_set_at s number).handles 0 + 1)) refl
