-- Calls of queues and of queue sets leave the entries of all tasks.
use Rattle.rd_state.specs.declared.phase.Place.TheVariants as sort
use Rattle.std.specs.Prelude.{slice_index_or}
use Rattle.std.proofs.Common.{◌&&◌, ◌+◌, ◌∙◌, Bool, List, None, Option, Some, [], cond, false, refl, slice_index, true, ℕ}
use Rattle.std.specs.Prelude.{slice_get}
use Rattle.rd_app.specs.declared.instr.QueueCall.{QueueCall}
use Rattle.rd_app.specs.declared.instr.QueueCall.TheVariants.{AddToSet, Count, Overwrite, Peek, Receive, RemoveFromSet, Reset, Send, Spaces}
use Rattle.rd_app.specs.declared.instr.QueueSetCall.{QueueSetCall}
use Rattle.rd_app.specs.declared.instr.QueueSetCall.TheVariants.{Select}
use Rattle.rd_queue.specs.declared.end.End.{End}
use Rattle.rd_queue.specs.declared.end.End.TheVariants.{Back}
use Rattle.rd_queue.specs.declared.waiting_list.WaitingList.TheVariants.{Receiving, Sending}
use Rattle.rd_state.specs.declared.phase.Cause.TheVariants.{SetFull}
use Rattle.rd_state.specs.declared.phase.Listed.{Listed}
use Rattle.rd_state.specs.declared.phase.Listed.TheVariants.{Queue, QueueSet}
use Rattle.rd_state.specs.Snapshot.{Snapshot, items_at, queue_at, queue_set_at, task_at}
use Rattle.rd_state.specs.Waiting.{waiting_at}
use Rattle.rd_kernel.specs.Outcomes.{Called, blocked, call_fails, call_passes, call_returns, passed}
use Rattle.rd_kernel.specs.Waking.{deadline_of, may_wait, with_waiter, woken_first}
use Rattle.rd_kernel.proofs.Offered.{EntriesStay, EntriesStay-task, EntriesStay-woken_all}
use Rattle.rd_queue_calls.specs.Posts.{call_breaks, is_in_full_queue_set, is_in_no_queue_set, is_in_queue_set, membership_of, posted, replaced}
use Rattle.rd_queue_calls.specs.Posts.{with_handle, with_member}
use Rattle.rd_queue_calls.specs.QueueCalls.{is_empty, is_full, outcome_with_space, queue_outcome, with_item_over, with_item_peeked, with_item_sent}
use Rattle.rd_queue_calls.specs.QueueCalls.{with_item_taken, with_no_items}
use Rattle.rd_queue_calls.specs.QueueSetCalls.{has_no_handle, queue_set_outcome, with_handle_taken}
use Rattle.std.specs.Option.{option_to_list}
use Rattle.rd_app.specs.declared.instr.Operand.{Operand}
use Rattle.rd_kernel.specs.declared.outcome.Outcome.TheVariants.{Waits}
use Rattle.rd_kernel.specs.declared.waking.Waking.TheVariants.{TriesAgain}

-- Whichever of two it is.
stays_either : (s : Snapshot) (b : Bool) (one other : Called) → EntriesStay s one.state → EntriesStay s other.state → EntriesStay s (cond b one other).state
stays_either s true one other first second = first
stays_either s false one other first second = second

first_stays : (priorities : List ℕ) (s : Snapshot) (list : Listed) → EntriesStay s (woken_first priorities s list)
first_stays priorities s list = EntriesStay-woken_all priorities TriesAgain s (option_to_list (slice_get (waiting_at s list) 0))

blocked_stays : (priorities : List ℕ) (s : Snapshot) (task : ℕ) (list : Listed) (wait : Operand) → EntriesStay s (blocked priorities s task list wait).state
blocked_stays priorities s task list wait =
    stays_either s (may_wait s task wait)
    (record { state = with_waiter priorities s list task; outcome = Waits (sort.Listed list) (deadline_of s task wait) }) (call_fails s) (λ t. refl) (λ t. refl)

pub posted_stays : (priorities : List ℕ) (s : Snapshot) (queue : ℕ) (member : Option ℕ) → EntriesStay s (posted priorities s queue member).state
posted_stays priorities s queue None = first_stays priorities s (Queue queue Receiving)
posted_stays priorities s queue (Some number) = first_stays priorities (with_handle s number queue) (QueueSet number)

sends_stay : (priorities : List ℕ) (s : Snapshot) (task queue : ℕ) (end : End) → EntriesStay s (outcome_with_space priorities s task queue end).state
sends_stay priorities s task queue end =
    stays_either s (is_in_full_queue_set s (membership_of s queue)) (call_breaks s SetFull)
    (posted priorities (with_item_sent s task queue end) queue (membership_of s queue)) (λ t. refl)
    (posted_stays priorities (with_item_sent s task queue end) queue (membership_of s queue))

replaced_stays : (priorities : List ℕ) (s : Snapshot) (queue : ℕ) (member : Option ℕ) → EntriesStay s (replaced priorities s queue member).state
replaced_stays priorities s queue None = first_stays priorities s (Queue queue Receiving)
replaced_stays priorities s queue (Some number) = λ t. refl

-- The first item becomes a task's data.
peeked_stays : (s : Snapshot) (task queue : ℕ) → EntriesStay s (with_item_peeked s task queue)
peeked_stays s task queue = EntriesStay-task s task (record (task_at s task) { bytes = slice_index_or (items_at s queue) 0 [] }) refl

pub EntriesStay-queue_call : (priorities : List ℕ) (s : Snapshot) (task queue : ℕ) (call : QueueCall) → EntriesStay s (queue_outcome priorities s task queue call).state
EntriesStay-queue_call priorities s task queue (Send end wait) =
    stays_either s (is_full (queue_at s queue)) (blocked priorities s task (Queue queue Sending) wait) (outcome_with_space priorities s task queue end)
    (blocked_stays priorities s task (Queue queue Sending) wait) (sends_stay priorities s task queue end)
EntriesStay-queue_call priorities s task queue (Receive wait) =
    stays_either s (is_empty (queue_at s queue)) (blocked priorities s task (Queue queue Receiving) wait)
    (passed priorities (with_item_taken s task queue) (Queue queue Sending)) (blocked_stays priorities s task (Queue queue Receiving) wait)
    (λ t. first_stays priorities (with_item_taken s task queue) (Queue queue Sending) t ∙ peeked_stays s task queue t)
EntriesStay-queue_call priorities s task queue (Peek wait) =
    stays_either s (is_empty (queue_at s queue)) (blocked priorities s task (Queue queue Receiving) wait)
    (passed priorities (with_item_peeked s task queue) (Queue queue Receiving)) (blocked_stays priorities s task (Queue queue Receiving) wait)
    (λ t. first_stays priorities (with_item_peeked s task queue) (Queue queue Receiving) t ∙ peeked_stays s task queue t)
EntriesStay-queue_call priorities s task queue Overwrite =
    stays_either s (is_empty (queue_at s queue)) (outcome_with_space priorities s task queue Back)
    (replaced priorities (with_item_over s task queue) queue (membership_of s queue)) (sends_stay priorities s task queue Back)
    (replaced_stays priorities (with_item_over s task queue) queue (membership_of s queue))
EntriesStay-queue_call priorities s task queue Reset = first_stays priorities (with_no_items s queue) (Queue queue Sending)
EntriesStay-queue_call priorities s task queue Count = λ t. refl
EntriesStay-queue_call priorities s task queue Spaces = λ t. refl
EntriesStay-queue_call priorities s task queue (AddToSet number) =
    stays_either s (is_empty (queue_at s queue) && is_in_no_queue_set (membership_of s queue)) (call_passes (with_member s queue (Some number))) (call_fails s)
    (λ t. refl) (λ t. refl)
EntriesStay-queue_call priorities s task queue (RemoveFromSet number) =
    stays_either s (is_empty (queue_at s queue) && is_in_queue_set number (membership_of s queue)) (call_passes (with_member s queue None)) (call_fails s)
    (λ t. refl) (λ t. refl)

pub EntriesStay-queue_set_call : (priorities : List ℕ) (s : Snapshot) (task number : ℕ) (call : QueueSetCall)
    → EntriesStay s (queue_set_outcome priorities s task number call).state
EntriesStay-queue_set_call priorities s task number (Select wait) =
    stays_either s (has_no_handle (queue_set_at s number)) (blocked priorities s task (QueueSet number) wait)
    (call_returns (with_handle_taken s number) (slice_index (queue_set_at s number).handles 0 + 1)) (blocked_stays priorities s task (QueueSet number) wait) (λ t. refl)
