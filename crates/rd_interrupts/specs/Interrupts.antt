-- What an interrupt does, and what it answers.
use Rattle.std.specs.Prelude.{ℕ, ◌+◌, ◌<◌, ◌&&◌, ◌||◌, if◌then◌else◌, Bool, false, List, length}
use Rattle.std.specs.Prelude.{nat_eq}
use Rattle.rd_queue.specs.declared.end.End.TheVariants.{Back}
use Rattle.rd_queue.specs.Changes.{put_at, queue_applied}
use Rattle.rd_queue.specs.Queues.{fitted}
use Rattle.rd_state.specs.Settled.{settled}
use Rattle.rd_state.specs.Snapshot.{Snapshot, queue_at, with_queue}
use Rattle.rd_kernel.specs.Costs.{waking_cost}
use Rattle.rd_kernel.specs.Tasks.{entry_at, HasEntry}
use Rattle.rd_kernel.specs.Telling.{notified}
use Rattle.rd_moves.specs.Interrupts.{PlainInterrupt}
use Rattle.rd_moves.specs.declared.interrupt.Interrupt.TheVariants.{Send, Notify}
use Rattle.rd_notify_calls.specs.NotifyCalls.{answer_to}
use Rattle.rd_queue_calls.specs.Posts.{is_in_full_queue_set, membership_of, posted}
use Rattle.rd_queue_calls.specs.QueueCalls.{is_full}
use Rattle.rd_queue_calls.specs.QueueSetLaws.{handles_in, handles_posted}

-- The state has the queue, or the task with its entry.
abbrev pub IsInterruptAt : Snapshot → PlainInterrupt → Type 0
IsInterruptAt s (Send queue bytes) = queue < length s.objects.queues
IsInterruptAt s (Notify task index value action) = HasEntry s task index

-- Does an item find no space? The queue is full, or the set that it is a member of is.
abbrev pub has_no_space : Snapshot → ℕ → Bool
has_no_space s queue =
    is_full (queue_at s queue) || is_in_full_queue_set s (membership_of s queue)

-- the item at the back of the queue: the bytes, at its item size
abbrev pub with_item_put : Snapshot → ℕ → List ℕ → Snapshot
with_item_put s queue bytes =
    with_queue s queue
    (queue_applied (queue_at s queue) (put_at Back (fitted (queue_at s queue).item_size bytes)))

-- what it answers: pdPASS, or errQUEUE_FULL; pdFAIL where the entry is left alone
abbrev pub isr_answer : Snapshot → PlainInterrupt → ℕ
isr_answer s (Send queue bytes) = if has_no_space s queue then 0 else 1
isr_answer s (Notify task index value action) = answer_to action (entry_at s task index).state

-- xQueueSendFromISR: where there is space, the item is put, and what it makes known is that of any
-- send. xTaskNotifyIndexedFromISR: the notification comes to the entry.
abbrev pub interrupted : List ℕ → Snapshot → PlainInterrupt → Snapshot
interrupted priorities s (Send queue bytes) =
    if has_no_space s queue then s
    else (posted priorities (with_item_put s queue bytes) queue (membership_of s queue)).state
interrupted priorities s (Notify task index value action) =
    notified priorities s task index action value

-- Then the scheduler runs. The turn stays.
abbrev pub after_interrupt : List ℕ → Snapshot → PlainInterrupt → Snapshot
after_interrupt priorities s interrupt = settled priorities (interrupted priorities s interrupt)

-- what it takes in a record at the most, but for the scheduler: an item and a handle, or an entry,
-- and a task woken
abbrev pub interrupt_cost : ℕ
interrupt_cost = 2 + waking_cost

-- the handles of queue sets after it: one more where it has put an item into a member of one
abbrev pub handles_interrupted : Snapshot → PlainInterrupt → List (List ℕ)
handles_interrupted s (Send queue bytes) =
    if has_no_space s queue then handles_in s else handles_posted s queue (membership_of s queue)
handles_interrupted s (Notify task index value action) = handles_in s

-- Does it notify that task through its entry 0?
abbrev pub interrupt_notifies_first : PlainInterrupt → ℕ → Bool
interrupt_notifies_first (Send queue bytes) task = false
interrupt_notifies_first (Notify of index value action) task = nat_eq of task && nat_eq index 0
