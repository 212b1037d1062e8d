-- What the calls of a queue do.
use Rattle.std.specs.Prelude.{ℕ, ◌≡◌, ◌+◌, ◌-◌, ◌&&◌, ◌⊎◌, [], Bool, true, false, List}
use Rattle.std.specs.Prelude.{None, Some, drop, length, nat_eq}
use Rattle.std.specs.Prelude.{slice_index_or, slice_set, if◌then◌else◌}
use Rattle.std.specs.List.{concat}
use Rattle.rd_app.specs.declared.instr.Operand.{Operand}
use Rattle.rd_app.specs.declared.instr.QueueCall.{QueueCall}
use Rattle.rd_app.specs.declared.instr.QueueCall.TheVariants.{Send, Receive, Peek}
use Rattle.rd_app.specs.declared.instr.QueueCall.TheVariants.{Overwrite, Reset, Count, Spaces}
use Rattle.rd_app.specs.declared.instr.QueueCall.TheVariants.{AddToSet, RemoveFromSet}
use Rattle.rd_queue.specs.declared.end.End.{End}
use Rattle.rd_queue.specs.declared.end.End.TheVariants.{Back}
use Rattle.rd_queue.specs.declared.waiting_list.WaitingList.TheVariants.{Receiving, Sending}
use Rattle.rd_queue.specs.Changes.{put_at, queue_applied}
use Rattle.rd_queue.specs.QueueSnapshot.{QueueSnapshot}
use Rattle.rd_queue.specs.Queues.{fitted, with_items}
use Rattle.rd_state.specs.declared.phase.Cause.TheVariants.{SetFull}
use Rattle.rd_state.specs.declared.phase.Listed.TheVariants.{Queue}
use Rattle.rd_state.specs.Snapshot.{Snapshot, task_at, queue_at, with_queue, items_at}
use Rattle.rd_kernel.specs.Costs.{data_cost, item_cost, waking_cost}
use Rattle.rd_kernel.specs.Outcomes.{Called, blocked, call_returns, call_fails}
use Rattle.rd_kernel.specs.Outcomes.{call_passes, passed}
use Rattle.rd_kernel.specs.Tasks.{with_bytes}
use Rattle.rd_kernel.specs.Waking.{may_wait}
use Rattle.rd_queue_calls.specs.Posts.{call_breaks, is_in_full_queue_set, is_in_no_queue_set}
use Rattle.rd_queue_calls.specs.Posts.{is_in_queue_set}
use Rattle.rd_queue_calls.specs.Posts.{posted, replaced, membership_of, with_member}

-- Is there no free slot? Is there no item?
abbrev pub is_full : QueueSnapshot → Bool
is_full queue = nat_eq (length queue.items) queue.capacity

abbrev pub is_empty : QueueSnapshot → Bool
is_empty queue = nat_eq (length queue.items) 0

-- the item that a task sends: its data, at the queue's item size
abbrev pub sent_item : Snapshot → ℕ → ℕ → List ℕ
sent_item s task queue = fitted (queue_at s queue).item_size (task_at s task).bytes

-- the item put at an end of the queue
abbrev pub with_item_sent : Snapshot → ℕ → ℕ → End → Snapshot
with_item_sent s task queue end =
    with_queue s queue
    (queue_applied (queue_at s queue) (put_at end (sent_item s task queue)))

-- the item in the place of the one at a queue's front
abbrev pub with_item_over : Snapshot → ℕ → ℕ → Snapshot
with_item_over s task queue =
    with_queue s queue
    (with_items (queue_at s queue) (slice_set (items_at s queue) 0 (sent_item s task queue)))

-- a queue's first item as the task's data
abbrev pub with_item_peeked : Snapshot → ℕ → ℕ → Snapshot
with_item_peeked s task queue = with_bytes s task (slice_index_or (items_at s queue) 0 [])

-- the same, and the item has left the queue
abbrev pub with_item_taken : Snapshot → ℕ → ℕ → Snapshot
with_item_taken s task queue =
    with_queue (with_item_peeked s task queue) queue
    (with_items (queue_at s queue) (drop 1 (items_at s queue)))

-- a queue without items
abbrev pub with_no_items : Snapshot → ℕ → Snapshot
with_no_items s queue = with_queue s queue (with_items (queue_at s queue) [])

-- An item goes to that end, unless its queue is a member of a set that has no space for its handle:
-- then nothing is sent, and the caller has failed. Nobody is handed the item: whoever is woken
-- tries again when it runs.
abbrev pub outcome_with_space : List ℕ → Snapshot → ℕ → ℕ → End → Called
outcome_with_space priorities s task queue end =
    if is_in_full_queue_set s (membership_of s queue) then call_breaks s SetFull
    else posted priorities (with_item_sent s task queue end) queue (membership_of s queue)

-- xQueueSend, xQueueSendToBack, xQueueSendToFront: where there is space, the item is sent.
abbrev pub send_outcome : List ℕ → Snapshot → ℕ → ℕ → End → Operand → Called
send_outcome priorities s task queue end wait =
    if is_full (queue_at s queue) then blocked priorities s task (Queue queue Sending) wait
    else outcome_with_space priorities s task queue end

-- xQueueReceive: where there is an item, the one at the front leaves and becomes the caller's data,
-- and the first who waits for a free slot is woken
abbrev pub receive_outcome : List ℕ → Snapshot → ℕ → ℕ → Operand → Called
receive_outcome priorities s task queue wait =
    if is_empty (queue_at s queue) then blocked priorities s task (Queue queue Receiving) wait
    else passed priorities (with_item_taken s task queue) (Queue queue Sending)

-- xQueuePeek: where there is an item, the one at the front becomes the caller's data and stays, and
-- the first who waits for an item is woken
abbrev pub peek_outcome : List ℕ → Snapshot → ℕ → ℕ → Operand → Called
peek_outcome priorities s task queue wait =
    if is_empty (queue_at s queue) then blocked priorities s task (Queue queue Receiving) wait
    else passed priorities (with_item_peeked s task queue) (Queue queue Receiving)

-- xQueueOverwrite: into an empty queue the item is sent; else it takes the place of the one there.
abbrev pub overwrite_outcome : List ℕ → Snapshot → ℕ → ℕ → Called
overwrite_outcome priorities s task queue =
    if is_empty (queue_at s queue) then outcome_with_space priorities s task queue Back
    else replaced priorities (with_item_over s task queue) queue (membership_of s queue)

-- xQueueReset: the items are gone, and the first who waits for a free slot is woken
abbrev pub reset_outcome : List ℕ → Snapshot → ℕ → Called
reset_outcome priorities s queue =
    passed priorities (with_no_items s queue) (Queue queue Sending)

-- uxQueueMessagesWaiting, uxQueueSpacesAvailable: how many items there are, and free slots
abbrev pub count_outcome : Snapshot → ℕ → Called
count_outcome s queue = call_returns s (length (items_at s queue))

abbrev pub spaces_outcome : Snapshot → ℕ → Called
spaces_outcome s queue =
    call_returns s ((queue_at s queue).capacity - length (items_at s queue))

-- xQueueAddToSet: an empty queue in no set becomes a member.
abbrev pub add_outcome : Snapshot → ℕ → ℕ → Called
add_outcome s queue queue_set =
    if is_empty (queue_at s queue) && is_in_no_queue_set (membership_of s queue)
    then call_passes (with_member s queue (Some queue_set))
    else call_fails s

-- xQueueRemoveFromSet: an empty queue leaves the set that it is a member of. Its handles stay.
abbrev pub remove_outcome : Snapshot → ℕ → ℕ → Called
remove_outcome s queue queue_set =
    if is_empty (queue_at s queue) && is_in_queue_set queue_set (membership_of s queue)
    then call_passes (with_member s queue None)
    else call_fails s

-- what a call of a queue does
abbrev pub queue_outcome : List ℕ → Snapshot → ℕ → ℕ → QueueCall → Called
queue_outcome priorities s task queue (Send end wait) =
    send_outcome priorities s task queue end wait
queue_outcome priorities s task queue (Receive wait) = receive_outcome priorities s task queue wait
queue_outcome priorities s task queue (Peek wait) = peek_outcome priorities s task queue wait
queue_outcome priorities s task queue Overwrite = overwrite_outcome priorities s task queue
queue_outcome priorities s task queue Reset = reset_outcome priorities s queue
queue_outcome priorities s task queue Count = count_outcome s queue
queue_outcome priorities s task queue Spaces = spaces_outcome s queue
queue_outcome priorities s task queue (AddToSet queue_set) = add_outcome s queue queue_set
queue_outcome priorities s task queue (RemoveFromSet queue_set) = remove_outcome s queue queue_set

-- What they take in a record at the most. An item that is put carries nothing; its handle is one
-- change more.
abbrev pub send_cost : ℕ
send_cost = 2 + waking_cost

abbrev pub receive_cost : ℕ
receive_cost = data_cost + item_cost + waking_cost

abbrev pub peek_cost : ℕ
peek_cost = data_cost + waking_cost

abbrev pub overwrite_cost : ℕ
overwrite_cost = item_cost + 1 + waking_cost

abbrev pub member_cost : ℕ
member_cost = 1

abbrev pub reset_cost : ℕ
reset_cost = 1 + waking_cost

-- the bytes of the items that a call drops
abbrev pub dropped_by : Snapshot → ℕ → QueueCall → ℕ
dropped_by s queue (Send end wait) = 0
dropped_by s queue (Receive wait) = 0
dropped_by s queue (Peek wait) = 0
dropped_by s queue Overwrite = 0
dropped_by s queue Reset = length (concat (items_at s queue))
dropped_by s queue Count = 0
dropped_by s queue Spaces = 0
dropped_by s queue (AddToSet queue_set) = 0
dropped_by s queue (RemoveFromSet queue_set) = 0

-- what a call takes in a record at the most: a reset also the bytes that it drops
abbrev pub queue_call_cost : Snapshot → ℕ → QueueCall → ℕ
queue_call_cost s queue (Send end wait) = send_cost
queue_call_cost s queue (Receive wait) = receive_cost
queue_call_cost s queue (Peek wait) = peek_cost
queue_call_cost s queue Overwrite = overwrite_cost
queue_call_cost s queue Reset = reset_cost + length (concat (items_at s queue))
queue_call_cost s queue Count = 0
queue_call_cost s queue Spaces = 0
queue_call_cost s queue (AddToSet queue_set) = member_cost
queue_call_cost s queue (RemoveFromSet queue_set) = member_cost

-- The queue has space for the item that is put, and the queue's set has none for its handle.
abbrev pub IsIntoFullQueueSet : Snapshot → ℕ → Type 0
IsIntoFullQueueSet s queue =
    (is_full (queue_at s queue) ≡ false) × (is_in_full_queue_set s (membership_of s queue) ≡ true)

-- The call can't be done and may not wait, is refused, or only counts: it changes nothing.
abbrev pub ChangesNothing : Snapshot → ℕ → ℕ → QueueCall → Type 0
ChangesNothing s task queue (Send end wait) =
    ((is_full (queue_at s queue) ≡ true) × (may_wait s task wait ≡ false))
    ⊎ IsIntoFullQueueSet s queue
ChangesNothing s task queue (Receive wait) =
    (is_empty (queue_at s queue) ≡ true) × (may_wait s task wait ≡ false)
ChangesNothing s task queue (Peek wait) =
    (is_empty (queue_at s queue) ≡ true) × (may_wait s task wait ≡ false)
ChangesNothing s task queue Overwrite =
    (is_empty (queue_at s queue) ≡ true) × (is_in_full_queue_set s (membership_of s queue) ≡ true)
ChangesNothing s task queue Reset = ⊥
ChangesNothing s task queue Count = Unit {0}
ChangesNothing s task queue Spaces = Unit {0}
ChangesNothing s task queue (AddToSet queue_set) =
    (is_empty (queue_at s queue) && is_in_no_queue_set (membership_of s queue)) ≡ false
ChangesNothing s task queue (RemoveFromSet queue_set) =
    (is_empty (queue_at s queue) && is_in_queue_set queue_set (membership_of s queue)) ≡ false
