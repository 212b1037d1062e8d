-- Queue sets: what an item that is put makes known, and to whom.
use Rattle.std.specs.Prelude.{ℕ, ◌++◌, ◌∷◌, [], Bool, true, false, List, Option, None, Some}
use Rattle.std.specs.Prelude.{length, nat_eq}
use Rattle.rd_queue.specs.declared.waiting_list.WaitingList.TheVariants.{Receiving}
use Rattle.rd_queue.specs.QueueSetSnapshot.{QueueSetSnapshot}
use Rattle.rd_queue.specs.QueueSets.{with_handles}
use Rattle.rd_state.specs.declared.phase.Cause.{Cause}
use Rattle.rd_state.specs.declared.phase.Listed.{Listed}
use Rattle.rd_state.specs.declared.phase.Listed.TheVariants.{Queue, QueueSet}
use Rattle.rd_state.specs.Snapshot.{Snapshot, queue_at, queue_set_at, with_queue, with_queue_set}
use Rattle.rd_kernel.specs.declared.outcome.Outcome.TheVariants.{Fails}
use Rattle.rd_kernel.specs.Outcomes.{Called, call_passes, passed}

-- the set that a queue is a member of, if it is one of any
abbrev pub membership_of : Snapshot → ℕ → Option ℕ
membership_of s queue = (queue_at s queue).queue_set

-- the queue as a member of that set, or of none
abbrev pub with_member : Snapshot → ℕ → Option ℕ → Snapshot
with_member s queue queue_set =
    with_queue s queue (record (queue_at s queue) { queue_set = queue_set })

-- Is it a member of none? Of that one?
abbrev pub is_in_no_queue_set : Option ℕ → Bool
is_in_no_queue_set None = true
is_in_no_queue_set (Some queue_set) = false

abbrev pub is_in_queue_set : ℕ → Option ℕ → Bool
is_in_queue_set queue_set None = false
is_in_queue_set queue_set (Some other) = nat_eq other queue_set

-- Has the set that a queue is a member of no space for one handle more?
abbrev pub is_full_queue_set : QueueSetSnapshot → Bool
is_full_queue_set queue_set = nat_eq (length queue_set.handles) queue_set.capacity

abbrev pub is_in_full_queue_set : Snapshot → Option ℕ → Bool
is_in_full_queue_set s None = false
is_in_full_queue_set s (Some queue_set) = is_full_queue_set (queue_set_at s queue_set)

-- the queue's handle at the back of the set's
abbrev pub with_handle : Snapshot → ℕ → ℕ → Snapshot
with_handle s queue_set queue =
    with_queue_set s queue_set
    (with_handles (queue_set_at s queue_set) ((queue_set_at s queue_set).handles ++ queue ∷ []))

-- The list from which an item that was put into a queue wakes somebody: where the queue is in no
-- set, of those who wait to receive it, and else of those who wait to select from its set.
abbrev pub list_posted_to : ℕ → Option ℕ → Listed
list_posted_to queue None = Queue queue Receiving
list_posted_to queue (Some queue_set) = QueueSet queue_set

-- An item that was put into a queue in no set wakes the first who waits to receive it. One that was
-- put into a member makes its queue's handle the last of the set's, and wakes the first who waits
-- to select: whoever waits at the member itself isn't woken.
abbrev pub posted : List ℕ → Snapshot → ℕ → Option ℕ → Called
posted priorities s queue None = passed priorities s (Queue queue Receiving)
posted priorities s queue (Some queue_set) =
    passed priorities (with_handle s queue_set queue) (QueueSet queue_set)

-- An item that took the place of another posts nothing: it wakes a receiver of a queue in no set.
abbrev pub replaced : List ℕ → Snapshot → ℕ → Option ℕ → Called
replaced priorities s queue None = passed priorities s (Queue queue Receiving)
replaced priorities s queue (Some queue_set) = call_passes s

-- a call that leaves the state, and its task failed
abbrev pub call_breaks : Snapshot → Cause → Called
call_breaks s cause = record { state = s; outcome = Fails cause }
