-- What the calls of a queue set do.
use Rattle.std.specs.Prelude.{ℕ, ◌≡◌, ◌+◌, Bool, true, false, List, length, drop, nat_eq}
use Rattle.std.specs.Prelude.{slice_index, if◌then◌else◌}
use Rattle.rd_app.specs.declared.instr.Operand.{Operand}
use Rattle.rd_app.specs.declared.instr.QueueSetCall.{QueueSetCall}
use Rattle.rd_app.specs.declared.instr.QueueSetCall.TheVariants.{Select}
use Rattle.rd_queue.specs.QueueSetSnapshot.{QueueSetSnapshot}
use Rattle.rd_queue.specs.QueueSets.{with_handles}
use Rattle.rd_state.specs.declared.phase.Listed.TheVariants.{QueueSet}
use Rattle.rd_state.specs.Snapshot.{Snapshot, queue_set_at, with_queue_set}
use Rattle.rd_kernel.specs.Outcomes.{Called, blocked, call_returns}
use Rattle.rd_kernel.specs.Waking.{may_wait}

-- Is there no handle?
abbrev pub has_no_handle : QueueSetSnapshot → Bool
has_no_handle queue_set = nat_eq (length queue_set.handles) 0

-- the first handle has left the set
abbrev pub with_handle_taken : Snapshot → ℕ → Snapshot
with_handle_taken s queue_set =
    with_queue_set s queue_set
    (with_handles (queue_set_at s queue_set) (drop 1 (queue_set_at s queue_set).handles))

-- xQueueSelectFromSet: where there is a handle, the oldest leaves, and what is returned is the
-- number of its queue and 1, since 0 says that there is none
abbrev pub select_outcome : List ℕ → Snapshot → ℕ → ℕ → Operand → Called
select_outcome priorities s task queue_set wait =
    if has_no_handle (queue_set_at s queue_set) then blocked priorities s task
    (QueueSet queue_set) wait
    else call_returns (with_handle_taken s queue_set)
    (slice_index (queue_set_at s queue_set).handles 0 + 1)

-- what a call of a set does
abbrev pub queue_set_outcome : List ℕ → Snapshot → ℕ → ℕ → QueueSetCall → Called
queue_set_outcome priorities s task queue_set (Select wait) =
    select_outcome priorities s task queue_set wait

-- what it takes in a record at the most
abbrev pub queue_set_call_cost : ℕ
queue_set_call_cost = 1

-- The call can't be done and may not wait: it changes nothing.
abbrev pub QueueSetCallChangesNothing : Snapshot → ℕ → ℕ → QueueSetCall → Type 0
QueueSetCallChangesNothing s task queue_set (Select wait) =
    (has_no_handle (queue_set_at s queue_set) ≡ true) × (may_wait s task wait ≡ false)
