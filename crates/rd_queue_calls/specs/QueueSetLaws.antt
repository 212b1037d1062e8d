-- Laws of queue sets, in their own words.
use Rattle.std.specs.Prelude.{ℕ, ◌≡◌, ◌++◌, ◌∷◌, [], true, false, List, Option, None, Some, drop}
use Rattle.std.specs.Prelude.{map}
use Rattle.std.specs.Prelude.{slice_set, if◌then◌else◌}
use Rattle.rd_app.specs.declared.instr.Operand.{Operand}
use Rattle.rd_app.specs.declared.instr.QueueCall.{QueueCall}
use Rattle.rd_app.specs.declared.instr.QueueCall.TheVariants.{Send, Receive, Peek}
use Rattle.rd_app.specs.declared.instr.QueueCall.TheVariants.{Overwrite, Reset, Count, Spaces}
use Rattle.rd_app.specs.declared.instr.QueueCall.TheVariants.{AddToSet, RemoveFromSet}
use Rattle.rd_app.specs.declared.instr.QueueSetCall.{QueueSetCall}
use Rattle.rd_app.specs.declared.instr.QueueSetCall.TheVariants.{Select}
use Rattle.rd_queue.specs.declared.end.End.{End}
use Rattle.rd_state.specs.declared.phase.Cause.TheVariants.{SetFull}
use Rattle.rd_state.specs.Snapshot.{Snapshot, queue_at, queue_set_at}
use Rattle.rd_kernel.specs.Outcomes.{call_fails, call_passes}
use Rattle.rd_kernel.specs.Waking.{may_wait}
use Rattle.rd_queue_calls.specs.Posts.{call_breaks, is_in_full_queue_set, membership_of}
use Rattle.rd_queue_calls.specs.QueueCalls.{is_empty, is_full, overwrite_outcome, queue_outcome}
use Rattle.rd_queue_calls.specs.QueueCalls.{send_outcome, with_item_over}
use Rattle.rd_queue_calls.specs.QueueSetCalls.{has_no_handle, queue_set_outcome}

-- the handles of all sets
abbrev pub handles_in : Snapshot → List (List ℕ)
handles_in s = map (λ queue_set. queue_set.handles) s.objects.queue_sets

-- the handles once an item was posted: one more at the back of the queue's set, if it is in one
abbrev pub handles_posted : Snapshot → ℕ → Option ℕ → List (List ℕ)
handles_posted s queue None = handles_in s
handles_posted s queue (Some queue_set) =
    slice_set (handles_in s) queue_set ((queue_set_at s queue_set).handles ++ queue ∷ [])

-- once one was sent, unless the set is full
abbrev pub handles_sent : Snapshot → ℕ → List (List ℕ)
handles_sent s queue =
    if is_in_full_queue_set s (membership_of s queue) then handles_in s
    else handles_posted s queue (membership_of s queue)

-- the handles after a call: a send into a queue with space and an overwrite of an empty one add one
-- at the most, and no other call changes any
abbrev pub handles_after : Snapshot → ℕ → QueueCall → List (List ℕ)
handles_after s queue (Send end wait) =
    if is_full (queue_at s queue) then handles_in s else handles_sent s queue
handles_after s queue (Receive wait) = handles_in s
handles_after s queue (Peek wait) = handles_in s
handles_after s queue Overwrite =
    if is_empty (queue_at s queue) then handles_sent s queue else handles_in s
handles_after s queue Reset = handles_in s
handles_after s queue Count = handles_in s
handles_after s queue Spaces = handles_in s
handles_after s queue (AddToSet queue_set) = handles_in s
handles_after s queue (RemoveFromSet queue_set) = handles_in s

-- a select takes just the one at the front, if there is one
abbrev pub handles_selected : Snapshot → ℕ → QueueSetCall → List (List ℕ)
handles_selected s queue_set (Select wait) =
    if has_no_handle (queue_set_at s queue_set) then handles_in s
    else slice_set (handles_in s) queue_set (drop 1 (queue_set_at s queue_set).handles)

pub record HandlesGoByCalls : Type 0 where
  pub of_queues : (priorities : List ℕ) (s : Snapshot) (task queue : ℕ) (call : QueueCall)
      → handles_in (queue_outcome priorities s task queue call).state ≡ handles_after s queue call
  pub of_queue_sets : (priorities : List ℕ) (s : Snapshot) (task queue_set : ℕ)
      (call : QueueSetCall)
      → handles_in (queue_set_outcome priorities s task queue_set call).state
      ≡ handles_selected s queue_set call

-- An overwrite of an item that is there, in a member, changes that item and nothing else: it
-- neither posts nor wakes anybody.
abbrev pub OverwritesPostOnce : Type 0
OverwritesPostOnce =
    (priorities : List ℕ) (s : Snapshot) (task queue queue_set : ℕ) → is_empty (queue_at s queue)
    ≡ false
    → membership_of s queue ≡ Some queue_set
    → overwrite_outcome priorities s task queue ≡ call_passes (with_item_over s task queue)

-- A send that fails leaves everything as it was: one into a full queue that may not wait, and one
-- into a queue with space, in a full set.
pub record FailedSendsLeaveAll : Type 0 where
  pub full : (priorities : List ℕ) (s : Snapshot) (task queue : ℕ) (end : End) (wait : Operand)
      → is_full (queue_at s queue) ≡ true → may_wait s task wait ≡ false
      → send_outcome priorities s task queue end wait ≡ call_fails s
  pub full_queue_set : (priorities : List ℕ) (s : Snapshot) (task queue : ℕ) (end : End)
      (wait : Operand)
      → is_full (queue_at s queue) ≡ false → is_in_full_queue_set s (membership_of s queue) ≡ true
      → send_outcome priorities s task queue end wait ≡ call_breaks s SetFull
