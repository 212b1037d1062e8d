-- Laws of queue sets.
use Rattle.std.proofs.Common.{◌≡◌, ◌∙◌, ℕ, zero, suc, ◌++◌, ◌∷◌, [], ◌&&◌, Bool, true, false, cond, List, Option, None, Some, get_or, set}
use Rattle.std.proofs.Common.{slice_index, map, drop}
use Rattle.std.proofs.Common.{refl, ap}
use Rattle.std.specs.Prelude.{◌+◌, nat_eq, position, remove, slice_get}
use Rattle.std.specs.Option.{option_to_list}
use Rattle.rd_wait.specs.Joined.{joined}
use Rattle.rd_app.specs.declared.instr.Operand.{Operand}
use Rattle.rd_app.specs.declared.instr.QueueCall.{QueueCall}
use Rattle.rd_app.specs.declared.instr.QueueCall.TheVariants.{Send, Receive, Peek, Overwrite, Reset, Count, Spaces, AddToSet, RemoveFromSet}
use Rattle.rd_app.specs.declared.instr.QueueSetCall.{QueueSetCall}
use Rattle.rd_app.specs.declared.instr.QueueSetCall.TheVariants.{Select}
use Rattle.rd_queue.specs.declared.end.End.{End}
use Rattle.rd_queue.specs.declared.end.End.TheVariants.{Back}
use Rattle.rd_queue.specs.declared.waiting_list.WaitingList.TheVariants.{Receiving, Sending}
use Rattle.rd_queue.specs.QueueSetSnapshot.{QueueSetSnapshot}
use Rattle.rd_queue.specs.QueueSets.{with_handles, with_waiting_tasks}
use Rattle.rd_state.specs.declared.phase.Cause.TheVariants.{SetFull}
use Rattle.rd_state.specs.declared.phase.Listed.{Listed}
use Rattle.rd_state.specs.declared.phase.Place.{Place}
use Rattle.rd_state.specs.declared.phase.Place.TheVariants as sort
use Rattle.rd_state.specs.declared.phase.Listed.TheVariants.{Queue, QueueSet, Group}
use Rattle.rd_group.specs.declared.wish.Wish.{Wish}
use Rattle.rd_state.specs.Phases.{waits_at}
use Rattle.rd_state.specs.Snapshot.{Snapshot, queue_at, queue_set_at, task_at}
use Rattle.rd_state.specs.Objects.{no_queue_set}
use Rattle.rd_state.specs.Waiting.{objects_then, waiting_at, wishes_in}
use Rattle.rd_kernel.specs.Outcomes.{Called, blocked, call_returns, call_fails, call_passes, passed}
use Rattle.rd_kernel.specs.declared.outcome.Outcome.TheVariants.{Waits}
use Rattle.rd_kernel.specs.declared.waking.Waking.{Waking}
use Rattle.rd_kernel.specs.declared.waking.Waking.TheVariants.{TriesAgain}
use Rattle.rd_kernel.specs.Waking.{deadline_of, may_wait, objects_without, with_waiter, woken, woken_all, woken_at, woken_first}
use Rattle.rd_queue_calls.specs.Posts.{call_breaks, is_in_full_queue_set, is_in_no_queue_set, is_in_queue_set, posted, replaced, membership_of, with_handle}
use Rattle.rd_queue_calls.specs.Posts.{with_member}
use Rattle.rd_queue_calls.specs.QueueCalls.{is_empty, is_full, queue_outcome, outcome_with_space, with_item_over, with_item_peeked, with_item_sent}
use Rattle.rd_queue_calls.specs.QueueCalls.{with_item_taken, with_no_items}
use Rattle.rd_queue_calls.specs.QueueSetCalls.{has_no_handle, queue_set_outcome, with_handle_taken}
use Rattle.rd_queue_calls.specs.QueueSetLaws.{FailedSendsLeaveAll, HandlesGoByCalls, OverwritesPostOnce, handles_after, handles_in, handles_posted}
use Rattle.rd_queue_calls.specs.QueueSetLaws.{handles_selected}
use Rattle.rd_queue_calls.specs.QueueSetLaws.{handles_sent}

-- ---- who waits is none of the handles

-- a set in the place of another
handles_queue_set : (queue_sets : List QueueSetSnapshot) (number : ℕ) (now : QueueSetSnapshot)
    → map (λ (q : QueueSetSnapshot). q.handles) (set queue_sets number now) ≡ set (map (λ (q : QueueSetSnapshot). q.handles) queue_sets) number now.handles
handles_queue_set [] number now = refl
handles_queue_set (q ∷ queue_sets) zero now = refl
handles_queue_set (q ∷ queue_sets) (suc number) now = ap (λ rest. q.handles ∷ rest) (handles_queue_set queue_sets number now)

-- other tasks that wait at one
handles_same : (queue_sets : List QueueSetSnapshot) (number : ℕ) (tasks : List ℕ)
    → map (λ (q : QueueSetSnapshot). q.handles) (set queue_sets number (with_waiting_tasks (get_or queue_sets number no_queue_set) tasks)) ≡ map (λ (q : QueueSetSnapshot). q.handles) queue_sets
handles_same [] number tasks = refl
handles_same (q ∷ queue_sets) zero tasks = refl
handles_same (q ∷ queue_sets) (suc number) tasks = ap (λ rest. q.handles ∷ rest) (handles_same queue_sets number tasks)

handles_then : (s : Snapshot) (place : Listed) (tasks : List ℕ) (wishes : List Wish)
    → map (λ (q : QueueSetSnapshot). q.handles) (objects_then s.objects place tasks wishes).queue_sets ≡ handles_in s
handles_then s (Queue queue list) tasks wishes = refl
handles_then s (QueueSet number) tasks wishes = handles_same s.objects.queue_sets number tasks
handles_then s (Group group) tasks wishes = refl

handles_without : (s : Snapshot) (place : Listed) (o : Option ℕ) → map (λ (q : QueueSetSnapshot). q.handles) (objects_without s.objects place o).queue_sets ≡ handles_in s
handles_without s place None = refl
handles_without s place (Some index) = handles_then s place (remove (waiting_at s place) index) (remove (wishes_in s.objects place) index)

handles_woken_at : (priorities : List ℕ) (waking : Waking) (s : Snapshot) (task : ℕ) (o : Option Place)
    → handles_in (woken_at priorities waking s task o) ≡ handles_in s
handles_woken_at priorities waking s task None = refl
handles_woken_at priorities waking s task (Some (sort.Listed list)) = handles_without s list (position (λ member. nat_eq member task) (waiting_at s list))
handles_woken_at priorities waking s task (Some (sort.Entry index)) = refl
handles_woken_at priorities waking s task (Some (sort.Held held)) = refl

pub handles_woken_all : (priorities : List ℕ) (waking : Waking) (s : Snapshot) (tasks : List ℕ) → handles_in (woken_all priorities waking s tasks) ≡ handles_in s
handles_woken_all priorities waking s [] = refl
handles_woken_all priorities waking s (first ∷ rest) =
    handles_woken_all priorities waking (woken priorities waking s first) rest ∙ handles_woken_at priorities waking s first (waits_at (task_at s first).phase)

handles_woken_first : (priorities : List ℕ) (s : Snapshot) (place : Listed) → handles_in (woken_first priorities s place) ≡ handles_in s
handles_woken_first priorities s place = handles_woken_all priorities TriesAgain s (option_to_list (slice_get (waiting_at s place) 0))

handles_blocked : (priorities : List ℕ) (s : Snapshot) (task : ℕ) (place : Listed) (wait : Operand)
    → handles_in (blocked priorities s task place wait).state ≡ handles_in s
handles_blocked priorities s task place wait =
    elim (may_wait s task wait) as (λ b.
    handles_in (cond b (record { state = with_waiter priorities s place task; outcome = Waits (sort.Listed place) (deadline_of s task wait) }) (call_fails s)).state ≡ handles_in s) [
      | true ↦ handles_then s place (joined priorities (waiting_at s place) task) []
      | false ↦ refl
    ]

-- ---- each call

-- A call that either can't be done, or leaves these handles.
handles_or_blocked : (priorities : List ℕ) (s : Snapshot) (task : ℕ) (place : Listed) (wait : Operand) (cannot : Bool) (called : Called) (after : List (List ℕ))
    → handles_in called.state ≡ after
    → handles_in (cond cannot (blocked priorities s task place wait) called).state ≡ cond cannot (handles_in s) after
handles_or_blocked priorities s task place wait cannot called after is =
    elim cannot as (λ b. handles_in (cond b (blocked priorities s task place wait) called).state ≡ cond b (handles_in s) after) [
      | true ↦ handles_blocked priorities s task place wait
      | false ↦ is
    ]

same_either_way : (b : Bool) (handles : List (List ℕ)) → cond b handles handles ≡ handles
same_either_way true handles = refl
same_either_way false handles = refl

pub handles_of_posts : (priorities : List ℕ) (s : Snapshot) (queue : ℕ) (member : Option ℕ)
    → handles_in (posted priorities s queue member).state ≡ handles_posted s queue member
handles_of_posts priorities s queue None = handles_woken_first priorities s (Queue queue Receiving)
handles_of_posts priorities s queue (Some number) =
    handles_woken_first priorities (with_handle s number queue) (QueueSet number)
    ∙ handles_queue_set s.objects.queue_sets number (with_handles (queue_set_at s number) ((queue_set_at s number).handles ++ queue ∷ []))

handles_of_sends : (priorities : List ℕ) (s : Snapshot) (task queue : ℕ) (end : End)
    → handles_in (outcome_with_space priorities s task queue end).state ≡ handles_sent s queue
handles_of_sends priorities s task queue end =
    elim (is_in_full_queue_set s (membership_of s queue)) as (λ b.
    handles_in (cond b (call_breaks s SetFull) (posted priorities (with_item_sent s task queue end) queue (membership_of s queue))).state
    ≡ cond b (handles_in s) (handles_posted s queue (membership_of s queue))) [
      | true ↦ refl
      | false ↦ posts (membership_of s queue)
    ]
  where
    posts : (member : Option ℕ) → handles_in (posted priorities (with_item_sent s task queue end) queue member).state ≡ handles_posted s queue member
    posts None = handles_of_posts priorities (with_item_sent s task queue end) queue None
    posts (Some number) = handles_of_posts priorities (with_item_sent s task queue end) queue (Some number)

handles_of_replaced : (priorities : List ℕ) (s : Snapshot) (queue : ℕ) (member : Option ℕ) → handles_in (replaced priorities s queue member).state ≡ handles_in s
handles_of_replaced priorities s queue None = handles_woken_first priorities s (Queue queue Receiving)
handles_of_replaced priorities s queue (Some number) = refl

handles_of_joining : (s : Snapshot) (queue : ℕ) (member : Option ℕ) (can : Bool)
    → handles_in (cond can (call_passes (with_member s queue member)) (call_fails s)).state ≡ handles_in s
handles_of_joining s queue member can =
    elim can as (λ b. handles_in (cond b (call_passes (with_member s queue member)) (call_fails s)).state ≡ handles_in s) [ true ↦ refl | false ↦ refl ]

of_queues : (priorities : List ℕ) (s : Snapshot) (task queue : ℕ) (call : QueueCall)
    → handles_in (queue_outcome priorities s task queue call).state ≡ handles_after s queue call
of_queues priorities s task queue (Send end wait) =
    handles_or_blocked priorities s task (Queue queue Sending) wait (is_full (queue_at s queue)) (outcome_with_space priorities s task queue end) (handles_sent s queue)
    (handles_of_sends priorities s task queue end)
of_queues priorities s task queue (Receive wait) =
    handles_or_blocked priorities s task (Queue queue Receiving) wait (is_empty (queue_at s queue))
    (passed priorities (with_item_taken s task queue) (Queue queue Sending)) (handles_in s)
    (handles_woken_first priorities (with_item_taken s task queue) (Queue queue Sending))
    ∙ same_either_way (is_empty (queue_at s queue)) (handles_in s)
of_queues priorities s task queue (Peek wait) =
    handles_or_blocked priorities s task (Queue queue Receiving) wait (is_empty (queue_at s queue))
    (passed priorities (with_item_peeked s task queue) (Queue queue Receiving)) (handles_in s)
    (handles_woken_first priorities (with_item_peeked s task queue) (Queue queue Receiving))
    ∙ same_either_way (is_empty (queue_at s queue)) (handles_in s)
of_queues priorities s task queue Overwrite =
    elim (is_empty (queue_at s queue)) as (λ b.
    handles_in (cond b (outcome_with_space priorities s task queue Back) (replaced priorities (with_item_over s task queue) queue (membership_of s queue))).state
    ≡ cond b (handles_sent s queue) (handles_in s)) [
      | true ↦ handles_of_sends priorities s task queue Back
      | false ↦ handles_of_replaced priorities (with_item_over s task queue) queue (membership_of s queue)
    ]
of_queues priorities s task queue Reset = handles_woken_first priorities (with_no_items s queue) (Queue queue Sending)
of_queues priorities s task queue Count = refl
of_queues priorities s task queue Spaces = refl
of_queues priorities s task queue (AddToSet number) =
    handles_of_joining s queue (Some number) (is_empty (queue_at s queue) && is_in_no_queue_set (membership_of s queue))
of_queues priorities s task queue (RemoveFromSet number) =
    handles_of_joining s queue None (is_empty (queue_at s queue) && is_in_queue_set number (membership_of s queue))

of_queue_sets : (priorities : List ℕ) (s : Snapshot) (task number : ℕ) (call : QueueSetCall)
    → handles_in (queue_set_outcome priorities s task number call).state ≡ handles_selected s number call
of_queue_sets priorities s task number (Select wait) =
    handles_or_blocked priorities s task (QueueSet number) wait (has_no_handle (queue_set_at s number))
    (call_returns (with_handle_taken s number) (slice_index (queue_set_at s number).handles 0 + 1)) (set (handles_in s) number (drop 1 (queue_set_at s number).handles))
    (handles_queue_set s.objects.queue_sets number (with_handles (queue_set_at s number) (drop 1 (queue_set_at s number).handles)))

pub handles_go_by_calls : HandlesGoByCalls
handles_go_by_calls = record { of_queues = of_queues; of_queue_sets = of_queue_sets }

-- ---- what changes nothing else

pub overwrites_post_once : OverwritesPostOnce
overwrites_post_once priorities s task queue number some member =
    ap (λ b. cond b (outcome_with_space priorities s task queue Back) (replaced priorities (with_item_over s task queue) queue (membership_of s queue))) some
    ∙ ap (replaced priorities (with_item_over s task queue) queue) member

pub failed_sends_leave_all : FailedSendsLeaveAll
failed_sends_leave_all = record {
  full = λ priorities s task queue end wait full never.
      ap (λ b. cond b (blocked priorities s task (Queue queue Sending) wait) (outcome_with_space priorities s task queue end)) full
      ∙ ap (λ b. cond b (record { state = with_waiter priorities s (Queue queue Sending) task; outcome = Waits (sort.Listed (Queue queue Sending)) (deadline_of s task wait) })
      (call_fails s)) never;
  full_queue_set = λ priorities s task queue end wait space full.
      ap (λ b. cond b (blocked priorities s task (Queue queue Sending) wait) (outcome_with_space priorities s task queue end)) space
      ∙ ap (λ b. cond b (call_breaks s SetFull) (posted priorities (with_item_sent s task queue end) queue (membership_of s queue))) full;
}
