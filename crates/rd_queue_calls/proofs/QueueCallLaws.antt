-- What the calls of a queue and of a set keep of what makes a state valid.
use Rattle.std.proofs.Common.{◌≡◌, ◌∙◌, ℕ, ◌+◌, ◌-◌, ◌<◌, ◌≤◌, ◌&&◌, Bool, true, false, cond, [], ◌∷◌, ◌++◌, List, length, get_or, set, slice_index}
use Rattle.std.proofs.Common.{drop}
use Rattle.std.proofs.Common.{Option, Some, None, refl, ap, subst, sym, arith}
use Rattle.std.specs.Prelude.{IfSome}
use Rattle.std.proofs.lemmas.List.{length-set}
use Rattle.rd_app.specs.declared.instr.Instr.{Instr}
use Rattle.rd_app.specs.declared.instr.Instr.TheVariants as instr
use Rattle.rd_app.specs.declared.instr.QueueCall.{QueueCall}
use Rattle.rd_app.specs.declared.instr.QueueCall.TheVariants.{Send, Receive, Peek, Overwrite, Reset, Count, Spaces, AddToSet, RemoveFromSet}
use Rattle.rd_app.specs.declared.instr.QueueSetCall.{QueueSetCall}
use Rattle.rd_app.specs.declared.instr.QueueSetCall.TheVariants.{Select}
use Rattle.rd_app.specs.Application.{Application, code_of, priorities_of}
use Rattle.rd_queue.specs.Changes.{put_at, queue_applied}
use Rattle.rd_queue.specs.declared.end.End.{End}
use Rattle.rd_queue.specs.declared.end.End.TheVariants.{Back, Front}
use Rattle.rd_queue.specs.declared.waiting_list.WaitingList.{WaitingList}
use Rattle.rd_queue.specs.declared.waiting_list.WaitingList.TheVariants.{Receiving, Sending}
use Rattle.rd_queue.specs.QueueSnapshot.{QueueSnapshot}
use Rattle.rd_queue.specs.Queues.{with_items}
use Rattle.rd_queue.specs.QueueSets.{with_handles}
use Rattle.rd_state.specs.declared.phase.Cause.TheVariants.{SetFull}
use Rattle.rd_state.specs.declared.phase.Held.{Held}
use Rattle.rd_state.specs.declared.phase.Listed.{Listed}
use Rattle.rd_state.specs.declared.phase.Listed.TheVariants.{Queue, QueueSet}
use Rattle.rd_state.specs.Sizes.{IsSized}
use Rattle.rd_state.specs.Snapshot.{Snapshot, TaskSnapshot, no_task, task_at, queue_at, queue_set_at, with_queue, with_queue_set, items_at}
use Rattle.rd_state.specs.Valid.{entry_of_call, times_to_run, times_in_list}
use Rattle.rd_state.specs.Waiting.{HasList, holder_at, waiting_at}
use Rattle.rd_state.proofs.Offered.{queue_sized}
use Rattle.rd_kernel.specs.Outcomes.{call_returns, call_fails, call_passes, concluded}
use Rattle.rd_kernel.proofs.Offered.{IsConsistent, IsConsistent-valid, IsCallDone, all_have_time_left, task_now}
use Rattle.rd_kernel.proofs.Offered.{RunsInstr, IsConsistent-returned_alone, IsConsistent-done, IsConsistent-failed, IsConsistent-or_blocked}
use Rattle.rd_kernel.proofs.Offered.{IsFree, IsFree-objects, free_at}
use Rattle.rd_kernel.proofs.Offered.{IsConsistent-returned, IsConsistent-with_values, or_blocked-tick, waits_is_task, woken_first-tick}
use Rattle.rd_queue_calls.proofs.ContentsLaws.{holder_at-with_queue, holder_at-with_queue_set, IsConsistent-items, IsConsistent-queue_replaced, IsConsistent-queue_set_replaced, IsSameWaiting}
use Rattle.rd_queue_calls.proofs.ContentsLaws.{waiting_at-with_queue, waiting_at-with_queue_set}
use Rattle.rd_queue_calls.specs.Posts.{call_breaks, is_in_full_queue_set, is_in_no_queue_set, is_in_queue_set, posted, replaced, membership_of}
use Rattle.rd_queue_calls.specs.Posts.{with_handle, with_member}
use Rattle.rd_queue_calls.specs.QueueCalls.{is_empty, is_full, queue_outcome, sent_item, outcome_with_space, with_item_over, with_item_peeked}
use Rattle.rd_queue_calls.specs.QueueCalls.{with_item_sent}
use Rattle.rd_queue_calls.specs.QueueCalls.{with_item_taken, with_no_items}
use Rattle.rd_queue_calls.specs.QueueSetCalls.{has_no_handle, queue_set_outcome, with_handle_taken}

-- Other items, or another set, are none of who waits.
pub items_same_waiting : (queue : QueueSnapshot) (items : List (List ℕ)) → IsSameWaiting (with_items queue items) queue
items_same_waiting queue items = record { receiving = refl; sending = refl }

pub put_same_waiting : (queue : QueueSnapshot) (end : End) (item : List ℕ) → IsSameWaiting (queue_applied queue (put_at end item)) queue
put_same_waiting queue Back item = record { receiving = refl; sending = refl }
put_same_waiting queue Front item = record { receiving = refl; sending = refl }

-- The set of a queue is there.
pub queue_set_there : (s : Snapshot) (queue : ℕ) → IsSized s → queue < length s.objects.queues → IfSome (membership_of s queue) (λ queue_set. queue_set < length s.objects.queue_sets)
queue_set_there s queue sized there =
    let here = queue_sized s queue sized there in
    subst (λ queue_sets. IfSome (membership_of s queue) (λ queue_set. queue_set < queue_sets)) here.2 here.0.queue_set

-- ---- what a call leaves

-- The tasks are as they were, and the same wait at a place.
done_as : (app : Application) (s p : Snapshot) (core task : ℕ) (instr : Instr) (place : Listed) → RunsInstr app s core task instr → entry_of_call instr ≡ None
    → IsConsistent app (all_have_time_left s.tick) p → p.tasks ≡ s.tasks → HasList s place → waiting_at p place ≡ waiting_at s place
    → ((held : Held) → holder_at p held ≡ holder_at s held) → IsCallDone app s p task place
done_as app s p core task instr place calls none consistent tasks has_place same holders =
    let is : task_at p task ≡ task_at s task = ap (λ (ts : List TaskSnapshot). get_or ts task no_task) tasks in
    record {
      consistent = consistent;
      there = omega (arith, calls.there, ap length tasks);
      runs = subst (λ (t : TaskSnapshot). 1 ≤ times_to_run t.phase) (sym is) calls.runs;
      free = IsFree-objects s.objects p.objects task (task_at p task).entries holders
          (subst (λ (t : TaskSnapshot). IsFree s.objects task t.entries) (sym is) (free_at app s core task instr calls none));
      within = subst (λ (t : TaskSnapshot). t.pc + 1 < length (code_of app task)) (sym is) calls.within;
      waiters = λ t some.
          let before = waits_is_task s place t calls.valid.in_limits.sized has_place (omega (arith, some, ap (times_in_list t) same)) in
          omega (arith, before, ap length tasks);
    }

-- A queue gets other items, and who waits in one of its lists is woken.
with_items_done : (app : Application) (s : Snapshot) (core task queue : ℕ) (list : WaitingList) (instr : Instr) (items : List (List ℕ))
    → RunsInstr app s core task instr → entry_of_call instr ≡ None → queue < length s.objects.queues
    → IsCallDone app s (with_queue s queue (with_items (queue_at s queue) items)) task (Queue queue list)
with_items_done app s core task queue list instr items calls none there =
    let now = with_items (queue_at s queue) items in
    let p = with_queue s queue now in
    done_as app s p core task instr (Queue queue list) calls none
    (IsConsistent-items app (all_have_time_left s.tick) s queue items there (IsConsistent-valid app s calls.valid)) refl there
    (waiting_at-with_queue s queue now (Queue queue list) there (items_same_waiting (queue_at s queue) items)) (holder_at-with_queue s queue now)

-- A queue gets other items, and its set a handle.
with_handle_done : (app : Application) (s : Snapshot) (core task queue number : ℕ) (instr : Instr) (items : List (List ℕ))
    → RunsInstr app s core task instr → entry_of_call instr ≡ None → queue < length s.objects.queues → number < length s.objects.queue_sets
    → IsCallDone app s (with_handle (with_queue s queue (with_items (queue_at s queue) items)) number queue) task (QueueSet number)
with_handle_done app s core task queue number instr items calls none there has_queue_set =
    let D = all_have_time_left s.tick in
    let now = with_items (queue_at s queue) items in
    let p = with_queue s queue now in
    let handles = with_handles (queue_set_at p number) ((queue_set_at p number).handles ++ queue ∷ []) in
    let q = with_queue_set p number handles in
    done_as app s q core task instr (QueueSet number) calls none
    (IsConsistent-queue_set_replaced app D p number handles has_queue_set refl refl (IsConsistent-items app D s queue items there (IsConsistent-valid app s calls.valid)))
    refl has_queue_set
    (waiting_at-with_queue_set p number handles (QueueSet number) has_queue_set refl
    ∙ waiting_at-with_queue s queue now (QueueSet number) there (items_same_waiting (queue_at s queue) items))
    (λ held. holder_at-with_queue_set p number handles held ∙ holder_at-with_queue s queue now held)

-- A queue becomes a member of a set, or of none.
with_member_done : (app : Application) (s : Snapshot) (core task queue : ℕ) (member : Option ℕ) (instr : Instr)
    → RunsInstr app s core task instr → entry_of_call instr ≡ None → queue < length s.objects.queues → IsCallDone app s (with_member s queue member) task (Queue queue Receiving)
with_member_done app s core task queue member instr calls none there =
    let now : QueueSnapshot = record (queue_at s queue) { queue_set = member } in
    let p = with_queue s queue now in
    let same_waiting : IsSameWaiting now (queue_at s queue) = record { receiving = refl; sending = refl } in
    done_as app s p core task instr (Queue queue Receiving) calls none
    (IsConsistent-queue_replaced app (all_have_time_left s.tick) s queue now there refl same_waiting (IsConsistent-valid app s calls.valid)) refl there
    (waiting_at-with_queue s queue now (Queue queue Receiving) there same_waiting) (holder_at-with_queue s queue now)

-- The first handle leaves a set.
with_handle_taken_done : (app : Application) (s : Snapshot) (core task number : ℕ) (instr : Instr)
    → RunsInstr app s core task instr → entry_of_call instr ≡ None → number < length s.objects.queue_sets → IsCallDone app s (with_handle_taken s number) task (QueueSet number)
with_handle_taken_done app s core task number instr calls none has_queue_set =
    let now = with_handles (queue_set_at s number) (drop 1 (queue_set_at s number).handles) in
    let p = with_queue_set s number now in
    done_as app s p core task instr (QueueSet number) calls none
    (IsConsistent-queue_set_replaced app (all_have_time_left s.tick) s number now has_queue_set refl refl (IsConsistent-valid app s calls.valid)) refl has_queue_set
    (waiting_at-with_queue_set s number now (QueueSet number) has_queue_set refl) (holder_at-with_queue_set s number now)

-- The first item becomes the caller's data, and who else waits for one is woken.
peeked : (app : Application) (s : Snapshot) (core task queue : ℕ) (instr : Instr) → RunsInstr app s core task instr → entry_of_call instr ≡ None → queue < length s.objects.queues
    → IsCallDone app s (with_item_peeked s task queue) task (Queue queue Receiving)
peeked app s core task queue instr calls none there =
    let x = record (task_at s task) { bytes = get_or (items_at s queue) 0 [] } in
    let p = with_item_peeked s task queue in
    let is : task_at p task ≡ x = task_now s task x calls.there in
    let same : length p.tasks ≡ length s.tasks = length-set s.tasks task x in
    record {
      consistent = IsConsistent-with_values app (all_have_time_left s.tick) s task (task_at s task).registers (get_or (items_at s queue) 0 []) calls.there
          (IsConsistent-valid app s calls.valid);
      there = omega (arith, calls.there, same);
      runs = subst (λ (t : TaskSnapshot). 1 ≤ times_to_run t.phase) (sym is) calls.runs;
      free = subst (λ (t : TaskSnapshot). IsFree s.objects task t.entries) (sym is) (free_at app s core task instr calls none);
      within = subst (λ (t : TaskSnapshot). t.pc + 1 < length (code_of app task)) (sym is) calls.within;
      waiters = λ t some. subst (λ n. t < n) (sym same) (waits_is_task s (Queue queue Receiving) t calls.valid.in_limits.sized there some);
    }

-- It leaves the queue too, and who waits for a free slot is woken.
taken : (app : Application) (s : Snapshot) (core task queue : ℕ) (instr : Instr) → RunsInstr app s core task instr → entry_of_call instr ≡ None → queue < length s.objects.queues
    → IsCallDone app s (with_item_taken s task queue) task (Queue queue Sending)
taken app s core task queue instr calls none there =
    let D = all_have_time_left s.tick in
    let items = drop 1 (items_at s queue) in
    let now = with_items (queue_at s queue) items in
    let first = get_or (items_at s queue) 0 [] in
    let without_item = with_queue s queue now in
    let x = record (task_at s task) { bytes = first } in
    let p = with_item_taken s task queue in
    let is : task_at p task ≡ x = task_now without_item task x calls.there in
    let same : length p.tasks ≡ length s.tasks = length-set s.tasks task x in
    record {
      consistent = IsConsistent-with_values app D without_item task (task_at s task).registers first calls.there
          (IsConsistent-items app D s queue items there (IsConsistent-valid app s calls.valid));
      there = omega (arith, calls.there, same);
      runs = subst (λ (t : TaskSnapshot). 1 ≤ times_to_run t.phase) (sym is) calls.runs;
      free = IsFree-objects s.objects p.objects task (task_at p task).entries (holder_at-with_queue s queue now)
          (subst (λ (t : TaskSnapshot). IsFree s.objects task t.entries) (sym is) (free_at app s core task instr calls none));
      within = subst (λ (t : TaskSnapshot). t.pc + 1 < length (code_of app task)) (sym is) calls.within;
      waiters = λ t some.
          let before = waiting_at-with_queue s queue now (Queue queue Sending) there (items_same_waiting (queue_at s queue) items) in
          subst (λ n. t < n) (sym same)
          (waits_is_task s (Queue queue Sending) t calls.valid.in_limits.sized there (omega (arith, some, ap (times_in_list t) before)));
    }

-- ---- each call

-- A call that is done returns.
returns_done : (app : Application) (s p : Snapshot) (core task value : ℕ) (place : Listed) → IsCallDone app s p task place
    → IsConsistent app (all_have_time_left s.tick) (concluded (call_returns p value) core task)
returns_done app s p core task value place done =
    IsConsistent-returned app (all_have_time_left s.tick) p task value done.there done.runs done.free done.within tt done.consistent

-- An item was put.
posts : (app : Application) (s : Snapshot) (core task queue : ℕ) (member : Option ℕ) (instr : Instr) (items : List (List ℕ))
    → RunsInstr app s core task instr → entry_of_call instr ≡ None → queue < length s.objects.queues → IfSome member (λ queue_set. queue_set < length s.objects.queue_sets)
    → IsConsistent app (all_have_time_left s.tick)
    (concluded (posted (priorities_of app) (with_queue s queue (with_items (queue_at s queue) items)) queue member) core task)
posts app s core task queue None instr items calls none there has_queue_set =
    IsConsistent-done app s (with_queue s queue (with_items (queue_at s queue) items)) core task (Queue queue Receiving)
    (with_items_done app s core task queue Receiving instr items calls none there)
posts app s core task queue (Some number) instr items calls none there has_queue_set =
    IsConsistent-done app s (with_handle (with_queue s queue (with_items (queue_at s queue) items)) number queue) core task (QueueSet number)
    (with_handle_done app s core task queue number instr items calls none there has_queue_set)

sends : (app : Application) (s : Snapshot) (core task queue : ℕ) (end : End) (instr : Instr) → RunsInstr app s core task instr → entry_of_call instr ≡ None → queue < length s.objects.queues
    → IsConsistent app (all_have_time_left s.tick) (concluded (outcome_with_space (priorities_of app) s task queue end) core task)
sends app s core task queue end instr calls none there =
    elim (is_in_full_queue_set s (membership_of s queue)) as (λ b.
    IsConsistent app (all_have_time_left s.tick)
    (concluded (cond b (call_breaks s SetFull) (posted (priorities_of app) (with_item_sent s task queue end) queue (membership_of s queue))) core task)) [
      | true ↦ IsConsistent-failed app s core task SetFull instr calls none
      | false ↦ by_end end
    ]
  where
    by_end : (end : End) → IsConsistent app (all_have_time_left s.tick)
        (concluded (posted (priorities_of app) (with_item_sent s task queue end) queue (membership_of s queue)) core task)
    by_end Back =
        posts app s core task queue (membership_of s queue) instr (items_at s queue ++ sent_item s task queue ∷ []) calls none there
        (queue_set_there s queue calls.valid.in_limits.sized there)
    by_end Front =
        posts app s core task queue (membership_of s queue) instr (sent_item s task queue ∷ items_at s queue) calls none there
        (queue_set_there s queue calls.valid.in_limits.sized there)

-- An item took the place of another.
replaces : (app : Application) (s : Snapshot) (core task queue : ℕ) (member : Option ℕ) (instr : Instr) → RunsInstr app s core task instr → entry_of_call instr ≡ None
    → queue < length s.objects.queues
    → IsConsistent app (all_have_time_left s.tick) (concluded (replaced (priorities_of app) (with_item_over s task queue) queue member) core task)
replaces app s core task queue None instr calls none there =
    IsConsistent-done app s (with_item_over s task queue) core task (Queue queue Receiving)
    (with_items_done app s core task queue Receiving instr (set (items_at s queue) 0 (sent_item s task queue)) calls none there)
replaces app s core task queue (Some number) instr calls none there =
    returns_done app s (with_item_over s task queue) core task 1 (Queue queue Receiving)
    (with_items_done app s core task queue Receiving instr (set (items_at s queue) 0 (sent_item s task queue)) calls none there)

-- A queue joins a set or leaves it, or nothing happens.
joins_or_not : (app : Application) (s : Snapshot) (core task queue : ℕ) (member : Option ℕ) (instr : Instr) (can : Bool) → RunsInstr app s core task instr → entry_of_call instr ≡ None
    → queue < length s.objects.queues
    → IsConsistent app (all_have_time_left s.tick) (concluded (cond can (call_passes (with_member s queue member)) (call_fails s)) core task)
joins_or_not app s core task queue member instr can calls none there =
    elim can as (λ b. IsConsistent app (all_have_time_left s.tick) (concluded (cond b (call_passes (with_member s queue member)) (call_fails s)) core task)) [
      | true ↦
          returns_done app s (with_member s queue member) core task 1 (Queue queue Receiving)
          (with_member_done app s core task queue member instr calls none there)
      | false ↦ IsConsistent-returned_alone app s core task 0 instr calls none
    ]

-- A call of a queue leaves what stands, and the tick.
pub IsConsistent-queue_call : (app : Application) (s : Snapshot) (core task queue : ℕ) (call : QueueCall) → RunsInstr app s core task (instr.Queue queue call)
    → queue < length s.objects.queues
    → IsConsistent app (all_have_time_left s.tick) (concluded (queue_outcome (priorities_of app) s task queue call) core task)
IsConsistent-queue_call app s core task queue (Send end wait) calls there =
    IsConsistent-or_blocked app s core task (instr.Queue queue (Send end wait)) (Queue queue Sending) wait (is_full (queue_at s queue))
    (outcome_with_space (priorities_of app) s task queue end) calls there refl (sends app s core task queue end (instr.Queue queue (Send end wait)) calls refl there)
IsConsistent-queue_call app s core task queue (Receive wait) calls there =
    IsConsistent-or_blocked app s core task (instr.Queue queue (Receive wait)) (Queue queue Receiving) wait (is_empty (queue_at s queue)) _ calls there refl
    (IsConsistent-done app s (with_item_taken s task queue) core task (Queue queue Sending)
    (taken app s core task queue (instr.Queue queue (Receive wait)) calls refl there))
IsConsistent-queue_call app s core task queue (Peek wait) calls there =
    IsConsistent-or_blocked app s core task (instr.Queue queue (Peek wait)) (Queue queue Receiving) wait (is_empty (queue_at s queue)) _ calls there refl
    (IsConsistent-done app s (with_item_peeked s task queue) core task (Queue queue Receiving)
    (peeked app s core task queue (instr.Queue queue (Peek wait)) calls refl there))
IsConsistent-queue_call app s core task queue Overwrite calls there =
    elim (is_empty (queue_at s queue)) as (λ b.
    IsConsistent app (all_have_time_left s.tick)
    (concluded (cond b (outcome_with_space (priorities_of app) s task queue Back)
    (replaced (priorities_of app) (with_item_over s task queue) queue (membership_of s queue))) core task)) [
      | true ↦ sends app s core task queue Back (instr.Queue queue Overwrite) calls refl there
      | false ↦ replaces app s core task queue (membership_of s queue) (instr.Queue queue Overwrite) calls refl there
    ]
IsConsistent-queue_call app s core task queue Reset calls there =
    IsConsistent-done app s (with_no_items s queue) core task (Queue queue Sending)
    (with_items_done app s core task queue Sending (instr.Queue queue Reset) [] calls refl there)
IsConsistent-queue_call app s core task queue Count calls there =
    IsConsistent-returned_alone app s core task (length (items_at s queue)) (instr.Queue queue Count) calls refl
IsConsistent-queue_call app s core task queue Spaces calls there =
    IsConsistent-returned_alone app s core task ((queue_at s queue).capacity - length (items_at s queue)) (instr.Queue queue Spaces) calls refl
IsConsistent-queue_call app s core task queue (AddToSet number) calls there =
    joins_or_not app s core task queue (Some number) (instr.Queue queue (AddToSet number)) (is_empty (queue_at s queue) && is_in_no_queue_set (membership_of s queue)) calls refl there
IsConsistent-queue_call app s core task queue (RemoveFromSet number) calls there =
    joins_or_not app s core task queue None (instr.Queue queue (RemoveFromSet number)) (is_empty (queue_at s queue) && is_in_queue_set number (membership_of s queue)) calls
    refl there

-- and so does a call of a set.
pub IsConsistent-queue_set_call : (app : Application) (s : Snapshot) (core task number : ℕ) (call : QueueSetCall) → RunsInstr app s core task (instr.QueueSet number call)
    → number < length s.objects.queue_sets
    → IsConsistent app (all_have_time_left s.tick) (concluded (queue_set_outcome (priorities_of app) s task number call) core task)
IsConsistent-queue_set_call app s core task number (Select wait) calls there =
    IsConsistent-or_blocked app s core task (instr.QueueSet number (Select wait)) (QueueSet number) wait (has_no_handle (queue_set_at s number)) _ calls there refl
    (returns_done app s (with_handle_taken s number) core task (slice_index (queue_set_at s number).handles 0 + 1) (QueueSet number)
    (with_handle_taken_done app s core task number (instr.QueueSet number (Select wait)) calls refl there))

-- ---- the tick

posts-tick : (priorities : List ℕ) (s : Snapshot) (core task queue : ℕ) (member : Option ℕ) → (concluded (posted priorities s queue member) core task).tick ≡ s.tick
posts-tick priorities s core task queue None = woken_first-tick priorities s (Queue queue Receiving)
posts-tick priorities s core task queue (Some number) = woken_first-tick priorities (with_handle s number queue) (QueueSet number)

sends-tick : (priorities : List ℕ) (s : Snapshot) (core task queue : ℕ) (end : End)
    → (concluded (outcome_with_space priorities s task queue end) core task).tick ≡ s.tick
sends-tick priorities s core task queue end =
    elim (is_in_full_queue_set s (membership_of s queue)) as (λ b.
    (concluded (cond b (call_breaks s SetFull) (posted priorities (with_item_sent s task queue end) queue (membership_of s queue))) core task).tick ≡ s.tick) [
      | true ↦ refl
      | false ↦ posts-tick priorities (with_item_sent s task queue end) core task queue (membership_of s queue)
    ]

replaces-tick : (priorities : List ℕ) (s : Snapshot) (core task queue : ℕ) (member : Option ℕ)
    → (concluded (replaced priorities s queue member) core task).tick ≡ s.tick
replaces-tick priorities s core task queue None = woken_first-tick priorities s (Queue queue Receiving)
replaces-tick priorities s core task queue (Some number) = refl

joins_or_not-tick : (s : Snapshot) (core task queue : ℕ) (member : Option ℕ) (can : Bool)
    → (concluded (cond can (call_passes (with_member s queue member)) (call_fails s)) core task).tick ≡ s.tick
joins_or_not-tick s core task queue member can =
    elim can as (λ b. (concluded (cond b (call_passes (with_member s queue member)) (call_fails s)) core task).tick ≡ s.tick) [ true ↦ refl | false ↦ refl ]

pub queue_call-tick : (priorities : List ℕ) (s : Snapshot) (core task queue : ℕ) (call : QueueCall)
    → (concluded (queue_outcome priorities s task queue call) core task).tick ≡ s.tick
queue_call-tick priorities s core task queue (Send end wait) =
    or_blocked-tick priorities s core task (Queue queue Sending) wait (is_full (queue_at s queue)) (outcome_with_space priorities s task queue end)
    (sends-tick priorities s core task queue end)
queue_call-tick priorities s core task queue (Receive wait) =
    or_blocked-tick priorities s core task (Queue queue Receiving) wait (is_empty (queue_at s queue)) _
    (woken_first-tick priorities (with_item_taken s task queue) (Queue queue Sending))
queue_call-tick priorities s core task queue (Peek wait) =
    or_blocked-tick priorities s core task (Queue queue Receiving) wait (is_empty (queue_at s queue)) _
    (woken_first-tick priorities (with_item_peeked s task queue) (Queue queue Receiving))
queue_call-tick priorities s core task queue Overwrite =
    elim (is_empty (queue_at s queue)) as (λ b.
    (concluded (cond b (outcome_with_space priorities s task queue Back) (replaced priorities (with_item_over s task queue) queue (membership_of s queue))) core task).tick
    ≡ s.tick) [
      | true ↦ sends-tick priorities s core task queue Back
      | false ↦ replaces-tick priorities (with_item_over s task queue) core task queue (membership_of s queue)
    ]
queue_call-tick priorities s core task queue Reset = woken_first-tick priorities (with_no_items s queue) (Queue queue Sending)
queue_call-tick priorities s core task queue Count = refl
queue_call-tick priorities s core task queue Spaces = refl
queue_call-tick priorities s core task queue (AddToSet number) =
    joins_or_not-tick s core task queue (Some number) (is_empty (queue_at s queue) && is_in_no_queue_set (membership_of s queue))
queue_call-tick priorities s core task queue (RemoveFromSet number) =
    joins_or_not-tick s core task queue None (is_empty (queue_at s queue) && is_in_queue_set number (membership_of s queue))

pub queue_set_call-tick : (priorities : List ℕ) (s : Snapshot) (core task number : ℕ) (call : QueueSetCall)
    → (concluded (queue_set_outcome priorities s task number call) core task).tick ≡ s.tick
queue_set_call-tick priorities s core task number (Select wait) =
    or_blocked-tick priorities s core task (QueueSet number) wait (has_no_handle (queue_set_at s number)) _ refl
