-- An interrupt leaves a valid state, with nothing to schedule; and its laws.
use Rattle.std.proofs.Common.{◌≡◌, ◌∙◌, ℕ, ◌<◌, ◌∷◌, ◌++◌, Bool, true, false, cond, [], List, length, None, Some, Option, refl, ap, subst, sym, arith}
use Rattle.std.specs.Prelude.{IfSome}
use Rattle.rd_app.specs.Application.{Application, IsApplication, priorities_of}
use Rattle.rd_queue.specs.declared.waiting_list.WaitingList.TheVariants.{Receiving}
use Rattle.rd_queue.specs.Queues.{fitted}
use Rattle.rd_state.specs.declared.phase.Listed.TheVariants.{Queue, QueueSet}
use Rattle.rd_state.specs.Phases.{waits_at}
use Rattle.rd_state.specs.Settled.{IsSettled, lineup_of, settled}
use Rattle.rd_state.specs.Sizes.{IsSized}
use Rattle.rd_state.specs.Snapshot.{Snapshot, queue_at, task_at}
use Rattle.rd_state.specs.Valid.{IsValid}
use Rattle.rd_state.proofs.Offered.{Rescheduled, Rescheduled-settled, queue_count_shaped, scheduling_settles, settled-still}
use Rattle.rd_kernel.specs.Tasks.{entry_at}
use Rattle.rd_kernel.specs.Waking.{ReadyHasRoom}
use Rattle.rd_state.specs.Waiting.{waiting_at}
use Rattle.rd_kernel.proofs.Offered.{IsConsistent, IsConsistent-rescheduled, IsConsistent-valid, IsValid-consistent, all_have_time_left, room_while_a_list_has_one}
use Rattle.rd_moves.specs.Interrupts.{IsInterruptOf, PlainInterrupt}
use Rattle.rd_moves.specs.declared.interrupt.Interrupt.TheVariants.{Notify, Send}
use Rattle.rd_notify_calls.proofs.Offered.{IsConsistent-notified, notified-has_received, notified-tick}
use Rattle.rd_notify.specs.Entries.{entry_notified, is_left_alone}
use Rattle.rd_kernel.specs.Telling.{told}
use Rattle.rd_queue_calls.specs.Posts.{list_posted_to, membership_of, posted}
use Rattle.rd_queue_calls.proofs.Offered.{IsConsistent-posted, post_wakes_the_first, posted-tick, queue_set_there, waiting-put}
use Rattle.rd_interrupts.specs.Interrupts.{IsInterruptAt, after_interrupt, has_no_space, interrupted, isr_answer, with_item_put}
use Rattle.rd_interrupts.specs.InterruptLaws.{NotificationsArriveByInterrupt, RefusedInterruptsChangeNothing, SendsWakeTheFirst}

-- ---- what it names is there

queue_there : (app : Application) (s : Snapshot) (queue : ℕ) → IsValid app s → queue < length app.objects.queues → queue < length s.objects.queues
queue_there app s queue valid named = omega (arith, named, queue_count_shaped app s.objects valid.in_limits.objects)

pub IsInterruptAt-valid : (app : Application) (s : Snapshot) (interrupt : PlainInterrupt) → IsValid app s → IsInterruptOf app interrupt → IsInterruptAt s interrupt
IsInterruptAt-valid app s (Send queue bytes) valid named = queue_there app s queue valid named
IsInterruptAt-valid app s (Notify task index value action) valid named =
    let there : task < length s.tasks = omega (arith, named.0, valid.in_limits.tasks) in
    (there, omega (arith, named.1, ((IsConsistent-valid app s valid).each task there).entry_count))

-- the items of a queue, and one more
abbrev items_and : Snapshot → ℕ → List ℕ → List (List ℕ)
items_and s queue bytes = (queue_at s queue).items ++ fitted (queue_at s queue).item_size bytes ∷ []

-- ---- room for whom it wakes

-- Who waits for the item, or at the queue's set, isn't ready, so that the ready list has room.
pub room_to_post : (app : Application) (s : Snapshot) (queue : ℕ) (bytes : List ℕ) → IsValid app s → queue < length s.objects.queues
    → 0 < length (waiting_at (with_item_put s queue bytes) (list_posted_to queue (membership_of s queue))) → ReadyHasRoom s
room_to_post app s queue bytes valid there = by_member (membership_of s queue) (queue_set_there s queue valid.in_limits.sized there)
  where
    by_member : (member : Option ℕ) → IfSome member (λ queue_set. queue_set < length s.objects.queue_sets)
        → 0 < length (waiting_at (with_item_put s queue bytes) (list_posted_to queue member)) → ReadyHasRoom s
    by_member None has_set some =
        room_while_a_list_has_one app s (Queue queue Receiving) valid there (omega (arith, some, ap length (waiting-put s queue None (items_and s queue bytes) there)))
    by_member (Some number) has_set some =
        room_while_a_list_has_one app s (QueueSet number) valid has_set
        (omega (arith, some, ap length (waiting-put s queue (Some number) (items_and s queue bytes) there)))

-- ---- a valid state, with nothing to schedule

IsConsistent-interrupted : (app : Application) (s : Snapshot) (interrupt : PlainInterrupt) → IsValid app s → IsInterruptOf app interrupt
    → IsConsistent app (all_have_time_left s.tick) (interrupted (priorities_of app) s interrupt)
IsConsistent-interrupted app s (Send queue bytes) valid named =
    let there = queue_there app s queue valid named in
    let sized = valid.in_limits.sized in
    let D = all_have_time_left s.tick in
    let after = (posted (priorities_of app) (with_item_put s queue bytes) queue (membership_of s queue)).state in
    elim (has_no_space s queue) as (λ b. IsConsistent app D (cond b s after)) [
      | true ↦ IsConsistent-valid app s valid
      | false ↦ IsConsistent-posted app D s queue (membership_of s queue) (items_and s queue bytes) (λ t deadline. tt) sized there (queue_set_there s queue sized there)
          (IsConsistent-valid app s valid)
    ]
IsConsistent-interrupted app s (Notify task index value action) valid named =
    IsConsistent-notified app s task index value action valid (omega (arith, named.0, valid.in_limits.tasks)) named.1

interrupted-tick : (priorities : List ℕ) (s : Snapshot) (interrupt : PlainInterrupt) → (interrupted priorities s interrupt).tick ≡ s.tick
interrupted-tick priorities s (Send queue bytes) =
    elim (has_no_space s queue) as (λ b. (cond b s (posted priorities (with_item_put s queue bytes) queue (membership_of s queue)).state).tick ≡ s.tick) [
      | true ↦ refl
      | false ↦ posted-tick priorities (with_item_put s queue bytes) queue (membership_of s queue)
    ]
interrupted-tick priorities s (Notify task index value action) = notified-tick priorities s task index value action

pub IsValid-interrupt : (app : Application) (s s' : Snapshot) (interrupt : PlainInterrupt) → IsApplication app → IsValid app s → IsInterruptOf app interrupt
    → s' ≡ after_interrupt (priorities_of app) s interrupt → IsSized s' → IsValid app s'
IsValid-interrupt app s s' interrupt limits valid named same sized =
    let priorities = priorities_of app in
    let p = interrupted priorities s interrupt in
    let z = after_interrupt priorities s interrupt in
    let at = IsConsistent-interrupted app s interrupt valid named in
    let some : 0 < length p.cores = omega (arith, limits.some_cores, at.cores) in
    let rescheduled : Rescheduled priorities (lineup_of p) (lineup_of z) = Rescheduled-settled priorities p some in
    let consistent_z = IsConsistent-rescheduled app (all_have_time_left s.tick) p z rescheduled refl refl at in
    let tick : s.tick ≡ z.tick = sym (interrupted-tick priorities s interrupt) in
    subst (λ (t : Snapshot). IsSized t → IsValid app t) (sym same)
    (IsValid-consistent app z (subst (λ t. IsConsistent app (all_have_time_left t) z) tick consistent_z)) sized

pub IsSettled-interrupt : (app : Application) (s s' : Snapshot) (interrupt : PlainInterrupt) → IsApplication app → IsValid app s → IsInterruptOf app interrupt
    → s' ≡ after_interrupt (priorities_of app) s interrupt → IsSettled (priorities_of app) s'
IsSettled-interrupt app s s' interrupt limits valid named same =
    let priorities = priorities_of app in
    let p = interrupted priorities s interrupt in
    let at = IsConsistent-interrupted app s interrupt valid named in
    subst (IsSettled priorities) (sym same)
    (scheduling_settles priorities p (omega (arith, limits.some_cores, at.cores)) at.waiting_lists.ready).settled_now

-- ---- laws

-- what is answered where it is refused, or isn't
abbrev answered : Bool → ℕ
answered is_refused = cond is_refused 0 1

-- what an answer of 0 says
refused : (b : Bool) → answered b ≡ 0 → b ≡ true
refused true is = refl
refused false is = absurd (omega (arith, is))

nothing_done : (priorities : List ℕ) (s : Snapshot) (interrupt : PlainInterrupt) → isr_answer s interrupt ≡ 0 → interrupted priorities s interrupt ≡ s
nothing_done priorities s (Send queue bytes) is =
    ap (λ b. cond b s (posted priorities (with_item_put s queue bytes) queue (membership_of s queue)).state) (refused (has_no_space s queue) is)
nothing_done priorities s (Notify task index value action) is =
    let entry = entry_at s task index in
    ap (λ b. cond b s (told priorities s task index (entry_notified action value entry))) (refused (is_left_alone action entry.state) is)

pub refused_interrupts_change_nothing : RefusedInterruptsChangeNothing
refused_interrupts_change_nothing priorities s interrupt some before is =
    ap (settled priorities) (nothing_done priorities s interrupt is) ∙ settled-still priorities s some before

-- what an answer of 1 says
done : (b : Bool) → answered b ≡ 1 → b ≡ false
done true is = absurd (omega (arith, is))
done false is = refl

pub sends_wake_the_first : SendsWakeTheFirst
sends_wake_the_first app s queue task bytes valid there none is first =
    let priorities = priorities_of app in
    let after : Option ℕ → Snapshot = λ member. (posted priorities (with_item_put s queue bytes) queue member).state in
    let put : interrupted priorities s (Send queue bytes) ≡ after None =
    ap (λ b. cond b s (after (membership_of s queue))) (done (has_no_space s queue) is) ∙ ap after none in
    ap (λ (t : Snapshot). waits_at (task_at t task).phase) put
    ∙ post_wakes_the_first priorities s queue task (items_and s queue bytes) valid.in_limits.sized there first

pub notifications_arrive_by_interrupt : NotificationsArriveByInterrupt
notifications_arrive_by_interrupt priorities s task index value action has = notified-has_received priorities s task index value action has
