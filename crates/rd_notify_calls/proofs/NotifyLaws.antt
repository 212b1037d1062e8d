-- Laws of notifications.
use Rattle.std.proofs.Common.{◌<◌, ◌∙◌, ◌∷◌, ◌≡◌, Bool, List, [], ap, arith, cond, false, get_or, length, refl, set, subst, sym, true, ℕ}
use Rattle.rd_kernel.proofs.Offered.{AfterWaking-woken_all, EntriesStay-woken_all, entry_after, same_one, task_now}
use Rattle.rd_kernel.specs.Tasks.{HasEntry, entry_at, with_entry}
use Rattle.rd_kernel.specs.Telling.{if_waiting_for, is_that_entry, notified, told}
use Rattle.rd_kernel.specs.Waking.{woken_all}
use Rattle.rd_kernel.specs.declared.waking.Waking.TheVariants.{TriesAgain}
use Rattle.rd_notify.specs.Entries.{entry_notified, has_received, idle_entry, is_left_alone}
use Rattle.rd_notify.specs.declared.entries.Entry.{Entry}
use Rattle.rd_state.specs.Phases.{waits_at}
use Rattle.rd_state.specs.Snapshot.{Snapshot, TaskSnapshot, task_at}
use Rattle.rd_state.specs.Waiting.{entry_of}
use Rattle.std.proofs.lemmas.List.{get_or-set_same}
use Rattle.std.specs.Option.{option_and_then}
use Rattle.rd_notify.specs.declared.action.Action.{Action}
use Rattle.rd_notify.specs.declared.action.Action.TheVariants.{Increment, LeaveValue, Overwrite, SetBits, WithoutOverwrite}
use Rattle.rd_notify.specs.declared.entries.EntryState.{EntryState}
use Rattle.rd_notify.specs.declared.entries.EntryState.TheVariants.{Idle, Received, Waiting}
use Rattle.std.proofs.lemmas.Bool.{false≢true}
use Rattle.rd_notify_calls.specs.NotifyLaws.{HasArrived, NothingIsOverwritten, NotificationsArrive, TakesCountDown}
use Rattle.rd_state.proofs.Offered.{times_in_list-cons}

-- An entry that a task is told through is that one then.
told_entry : (priorities : List ℕ) (s : Snapshot) (target index : ℕ) (entry : Entry) → HasEntry s target index
    → entry_at (told priorities s target index entry) target index ≡ entry
told_entry priorities s target index entry has =
    let tasks = if_waiting_for s target index in
    let q = woken_all priorities TriesAgain s tasks in
    let after = AfterWaking-woken_all priorities TriesAgain s tasks in
    let stay = EntriesStay-woken_all priorities TriesAgain s tasks target in
    let x = record (task_at q target) { entries = set (task_at q target).entries index entry } in
    let there : target < length q.tasks = omega (arith, has.0, after.same_length) in
    let within : index < length (task_at q target).entries = omega (arith, has.1, ap length stay) in
    ap (λ (t : TaskSnapshot). get_or t.entries index idle_entry) (task_now q target x there) ∙ get_or-set_same (task_at q target).entries index entry idle_entry within

-- Its task doesn't wait for it.
told_phase : (priorities : List ℕ) (s : Snapshot) (target index : ℕ) (entry : Entry) → target < length s.tasks
    → is_that_entry index (option_and_then entry_of (waits_at (task_at (told priorities s target index entry) target).phase)) ≡ false
told_phase priorities s target index entry there =
    by_waiting (is_that_entry index (option_and_then entry_of (waits_at (task_at s target).phase))) refl
  where
    by_waiting : (b : Bool) → is_that_entry index (option_and_then entry_of (waits_at (task_at s target).phase)) ≡ b
        → is_that_entry index (option_and_then entry_of (waits_at
        (task_at (with_entry (woken_all priorities TriesAgain s (cond b (target ∷ []) [])) target index entry) target).phase)) ≡ false
    by_waiting true waits =
        let q = woken_all priorities TriesAgain s (target ∷ []) in
        let after = AfterWaking-woken_all priorities TriesAgain s (target ∷ []) in
        let x = record (task_at q target) { entries = set (task_at q target).entries index entry } in
        let in_q : target < length q.tasks = omega (arith, there, after.same_length) in
        let nowhere = after.woken target (omega (arith, times_in_list-cons target target [], same_one target)) there in
        ap (λ (t : TaskSnapshot). is_that_entry index (option_and_then entry_of (waits_at t.phase))) (task_now q target x in_q)
        ∙ ap (λ o. is_that_entry index (option_and_then entry_of o)) nowhere
    by_waiting false other =
        let x = record (task_at s target) { entries = set (task_at s target).entries index entry } in
        ap (λ (t : TaskSnapshot). is_that_entry index (option_and_then entry_of (waits_at t.phase))) (task_now s target x there) ∙ other

pub notifications_arrive : NotificationsArrive
notifications_arrive priorities s target index value action has takes =
    let entry = entry_notified action value (entry_at s target index) in
    let told_so : HasArrived (told priorities s target index entry) target index = record {
      received = ap (λ (e : Entry). e.state) (told_entry priorities s target index entry has);
      woken = told_phase priorities s target index entry has.0;
    } in
    subst (λ b. HasArrived (cond b s (told priorities s target index entry)) target index) (sym takes) told_so

pub nothing_is_overwritten : NothingIsOverwritten
nothing_is_overwritten priorities s target index value received =
    ap (λ b. cond b s (told priorities s target index (entry_notified WithoutOverwrite value (entry_at s target index)))) (ap has_received received)

pub takes_count_down : TakesCountDown
takes_count_down = record { some = λ value some. omega (arith, some); none = refl }

-- An entry that has received still has, once a notification has come to any.
pub notified-received : (priorities : List ℕ) (s : Snapshot) (to i value target index : ℕ) (action : Action) → (entry_at s target index).state ≡ Received
    → (entry_at (notified priorities s to i action value) target index).state ≡ Received
notified-received priorities s to i value target index action come =
    let entry = entry_notified action value (entry_at s to i) in
    let tasks = if_waiting_for s to i in
    let q = woken_all priorities TriesAgain s tasks in
    let stays : (entry_at q target index).state ≡ Received =
    ap (λ (es : List Entry). (get_or es index idle_entry).state) (EntriesStay-woken_all priorities TriesAgain s tasks target) ∙ come in
    elim (is_left_alone action (entry_at s to i).state) as (λ b. (entry_at (cond b s (told priorities s to i entry)) target index).state ≡ Received) [
      | true ↦ come
      | false ↦ entry_after q to i target index entry (λ (e : Entry). e.state ≡ Received) (λ same same_index. refl) stays
    ]

-- Once one has come to an entry, or left it alone, that has received.
pub notified-has_received : (priorities : List ℕ) (s : Snapshot) (target index value : ℕ) (action : Action) → HasEntry s target index
    → (entry_at (notified priorities s target index action value) target index).state ≡ Received
notified-has_received priorities s target index value action has =
    by_action (is_left_alone action (entry_at s target index).state) refl
  where
    alone : (a : Action) (state : EntryState) → is_left_alone a state ≡ true → state ≡ Received
    alone WithoutOverwrite Received left = refl
    alone WithoutOverwrite Idle left = absurd (false≢true left)
    alone WithoutOverwrite Waiting left = absurd (false≢true left)
    alone LeaveValue state left = absurd (false≢true left)
    alone SetBits state left = absurd (false≢true left)
    alone Increment state left = absurd (false≢true left)
    alone Overwrite state left = absurd (false≢true left)

    by_action : (b : Bool) → is_left_alone action (entry_at s target index).state ≡ b
        → (entry_at (notified priorities s target index action value) target index).state ≡ Received
    by_action true left = notified-received priorities s target index value target index action (alone action (entry_at s target index).state left)
    by_action false takes = (notifications_arrive priorities s target index value action has takes).received
