-- Calls that notify a task, or look at an entry of one, leave what makes a state valid, and the tick.
use Rattle.rd_state.specs.declared.phase.Place.TheVariants as sort
use Rattle.rd_app.specs.declared.instr.Instr.TheVariants as instr
use Rattle.rd_app.specs.declared.instr.NotifyCall.TheVariants as notify
use Rattle.std.proofs.Common.{◌&&◌, ◌<◌, ◌∙◌, ◌≡◌, ◌≢◌, ◌≤◌, Bool, List, None, Some, [], ap, arith, cond, false, length, refl, set, subst, sym, true}
use Rattle.std.proofs.Common.{ℕ}
use Rattle.rd_app.specs.Application.{Application, IsNotifyCall, code_of, instr_at, priorities_of}
use Rattle.rd_app.specs.declared.instr.Instr.{Instr}
use Rattle.rd_app.specs.declared.instr.NotifyCall.{NotifyCall}
use Rattle.rd_app.specs.declared.instr.NotifyCall.TheVariants.{ClearState, ClearValue, Query, Take}
use Rattle.rd_app.specs.declared.instr.Operand.{Operand}
use Rattle.rd_kernel.proofs.Offered.{IsConsistent, IsConsistent-returned, IsConsistent-returned_alone, IsConsistent-told, IsConsistent-valid}
use Rattle.rd_kernel.proofs.Offered.{IsConsistent-waiting_for_entry, IsConsistent-with_entry, IsConsistent-with_values, IsFree, RunsInstr, StaysThere}
use Rattle.rd_kernel.proofs.Offered.{StaysThere-told, StaysThere-with_entry, all_have_time_left, free_in_call, free_in_run, free_of_entry, true_if_one}
use Rattle.rd_kernel.proofs.Offered.{none_is_some, read_same, runner_waits_nowhere, task_now, told-tick}
use Rattle.rd_kernel.specs.Outcomes.{Called, call_fails, call_gives, call_passes, call_returns, concluded}
use Rattle.rd_kernel.specs.Tasks.{HasEntry, entry_at, with_entry, with_register}
use Rattle.rd_kernel.specs.Telling.{if_waiting_for, notified, told, waits_for_entry, waits_once}
use Rattle.rd_kernel.specs.Waking.{deadline_of, may_wait, operand_value, woken_all}
use Rattle.rd_kernel.specs.declared.waking.Waking.TheVariants.{TriesAgain}
use Rattle.rd_notify.specs.Entries.{entry_cleared, entry_idle, entry_notified, entry_taken, has_received, is_left_alone}
use Rattle.rd_notify.specs.declared.action.Action.{Action}
use Rattle.rd_notify.specs.declared.action.OnExit.{OnExit}
use Rattle.rd_notify.specs.declared.entries.Entry.{Entry}
use Rattle.rd_notify.specs.declared.entries.EntryState.{EntryState}
use Rattle.rd_notify.specs.declared.entries.EntryState.TheVariants.{Idle, Received, Waiting}
use Rattle.rd_notify_calls.specs.NotifyCalls.{answer_to, clear_state_outcome, entry_closed, entry_opened, notify_call_outcome, notify_wait_outcome}
use Rattle.rd_notify_calls.specs.NotifyCalls.{take_outcome}
use Rattle.rd_state.specs.Phases.{can_run, is_first}
use Rattle.rd_state.specs.Snapshot.{Snapshot, TaskSnapshot, no_task, task_at, with_task}
use Rattle.rd_state.specs.Valid.{EntriesFitCall, HoldersFitCall, IsValid, entry_of_call, place_of_call, times_to_run}
use Rattle.rd_state.specs.Waiting.{entry_of}
use Rattle.rd_state.specs.declared.phase.Phase.{Phase}
use Rattle.rd_state.specs.declared.phase.Phase.TheVariants.{Again, Ended, Failed, Given, Run, Wait}
use Rattle.std.proofs.lemmas.Bool.{false≢true}
use Rattle.std.proofs.lemmas.List.{length-set}
use Rattle.std.specs.Option.{option_and_then}
use Rattle.std.specs.Prelude.{◌+◌, nat_eq, not}

-- ---- the caller

-- What is asked of a caller, once its call was done: it stands where it stood.
returns_there : (app : Application) (s p : Snapshot) (core task value : ℕ) (instr : Instr) → RunsInstr app s core task instr → entry_of_call instr ≡ None
    → StaysThere s p task → IsConsistent app (all_have_time_left s.tick) p
    → IsConsistent app (all_have_time_left s.tick) (concluded (call_returns p value) core task)
returns_there app s p core task value instr calls none stays at =
    let there : task < length p.tasks = omega (arith, calls.there, stays.same_length) in
    let is : instr_at app task (task_at p task).pc ≡ instr = ap (instr_at app task) stays.pc ∙ calls.at_instr in
    let free = free_in_call p.objects task (task_at p task).phase instr (task_at p task).entries none
    (subst (λ i. EntriesFitCall (task_at p task).phase i (task_at p task).entries) is (at.each task there).entries)
    (subst (HoldersFitCall p.objects task (task_at p task).phase) is (at.holders task there)) in
    IsConsistent-returned app (all_have_time_left s.tick) p task value there (subst (λ phase. 1 ≤ times_to_run phase) (sym stays.phase) calls.runs) free
    (omega (arith, calls.within, stays.pc)) tt at

-- the same of one that gets a second value
gives_there : (app : Application) (s p : Snapshot) (core task value second : ℕ) (instr : Instr) → RunsInstr app s core task instr → entry_of_call instr ≡ None
    → StaysThere s p task → IsConsistent app (all_have_time_left s.tick) p
    → IsConsistent app (all_have_time_left s.tick) (concluded (call_gives p value second) core task)
gives_there app s p core task value second instr calls none stays at =
    let there : task < length p.tasks = omega (arith, calls.there, stays.same_length) in
    let registers = set (task_at p task).registers 1 second in
    let x = record (task_at p task) { registers = registers } in
    let now = task_now p task x there in
    let still_there : StaysThere s (with_register p task 1 second) task = record {
      same_length = length-set p.tasks task x ∙ stays.same_length;
      pc = ap (λ (t : TaskSnapshot). t.pc) now ∙ stays.pc;
      phase = ap (λ (t : TaskSnapshot). t.phase) now ∙ stays.phase;
    } in
    returns_there app s (with_register p task 1 second) core task value instr calls none still_there
    (IsConsistent-with_values app (all_have_time_left s.tick) p task registers (task_at p task).bytes there at)

-- ---- those who are notified

-- The entry that a call names is there.
entry_there : (app : Application) (s : Snapshot) (task index : ℕ) → IsValid app s → task < length s.tasks → index < app.entries → HasEntry s task index
entry_there app s task index valid there within = (there, omega (arith, within, ((IsConsistent-valid app s valid).each task there).entry_count))

received_is_not_waiting : Received ≡ Waiting → ⊥
received_is_not_waiting e = cc

idle_is_not_waiting : Idle ≡ Waiting → ⊥
idle_is_not_waiting e = cc

-- What stands after a notification, and where its caller stands.
pub record IsNotified (app : Application) (s p : Snapshot) (task : ℕ) : Type 0 where
  pub consistent : IsConsistent app (all_have_time_left s.tick) p
  pub stays : StaysThere s p task

-- A notification leaves what makes a state valid, and the tick, whoever it comes from.
pub IsConsistent-notified : (app : Application) (s : Snapshot) (target index value : ℕ) (action : Action) → IsValid app s → target < length s.tasks
    → index < app.entries → IsConsistent app (all_have_time_left s.tick) (notified (priorities_of app) s target index action value)
IsConsistent-notified app s target index value action valid there within =
    let has = entry_there app s target index valid there within in
    let entry = entry_notified action value (entry_at s target index) in
    let at = IsConsistent-valid app s valid in
    elim (is_left_alone action (entry_at s target index).state) as (λ b.
    IsConsistent app (all_have_time_left s.tick) (cond b s (told (priorities_of app) s target index entry))) [
      | true ↦ at
      | false ↦ IsConsistent-told app (all_have_time_left s.tick) s target index entry has received_is_not_waiting (λ deadline. tt) at
    ]

pub notified-tick : (priorities : List ℕ) (s : Snapshot) (target index value : ℕ) (action : Action) → (notified priorities s target index action value).tick ≡ s.tick
notified-tick priorities s target index value action =
    let entry = entry_notified action value (entry_at s target index) in
    elim (is_left_alone action (entry_at s target index).state) as (λ b. (cond b s (told priorities s target index entry)).tick ≡ s.tick) [
      | true ↦ refl
      | false ↦ told-tick priorities s target index entry
    ]

IsNotified-notified : (app : Application) (s : Snapshot) (core task target index value : ℕ) (action : Action) (instr : Instr) → RunsInstr app s core task instr
    → target < length s.tasks → index < app.entries → IsNotified app s (notified (priorities_of app) s target index action value) task
IsNotified-notified app s core task target index value action instr calls there within =
    let entry = entry_notified action value (entry_at s target index) in
    record {
      consistent = IsConsistent-notified app s target index value action calls.valid there within;
      stays = elim (is_left_alone action (entry_at s target index).state) as (λ b. StaysThere s (cond b s (told (priorities_of app) s target index entry)) task) [
        | true ↦ record { same_length = refl; pc = refl; phase = refl }
        | false ↦ StaysThere-told (priorities_of app) s task target index entry there calls.runs
      ];
    }

-- An entry of another task changes, and is waiting exactly where it was.
IsNotified-with_entry : (app : Application) (s : Snapshot) (core task target index : ℕ) (entry : Entry) (instr : Instr) → RunsInstr app s core task instr
    → HasEntry s target index → (entry.state ≡ Waiting → (entry_at s target index).state ≡ Waiting)
    → ((entry_at s target index).state ≡ Waiting → entry.state ≡ Waiting) → IsNotified app s (with_entry s target index entry) task
IsNotified-with_entry app s core task target index entry instr calls has not_new still =
    let at = IsConsistent-valid app s calls.valid in
    let x = record (task_at s target) { entries = set (task_at s target).entries index entry } in
    record {
      consistent = IsConsistent-with_entry app (all_have_time_left s.tick) s target index entry has not_new
          (λ is. still ((at.each target has.0).entries.while_waiting index is)) at;
      stays = record {
        same_length = length-set s.tasks target x;
        pc = read_same (λ (t : TaskSnapshot). t.pc) s.tasks target task x no_task has.0 refl;
        phase = read_same (λ (t : TaskSnapshot). t.phase) s.tasks target task x no_task has.0 refl;
      };
    }

-- ---- those who look at an entry of their own

-- at the first try nothing else is waiting
first_is_run : (phase : Phase) → is_first phase ≡ true → phase ≡ Run
first_is_run Run e = refl
first_is_run (Again deadline) e = absurd (false≢true e)
first_is_run (Given bits) e = absurd (false≢true e)
first_is_run (Wait place deadline) e = absurd (false≢true e)
first_is_run Ended e = absurd (false≢true e)
first_is_run (Failed cause) e = absurd (false≢true e)

both_true : (a b : Bool) → (a && b) ≡ true → (a ≡ true) × (b ≡ true)
both_true true b e = (refl, e)
both_true false b e = absurd (false≢true e)

-- It waits.
waits_then : (app : Application) (s : Snapshot) (core task index : ℕ) (entry : Entry) (wait : Operand) (instr : Instr) → RunsInstr app s core task instr
    → place_of_call instr ≡ Some (sort.Entry index) → HasEntry s task index → waits_once s task wait ≡ true
    → IsConsistent app (all_have_time_left s.tick) (concluded (waits_for_entry s task index entry wait) core task)
waits_then app s core task index entry wait instr calls place has once =
    let at = IsConsistent-valid app s calls.valid in
    let x = task_at s task in
    let parts = both_true (is_first x.phase) (may_wait s task wait) once in
    let run = first_is_run x.phase parts.0 in
    let free = free_in_run s.objects task (instr_at app task x.pc) x.entries
    (subst (λ phase. EntriesFitCall phase (instr_at app task x.pc) x.entries) run (at.each task has.0).entries)
    (subst (λ phase. HoldersFitCall s.objects task phase (instr_at app task x.pc)) run (at.holders task has.0)) in
    IsConsistent-waiting_for_entry app (all_have_time_left s.tick) s core task index entry (deadline_of s task wait) has calls.runs calls.has_core calls.on_core
    (ap place_of_call calls.at_instr ∙ place) free parts.1 at

-- It goes on, and the entry is idle.
pub record LooksAt (app : Application) (s p : Snapshot) (core task : ℕ) : Type 0 where
  pub returns : (value : ℕ) → IsConsistent app (all_have_time_left s.tick) (concluded (call_returns p value) core task)
  pub gives : (value second : ℕ) → IsConsistent app (all_have_time_left s.tick) (concluded (call_gives p value second) core task)

LooksAt-idle : (app : Application) (s : Snapshot) (core task index : ℕ) (entry : Entry) (instr : Instr) → RunsInstr app s core task instr
    → place_of_call instr ≡ Some (sort.Entry index) → HasEntry s task index → entry.state ≢ Waiting → LooksAt app s (with_entry s task index entry) core task
LooksAt-idle app s core task index entry instr calls through has idle =
    let D = all_have_time_left s.tick in
    let at = IsConsistent-valid app s calls.valid in
    let x = task_at s task in
    let nowhere = runner_waits_nowhere x.phase (true_if_one (can_run x.phase) calls.runs) in
    let p = with_entry s task index entry in
    let now = task_now s task (record x { entries = set x.entries index entry }) has.0 in
    let stays = StaysThere-with_entry s task index entry has.0 in
    let at_p = IsConsistent-with_entry app D s task index entry has (λ waiting. absurd (idle waiting))
    (λ is. absurd (none_is_some index (sym (ap (option_and_then entry_of) nowhere) ∙ is))) at in
    let there : task < length p.tasks = omega (arith, has.0, stays.same_length) in
    let fit = subst (λ i. EntriesFitCall x.phase i x.entries) calls.at_instr (at.each task has.0).entries in
    let named = subst (HoldersFitCall s.objects task x.phase) calls.at_instr (at.holders task has.0) in
    let free : IsFree s.objects task (task_at p task).entries =
    subst (λ (t : TaskSnapshot). IsFree s.objects task t.entries) (sym now)
    (free_of_entry s.objects task x.phase instr x.entries index entry has.1 through idle fit named) in
    let runs = subst (λ phase. 1 ≤ times_to_run phase) (sym stays.phase) calls.runs in
    let within : (task_at p task).pc + 1 < length (code_of app task) = omega (arith, calls.within, stays.pc) in
    record {
      returns = λ value. IsConsistent-returned app D p task value there runs free within tt at_p;
      gives = λ value second.
          let y = record (task_at p task) { registers = set (task_at p task).registers 1 second } in
          let q = with_task p task y in
          let later = task_now p task y there in
          IsConsistent-returned app D q task value (omega (arith, there, length-set p.tasks task y))
          (subst (λ (t : TaskSnapshot). 1 ≤ times_to_run t.phase) (sym later) runs) (subst (λ (t : TaskSnapshot). IsFree s.objects task t.entries) (sym later) free)
          (subst (λ (t : TaskSnapshot). t.pc + 1 < length (code_of app task)) (sym later) within) tt
          (IsConsistent-with_values app D p task (set (task_at p task).registers 1 second) (task_at p task).bytes there at_p);
    }

-- ---- each call

takes : (app : Application) (s : Snapshot) (core task index : ℕ) (exit : OnExit) (wait : Operand)
    → RunsInstr app s core task (instr.Notify (Take index exit wait)) → index < app.entries
    → IsConsistent app (all_have_time_left s.tick) (concluded (take_outcome s task index exit wait) core task)
takes app s core task index exit wait calls within =
    let has = entry_there app s task index calls.valid calls.there within in
    let entry = entry_at s task index in
    by_value (nat_eq entry.value 0 && waits_once s task wait) refl
  where
    by_value : (b : Bool) → (nat_eq (entry_at s task index).value 0 && waits_once s task wait) ≡ b
        → IsConsistent app (all_have_time_left s.tick)
        (concluded (cond b (waits_for_entry s task index (entry_at s task index) wait)
        (call_returns (with_entry s task index (entry_taken exit (entry_at s task index))) (entry_at s task index).value)) core task)
    by_value true e =
        waits_then app s core task index (entry_at s task index) wait (instr.Notify (Take index exit wait)) calls refl
        (entry_there app s task index calls.valid calls.there within) (both_true (nat_eq (entry_at s task index).value 0) (waits_once s task wait) e).1
    by_value false e =
        (LooksAt-idle app s core task index (entry_taken exit (entry_at s task index)) (instr.Notify (Take index exit wait)) calls refl
        (entry_there app s task index calls.valid calls.there within) idle_is_not_waiting).returns (entry_at s task index).value

closes : (app : Application) (s : Snapshot) (core task index bits : ℕ) (entry : Entry) (instr : Instr) → RunsInstr app s core task instr
    → place_of_call instr ≡ Some (sort.Entry index) → HasEntry s task index
    → IsConsistent app (all_have_time_left s.tick) (concluded (entry_closed s task index entry bits) core task)
closes app s core task index bits entry instr calls through has =
    elim (has_received entry.state) as (λ b. IsConsistent app (all_have_time_left s.tick)
    (concluded (cond b (call_gives (with_entry s task index (entry_idle (entry_cleared bits entry))) 1 entry.value)
    (call_gives (with_entry s task index (entry_idle entry)) 0 entry.value)) core task)) [
      | true ↦ (LooksAt-idle app s core task index (entry_idle (entry_cleared bits entry)) instr calls through has idle_is_not_waiting).gives 1 entry.value
      | false ↦ (LooksAt-idle app s core task index (entry_idle entry) instr calls through has idle_is_not_waiting).gives 0 entry.value
    ]

waits_or_closes : (app : Application) (s : Snapshot) (core task index : ℕ) (entry_bits exit_bits wait : Operand)
    → RunsInstr app s core task (instr.Notify (notify.Wait index entry_bits exit_bits wait)) → index < app.entries
    → IsConsistent app (all_have_time_left s.tick) (concluded (notify_wait_outcome s task index entry_bits exit_bits wait) core task)
waits_or_closes app s core task index entry_bits exit_bits wait calls within =
    by_state (not (has_received (entry_at s task index).state) && waits_once s task wait) refl
  where
    entry : Entry
    entry = entry_opened s task index (operand_value s task entry_bits)

    by_state : (b : Bool) → (not (has_received (entry_at s task index).state) && waits_once s task wait) ≡ b
        → IsConsistent app (all_have_time_left s.tick)
        (concluded (cond b (waits_for_entry s task index (entry_opened s task index (operand_value s task entry_bits)) wait)
        (entry_closed s task index (entry_opened s task index (operand_value s task entry_bits)) (operand_value s task exit_bits))) core task)
    by_state true e =
        waits_then app s core task index (entry_opened s task index (operand_value s task entry_bits)) wait
        (instr.Notify (notify.Wait index entry_bits exit_bits wait)) calls refl (entry_there app s task index calls.valid calls.there within)
        (both_true (not (has_received (entry_at s task index).state)) (waits_once s task wait) e).1
    by_state false e =
        closes app s core task index (operand_value s task exit_bits) (entry_opened s task index (operand_value s task entry_bits))
        (instr.Notify (notify.Wait index entry_bits exit_bits wait)) calls refl (entry_there app s task index calls.valid calls.there within)

clears_state : (app : Application) (s : Snapshot) (core task target index : ℕ) → RunsInstr app s core task (instr.Notify (ClearState target index))
    → target < length s.tasks → index < app.entries
    → IsConsistent app (all_have_time_left s.tick) (concluded (clear_state_outcome s target index) core task)
clears_state app s core task target index calls there within = by_state (entry_at s target index).state refl
  where
    by_state : (state : EntryState) → (entry_at s target index).state ≡ state
        → IsConsistent app (all_have_time_left s.tick)
        (concluded (cond (has_received state) (call_passes (with_entry s target index (entry_idle (entry_at s target index)))) (call_fails s)) core task)
    by_state Idle e = IsConsistent-returned_alone app s core task 0 (instr.Notify (ClearState target index)) calls refl
    by_state Waiting e = IsConsistent-returned_alone app s core task 0 (instr.Notify (ClearState target index)) calls refl
    by_state Received e =
        let has = entry_there app s target index calls.valid there within in
        let done = IsNotified-with_entry app s core task target index (entry_idle (entry_at s target index)) (instr.Notify (ClearState target index)) calls has
        (λ waiting. absurd (idle_is_not_waiting waiting)) (λ waiting. absurd (received_is_not_waiting (sym e ∙ waiting))) in
        returns_there app s (with_entry s target index (entry_idle (entry_at s target index))) core task 1 (instr.Notify (ClearState target index)) calls refl done.stays
        done.consistent

-- A call leaves what stands,
pub IsConsistent-notify_call : (app : Application) (s : Snapshot) (core task : ℕ) (call : NotifyCall) → RunsInstr app s core task (instr.Notify call)
    → IsNotifyCall (length s.tasks) app.entries call
    → IsConsistent app (all_have_time_left s.tick) (concluded (notify_call_outcome (priorities_of app) s task call) core task)
IsConsistent-notify_call app s core task (notify.Notify target index value action) calls names =
    let sent = operand_value s task value in
    let done = IsNotified-notified app s core task target index sent action (instr.Notify (notify.Notify target index value action)) calls names.0 names.1 in
    returns_there app s (notified (priorities_of app) s target index action sent) core task (answer_to action (entry_at s target index).state)
    (instr.Notify (notify.Notify target index value action)) calls refl done.stays done.consistent
IsConsistent-notify_call app s core task (Query target index value action) calls names =
    let sent = operand_value s task value in
    let done = IsNotified-notified app s core task target index sent action (instr.Notify (Query target index value action)) calls names.0 names.1 in
    gives_there app s (notified (priorities_of app) s target index action sent) core task (answer_to action (entry_at s target index).state)
    (entry_at s target index).value (instr.Notify (Query target index value action)) calls refl done.stays done.consistent
IsConsistent-notify_call app s core task (Take index exit wait) calls names = takes app s core task index exit wait calls names.0
IsConsistent-notify_call app s core task (notify.Wait index entry_bits exit_bits wait) calls names =
    waits_or_closes app s core task index entry_bits exit_bits wait calls names.0
IsConsistent-notify_call app s core task (ClearState target index) calls names = clears_state app s core task target index calls names.0 names.1
IsConsistent-notify_call app s core task (ClearValue target index bits) calls names =
    let has = entry_there app s target index calls.valid names.0 names.1 in
    let entry = entry_cleared (operand_value s task bits) (entry_at s target index) in
    let done = IsNotified-with_entry app s core task target index entry (instr.Notify (ClearValue target index bits)) calls has (λ is. is) (λ is. is) in
    returns_there app s (with_entry s target index entry) core task (entry_at s target index).value (instr.Notify (ClearValue target index bits)) calls refl done.stays
    done.consistent

-- ---- what it leaves

-- It changes objects by waking alone, and leaves the tick.
pub record ByWaking (priorities : List ℕ) (s : Snapshot) (called : Called) (core task : ℕ) : Type 0 where
  pub tasks : List ℕ
  pub objects : (concluded called core task).objects ≡ (woken_all priorities TriesAgain s tasks).objects
  pub tick : (concluded called core task).tick ≡ s.tick

ByWaking-nobody : (priorities : List ℕ) (s : Snapshot) (called : Called) (core task : ℕ) → (concluded called core task).objects ≡ s.objects
    → (concluded called core task).tick ≡ s.tick → ByWaking priorities s called core task
ByWaking-nobody priorities s called core task objects tick = record { tasks = []; objects = objects; tick = tick }

ByWaking-or : (priorities : List ℕ) (s : Snapshot) (one other : Called) (b : Bool) (core task : ℕ) → ByWaking priorities s one core task
    → ByWaking priorities s other core task → ByWaking priorities s (cond b one other) core task
ByWaking-or priorities s one other true core task first second = first
ByWaking-or priorities s one other false core task first second = second

-- what a notification leaves of them
pub record NotifiedBy (priorities : List ℕ) (s p : Snapshot) : Type 0 where
  pub tasks : List ℕ
  pub objects : p.objects ≡ (woken_all priorities TriesAgain s tasks).objects
  pub tick : p.tick ≡ s.tick

NotifiedBy-notified : (priorities : List ℕ) (s : Snapshot) (target index value : ℕ) (action : Action) → NotifiedBy priorities s (notified priorities s target index action value)
NotifiedBy-notified priorities s target index value action =
    let entry = entry_notified action value (entry_at s target index) in
    elim (is_left_alone action (entry_at s target index).state) as (λ b. NotifiedBy priorities s (cond b s (told priorities s target index entry))) [
      | true ↦ record { tasks = []; objects = refl; tick = refl }
      | false ↦ record { tasks = if_waiting_for s target index; objects = refl; tick = told-tick priorities s target index entry }
    ]

pub by_waking : (priorities : List ℕ) (s : Snapshot) (core task : ℕ) (call : NotifyCall) → ByWaking priorities s (notify_call_outcome priorities s task call) core task
by_waking priorities s core task (notify.Notify target index value action) =
    let by = NotifiedBy-notified priorities s target index (operand_value s task value) action in
    record { tasks = by.tasks; objects = by.objects; tick = by.tick }
by_waking priorities s core task (Query target index value action) =
    let by = NotifiedBy-notified priorities s target index (operand_value s task value) action in
    record { tasks = by.tasks; objects = by.objects; tick = by.tick }
by_waking priorities s core task (Take index exit wait) =
    let entry = entry_at s task index in
    ByWaking-or priorities s (waits_for_entry s task index entry wait) (call_returns (with_entry s task index (entry_taken exit entry)) entry.value)
    (nat_eq entry.value 0 && waits_once s task wait) core task (ByWaking-nobody priorities s _ core task refl refl) (ByWaking-nobody priorities s _ core task refl refl)
by_waking priorities s core task (notify.Wait index entry_bits exit_bits wait) =
    let entry = entry_opened s task index (operand_value s task entry_bits) in
    let bits = operand_value s task exit_bits in
    ByWaking-or priorities s (waits_for_entry s task index entry wait) (entry_closed s task index entry bits)
    (not (has_received (entry_at s task index).state) && waits_once s task wait) core task (ByWaking-nobody priorities s _ core task refl refl)
    (ByWaking-or priorities s (call_gives (with_entry s task index (entry_idle (entry_cleared bits entry))) 1 entry.value)
    (call_gives (with_entry s task index (entry_idle entry)) 0 entry.value) (has_received entry.state) core task
    (ByWaking-nobody priorities s _ core task refl refl) (ByWaking-nobody priorities s _ core task refl refl))
by_waking priorities s core task (ClearState target index) =
    ByWaking-or priorities s (call_passes (with_entry s target index (entry_idle (entry_at s target index)))) (call_fails s)
    (has_received (entry_at s target index).state) core task (ByWaking-nobody priorities s _ core task refl refl) (ByWaking-nobody priorities s _ core task refl refl)
by_waking priorities s core task (ClearValue target index bits) = ByWaking-nobody priorities s _ core task refl refl
