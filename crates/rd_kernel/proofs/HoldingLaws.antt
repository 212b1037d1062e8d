-- Tasks that wait as readers and writers of buffers, how they try again and how their waiting is completed, and what that keeps of
-- what makes a state valid.
use Rattle.rd_state.specs.declared.phase.Place.TheVariants as sort
use Rattle.std.proofs.Common.{◌<◌, ◌∙◌, ◌∷◌, ◌≡◌, ◌≢◌, ◌≤◌, Bool, List, None, Option, Some, [], ap, arith, cond, false, get_or, inl, inr, length}
use Rattle.std.proofs.Common.{refl, set, subst, sym, true, ℕ}
use Rattle.std.specs.Prelude.{nat_eq}
use Rattle.std.specs.Option.{option_and_then}
use Rattle.std.specs.Prelude.{IfSome}
use Rattle.std.proofs.lemmas.Bool.{cases_eq, cases_lt, false≢true}
use Rattle.std.proofs.lemmas.Bool.Decides.{nat_tests}
use Rattle.std.proofs.lemmas.List.{get_or-set_other, get_or-set_same, get_or_past, length-set, set-get_or, set-set}
use Rattle.rd_stream.specs.Holders.{HoldersView, IsSizedHolders, holder_of, no_holders}
use Rattle.rd_stream.specs.MessageSnapshot.{MessageSnapshot}
use Rattle.rd_stream.specs.StreamSnapshot.{StreamSnapshot}
use Rattle.rd_stream.specs.declared.side.Side.{Side}
use Rattle.rd_stream.specs.declared.side.Side.TheVariants.{Reader, Writer}
use Rattle.rd_state.specs.Sizes.{IsSized}
use Rattle.rd_app.specs.Application.{Application, instr_at, priorities_of}
use Rattle.rd_app.specs.declared.instr.Instr.{Instr}
use Rattle.rd_app.specs.declared.instr.Operand.{Operand}
use Rattle.rd_notify.specs.Entries.{entry_idle, entry_notified, entry_waiting, idle_entry}
use Rattle.rd_notify.specs.declared.action.Action.TheVariants.{LeaveValue}
use Rattle.rd_notify.specs.declared.entries.Entry.{Entry}
use Rattle.rd_notify.specs.declared.entries.EntryState.{EntryState}
use Rattle.rd_notify.specs.declared.entries.EntryState.TheVariants.{Idle, Received, Waiting}
use Rattle.rd_state.specs.declared.phase.Cause.{Cause}
use Rattle.rd_state.specs.declared.phase.Held.{Held}
use Rattle.rd_state.specs.declared.phase.Phase.{Phase}
use Rattle.rd_state.specs.declared.phase.Phase.TheVariants.{Again, Ended, Failed, Given, Run, Wait}
use Rattle.rd_state.specs.declared.phase.Place.{Place}
use Rattle.rd_state.specs.Objects.{ObjectsSnapshot, message_in, no_message_buffer, no_stream, numbers_in, stream_in}
use Rattle.rd_state.specs.Phases.{can_run, tries_again, waits_at, was_given}
use Rattle.rd_state.specs.Snapshot.{Snapshot, TaskSnapshot, core_at, no_task, task_at, with_objects, with_task}
use Rattle.rd_state.specs.Valid.{EntriesFitCall, FitsCall, HoldersFitCall, PhaseFitsCall, entry_of_call, is_ahead, is_in_group, place_of_call, times_to_run, state_of_entry, times_in_list}
use Rattle.rd_state.specs.Waiting.{HasHeld, entry_of, held_side, holder_at, holder_in, objects_naming, with_holder}
use Rattle.rd_state.specs.declared.phase.Held.TheVariants.{Stream, Message}
use Rattle.rd_state.specs.Objects.{AreShaped}
use Rattle.rd_state.specs.Waiting.{IsHeld}
use Rattle.rd_state.proofs.Offered.{message_count_shaped, message_in_sized, stream_count_shaped, stream_in_sized, times_in_list-cons}
use Rattle.rd_kernel.specs.Holding.{cause_of_side, come_back, completed, completed_for, is_named, name_gone, waits_held, waits_where}
use Rattle.rd_kernel.specs.Outcomes.{call_returns, concluded, stopped}
use Rattle.rd_kernel.specs.Tasks.{HasEntry, entry_at, with_entry}
use Rattle.rd_kernel.specs.Telling.{if_waiting_for, is_that_entry, told}
use Rattle.rd_kernel.specs.Waking.{deadline_of, may_wait, woken_all}
use Rattle.rd_kernel.specs.declared.outcome.Outcome.TheVariants.{Fails}
use Rattle.rd_kernel.specs.declared.waking.Waking.TheVariants.{TriesAgain}
use Rattle.rd_kernel.proofs.CallLaws.{IsConsistent-returned, IsConsistent-stopped, IsConsistent-with_values, RunsInstr, free_at}
use Rattle.rd_kernel.proofs.ConsistentLaws.{ContentsChange, IsConsistent, IsConsistent-contents, IsConsistent-valid, all_have_time_left, task_now}
use Rattle.rd_kernel.proofs.EntryLaws.{IsConsistent-told, IsConsistent-with_entry, StaysThere, StaysThere-told, StaysThere-with_entry, idle_of_entry}
use Rattle.rd_kernel.proofs.HolderLaws.{HolderGoes-naming, by_held}
use Rattle.rd_kernel.proofs.MovingLaws.{IsConsistent-moves, IsFree, IsFree-objects, ObjectsGo-holder, LineupGoes-off_core, LineupGoes-stay, free_in_run, true_if_one}
use Rattle.rd_kernel.proofs.MovingLaws.{none_is_some, runner_waits_nowhere, waits_nowhere}
use Rattle.rd_kernel.proofs.TaskListLaws.{other_none, same_one}
use Rattle.rd_kernel.proofs.WakingLaws.{AfterWaking, AfterWaking-woken_all}

-- ---- a place that names nobody any more

some_is : (a b : ℕ) → Some a ≡ Some b → a ≡ b
some_is a b e = cc

held_is : (held other : Held) → Some (sort.Held held) ≡ Some (sort.Held other) → held ≡ other
held_is held other e = cc

idle_is_waiting : Idle ≡ Waiting → ⊥
idle_is_waiting e = cc

received_is_waiting : Received ≡ Waiting → ⊥
received_is_waiting e = cc

-- It named a task that doesn't wait.
IsConsistent-name_gone : (app : Application) (D : ℕ → Phase → Type 0) (s : Snapshot) (held : Held) (task : ℕ) → task < length s.tasks → HasHeld s held
    → holder_at s held ≡ Some task → waits_at (task_at s task).phase ≡ None → IsConsistent app D s → IsConsistent app D (with_holder s held None)
IsConsistent-name_gone app D s held task there has_held named nowhere at =
    let x = task_at s task in
    let goes = HolderGoes-naming s.objects held None has_held in
    let was = at.holders task there in
    IsConsistent-moves app D s (with_holder s held None) task x there (sym (set-get_or s.tasks task no_task)) (at.each task there)
    (record {
      named = λ other is. by_held other held
          (λ same. absurd (none_is_some task (sym goes.here ∙ ap (holder_in (objects_naming s.objects held None)) (sym same) ∙ is)))
          (λ apart. was.named other (sym (goes.others other apart) ∙ is));
      names = λ other waits. absurd (none_is_some (sort.Held other) (sym nowhere ∙ waits));
    })
    (LineupGoes-stay app D s task x.phase there refl at)
    (ObjectsGo-holder app D s held None task x.phase there has_held (λ t differs. none_is_some t)
    (λ t differs is. differs (some_is t task (sym is ∙ named))) (λ place. refl) at) at

-- ---- the caller of a call, as it stands in the middle of it

-- What holds of the state that a call has made so far: it is consistent, the caller stands where it stood, waits through no entry
-- and is named by no place, and whoever is named is a task.
pub record IsOn (app : Application) (s p : Snapshot) (task : ℕ) : Type 0 where
  pub consistent : IsConsistent app (all_have_time_left s.tick) p
  pub stays : StaysThere s p task
  pub free : IsFree p.objects task (task_at p task).entries
  pub cores : p.cores ≡ s.cores
  pub tick : p.tick ≡ s.tick
  pub named : (held : Held) (t : ℕ) → holder_at p held ≡ Some t → t < length p.tasks

-- Whoever is named at a valid state is a task.
abbrev pub NamesTasks : Snapshot → Type 0
NamesTasks s = (held : Held) (t : ℕ) → holder_at s held ≡ Some t → t < length s.tasks

names_if : (o : Option ℕ) (count tasks t : ℕ) → IfSome o (λ task. task < count) → count ≡ tasks → o ≡ Some t → t < tasks
names_if o count tasks t sized same e = let here = subst (λ w. IfSome w (λ task. task < count)) e sized in omega (arith, here, same)

nobody_past : (side : Side) (t : ℕ) → holder_of side (no_holders 0) ≡ Some t → ⊥
nobody_past Reader t e = none_is_some t e
nobody_past Writer t e = none_is_some t e

names_there : (side : Side) (holders : HoldersView) (tasks t : ℕ) → IsSizedHolders holders → holders.task_count ≡ tasks → holder_of side holders ≡ Some t → t < tasks
names_there Reader holders tasks t sized same e = names_if holders.reader holders.task_count tasks t sized.reader same e
names_there Writer holders tasks t sized same e = names_if holders.writer holders.task_count tasks t sized.writer same e

pub NamesTasks-sized : (s : Snapshot) → IsSized s → NamesTasks s
NamesTasks-sized s sized (Stream stream side) t e = elim (cases_lt stream (length s.objects.streams)) [
  | inl there ↦
      let here = stream_in_sized (length s.tasks) s.objects stream sized.objects there in
      names_there side (stream_in s.objects stream).holders (length s.tasks) t here.0.holders here.1 e
  | inr past ↦ absurd (nobody_past side t (ap (λ (b : StreamSnapshot). holder_of side b.holders) (sym (get_or_past s.objects.streams stream no_stream past)) ∙ e))
]
NamesTasks-sized s sized (Message message side) t e = elim (cases_lt message (length s.objects.messages)) [
  | inl there ↦
      let here = message_in_sized (length s.tasks) s.objects message sized.objects there in
      names_there side (message_in s.objects message).holders (length s.tasks) t here.0.holders here.1 e
  | inr past ↦
      absurd (nobody_past side t (ap (λ (b : MessageSnapshot). holder_of side b.holders) (sym (get_or_past s.objects.messages message no_message_buffer past)) ∙ e))
]

-- at the beginning of a call that waits through no entry
pub IsOn-outside : (app : Application) (s : Snapshot) (core task : ℕ) (instr : Instr) → RunsInstr app s core task instr → entry_of_call instr ≡ None → NamesTasks s
    → IsOn app s s task
IsOn-outside app s core task instr calls none named = record {
  consistent = IsConsistent-valid app s calls.valid;
  stays = record { same_length = refl; pc = refl; phase = refl };
  free = free_at app s core task instr calls none;
  cores = refl;
  tick = refl;
  named = named;
}

-- Its registers or data have changed.
pub IsOn-values : (app : Application) (s p : Snapshot) (task : ℕ) (registers bytes : List ℕ) → task < length s.tasks → IsOn app s p task
    → IsOn app s (with_task p task (record (task_at p task) { registers = registers; bytes = bytes })) task
IsOn-values app s p task registers bytes there on =
    let x = record (task_at p task) { registers = registers; bytes = bytes } in
    let q = with_task p task x in
    let there_p : task < length p.tasks = omega (arith, there, on.stays.same_length) in
    let now = task_now p task x there_p in
    record {
      consistent = IsConsistent-with_values app (all_have_time_left s.tick) p task registers bytes there_p on.consistent;
      stays = record {
        same_length = length-set p.tasks task x ∙ on.stays.same_length;
        pc = ap (λ (t : TaskSnapshot). t.pc) now ∙ on.stays.pc;
        phase = ap (λ (t : TaskSnapshot). t.phase) now ∙ on.stays.phase;
      };
      free = subst (λ (t : TaskSnapshot). IsFree q.objects task t.entries) (sym now) on.free;
      cores = on.cores;
      tick = on.tick;
      named = λ held t is. omega (arith, on.named held t is, length-set p.tasks task x);
    }

-- Objects have changed in what they hold.
pub IsOn-contents : (app : Application) (s p : Snapshot) (task : ℕ) (n : ObjectsSnapshot) → ContentsChange p.objects n → IsOn app s p task
    → IsOn app s (with_objects p n) task
IsOn-contents app s p task n change on = record {
  consistent = IsConsistent-contents app (all_have_time_left s.tick) p n change on.consistent;
  stays = record { same_length = on.stays.same_length; pc = on.stays.pc; phase = on.stays.phase };
  free = IsFree-objects p.objects n task (task_at p task).entries change.holders on.free;
  cores = on.cores;
  tick = on.tick;
  named = λ held t is. on.named held t (sym (change.holders held) ∙ is);
}

-- The call returns.
pub IsOn-returns : (app : Application) (s p : Snapshot) (core task value : ℕ) (instr : Instr) → RunsInstr app s core task instr → IsOn app s p task
    → IsConsistent app (all_have_time_left s.tick) (concluded (call_returns p value) core task)
IsOn-returns app s p core task value instr calls on =
    IsConsistent-returned app (all_have_time_left s.tick) p task value (omega (arith, calls.there, on.stays.same_length))
    (subst (λ phase. 1 ≤ times_to_run phase) (sym on.stays.phase) calls.runs) on.free (omega (arith, calls.within, on.stays.pc)) tt on.consistent

-- It fails.
pub IsOn-fails : (app : Application) (s p : Snapshot) (core task : ℕ) (cause : Cause) (instr : Instr) → RunsInstr app s core task instr → IsOn app s p task
    → IsConsistent app (all_have_time_left s.tick) (concluded (record { state = p; outcome = Fails cause }) core task)
IsOn-fails app s p core task cause instr calls on =
    IsConsistent-stopped app (all_have_time_left s.tick) p core task (Failed cause) (omega (arith, calls.there, on.stays.same_length))
    (subst (λ phase. 1 ≤ times_to_run phase) (sym on.stays.phase) calls.runs) (omega (arith, calls.has_core, ap length on.cores))
    (ap (λ (cores : List (Option ℕ)). get_or cores core None) on.cores ∙ calls.on_core) refl refl on.free tt tt on.consistent

-- ---- a call that is tried again

-- what it begins with, where it is a call of that place
abbrev IsCallAt : Application → Snapshot → ℕ → Held → Type 0
IsCallAt app s task held = place_of_call (instr_at app task (task_at s task).pc) ≡ Some (sort.Held held)

-- its name gone, if it stood there
record NameGone (app : Application) (s p : Snapshot) (task : ℕ) : Type 0 where
  consistent : IsConsistent app (all_have_time_left s.tick) p
  tasks : p.tasks ≡ s.tasks
  cores : p.cores ≡ s.cores
  tick : p.tick ≡ s.tick
  unnamed : (held : Held) → holder_at p held ≢ Some task
  named : (held : Held) (t : ℕ) → holder_at p held ≡ Some t → t < length s.tasks

-- A place that names its task is that of its call.
named_at_call : (app : Application) (s : Snapshot) (task : ℕ) (held other : Held) → task < length s.tasks → IsCallAt app s task held
    → IsConsistent app (all_have_time_left s.tick) s → holder_at s other ≡ Some task → other ≡ held
named_at_call app s task held other there call at is = held_is other held (sym ((at.holders task there).named other is).0 ∙ call)

NameGone-name_gone : (app : Application) (s : Snapshot) (task : ℕ) (held : Held) → task < length s.tasks → HasHeld s held → IsCallAt app s task held
    → waits_at (task_at s task).phase ≡ None → NamesTasks s → IsConsistent app (all_have_time_left s.tick) s → NameGone app s (name_gone s held task) task
NameGone-name_gone app s task held there has_held call nowhere names at = by_name (holder_at s held) refl
  where
    stays : ((other : Held) → holder_at s other ≢ Some task) → NameGone app s s task
    stays unnamed = record { consistent = at; tasks = refl; cores = refl; tick = refl; unnamed = unnamed; named = names }

    by_name : (o : Option ℕ) → holder_at s held ≡ o → NameGone app s (cond (is_named task o) (with_holder s held None) s) task
    by_name None e =
        stays (λ other is. none_is_some task (sym e ∙ ap (holder_at s) (sym (named_at_call app s task held other there call at is)) ∙ is))
    by_name (Some holder) e = elim (cases_eq holder task) [
      | inl same ↦
          let test : nat_eq holder task ≡ true = grind (arith, nat_tests, same) in
          let goes = HolderGoes-naming s.objects held None has_held in
          let before : (other : Held) (t : ℕ) → holder_at (with_holder s held None) other ≡ Some t → holder_at s other ≡ Some t =
          λ other t is. by_held other held
          (λ one. absurd (none_is_some t (sym goes.here ∙ ap (holder_in (objects_naming s.objects held None)) (sym one) ∙ is)))
          (λ apart. sym (goes.others other apart) ∙ is) in
          subst (λ b. NameGone app s (cond b (with_holder s held None) s) task) (sym test) (record {
            consistent = IsConsistent-name_gone app (all_have_time_left s.tick) s held task there has_held (e ∙ ap Some same) nowhere at;
            tasks = refl;
            cores = refl;
            tick = refl;
            unnamed = λ other is. none_is_some task
                (sym goes.here ∙ ap (holder_in (objects_naming s.objects held None)) (sym (named_at_call app s task held other there call at (before other task is))) ∙ is);
            named = λ other t is. names other t (before other t is);
          })
      | inr differs ↦
          let test : nat_eq holder task ≡ false = grind (arith, nat_tests, differs) in
          subst (λ b. NameGone app s (cond b (with_holder s held None) s) task) (sym test)
          (stays (λ other is. differs (some_is holder task (sym e ∙ ap (holder_at s) (sym (named_at_call app s task held other there call at is)) ∙ is))))
    ]

first_runs : (phase : Phase) (instr : Instr) → 1 ≤ times_to_run phase → tries_again phase ≡ false → is_in_group (place_of_call instr) ≡ false
    → PhaseFitsCall phase instr → phase ≡ Run
first_runs Run instr runs first none at = refl
first_runs (Again deadline) instr runs first none at = absurd (false≢true (sym first))
first_runs (Given bits) instr runs first none at = absurd (false≢true (sym none ∙ at))
first_runs (Wait place deadline) instr runs first none at = absurd (omega (arith, runs))
first_runs Ended instr runs first none at = absurd (omega (arith, runs))
first_runs (Failed cause) instr runs first none at = absurd (omega (arith, runs))

-- So a call of a buffer begins, at whichever try.
pub IsOn-come_back : (app : Application) (s : Snapshot) (core task : ℕ) (held : Held) (instr : Instr) → RunsInstr app s core task instr
    → place_of_call instr ≡ Some (sort.Held held) → HasHeld s held → 0 < app.entries → NamesTasks s → IsOn app s (come_back s task held) task
IsOn-come_back app s core task held instr calls at_place has_held entries names = by_try (tries_again (task_at s task).phase) refl
  where
    by_try : (b : Bool) → tries_again (task_at s task).phase ≡ b
        → IsOn app s (cond b (with_entry (name_gone s held task) task 0 (entry_idle (entry_at s task 0))) s) task
    by_try false first =
        let x = task_at s task in
        let at = IsConsistent-valid app s calls.valid in
        let run = first_runs x.phase instr calls.runs first (ap is_in_group at_place) (subst (PhaseFitsCall x.phase) calls.at_instr (at.each task calls.there).call) in
        record {
          consistent = at;
          stays = record { same_length = refl; pc = refl; phase = refl };
          free = free_in_run s.objects task (instr_at app task x.pc) x.entries
              (subst (λ phase. EntriesFitCall phase (instr_at app task x.pc) x.entries) run (at.each task calls.there).entries)
              (subst (λ phase. HoldersFitCall s.objects task phase (instr_at app task x.pc)) run (at.holders task calls.there));
          cores = refl;
          tick = refl;
          named = names;
        }
    by_try true again =
        let x = task_at s task in
        let at = IsConsistent-valid app s calls.valid in
        let D = all_have_time_left s.tick in
        let nowhere = runner_waits_nowhere x.phase (true_if_one (can_run x.phase) calls.runs) in
        let call : IsCallAt app s task held = ap place_of_call calls.at_instr ∙ at_place in
        let gone = NameGone-name_gone app s task held calls.there has_held call nowhere names at in
        let p = name_gone s held task in
        let same : task_at p task ≡ x = ap (λ (ts : List TaskSnapshot). get_or ts task no_task) gone.tasks in
        let there : task < length p.tasks = omega (arith, calls.there, ap length gone.tasks) in
        let some : 0 < length (task_at p task).entries = omega (arith, (gone.consistent.each task there).entry_count, entries) in
        let idle = entry_idle (entry_at s task 0) in
        let q = with_entry p task 0 idle in
        let stays = StaysThere-with_entry p task 0 idle there in
        let now = task_now p task (record (task_at p task) { entries = set (task_at p task).entries 0 idle }) there in
        let through : entry_of_call (instr_at app task (task_at p task).pc) ≡ Some 0 =
        ap (λ (t : TaskSnapshot). entry_of_call (instr_at app task t.pc)) same ∙ ap (option_and_then entry_of) call in
        let not_waiting : (i : ℕ) → state_of_entry (set (task_at p task).entries 0 idle) i ≢ Waiting =
        idle_of_entry (task_at p task).phase (instr_at app task (task_at p task).pc) (task_at p task).entries 0 idle some through idle_is_waiting
        (gone.consistent.each task there).entries in
        record {
          consistent = IsConsistent-with_entry app D p task 0 idle (there, some) (λ waiting. absurd (idle_is_waiting waiting))
              (λ is. absurd (none_is_some 0
              (sym (ap (λ (t : TaskSnapshot). option_and_then entry_of (waits_at t.phase)) same ∙ ap (option_and_then entry_of) nowhere) ∙ is))) gone.consistent;
          stays = record {
            same_length = stays.same_length ∙ ap length gone.tasks;
            pc = stays.pc ∙ ap (λ (t : TaskSnapshot). t.pc) same;
            phase = stays.phase ∙ ap (λ (t : TaskSnapshot). t.phase) same;
          };
          free = record {
            idle = λ i is. not_waiting i (ap (λ (t : TaskSnapshot). state_of_entry t.entries i) (sym now) ∙ is);
            unnamed = gone.unnamed;
          };
          cores = gone.cores;
          tick = gone.tick;
          named = λ other t is. omega (arith, gone.named other t is, stays.same_length, ap length gone.tasks);
        }

-- ---- a task that waits as a reader or writer

IsConsistent-waiting_held : (app : Application) (D : ℕ → Phase → Type 0) (s : Snapshot) (core task : ℕ) (held : Held) (deadline : Option ℕ) → HasEntry s task 0
    → 1 ≤ times_to_run (task_at s task).phase → core < length s.cores → core_at s core ≡ Some task → HasHeld s held → holder_at s held ≡ None
    → IsCallAt app s task held → IsFree s.objects task (task_at s task).entries → D task (Wait (sort.Held held) deadline) → IsConsistent app D s
    → IsConsistent app D (stopped (with_entry (with_holder s held (Some task)) task 0 (entry_waiting (entry_at s task 0))) core task (Wait (sort.Held held) deadline))
IsConsistent-waiting_held app D s core task held deadline has runs has_core e has_held nobody call free asked at =
    let was = at.each task has.0 in
    let x = task_at s task in
    let phase = Wait (sort.Held held) deadline in
    let waiting = entry_waiting (entry_at s task 0) in
    let entries = set x.entries 0 waiting in
    let named = with_holder s held (Some task) in
    let told_so = record x { entries = entries } in
    let now : TaskSnapshot = record x { entries = entries; phase = phase } in
    let p = stopped (with_entry named task 0 waiting) core task phase in
    let goes = HolderGoes-naming s.objects held (Some task) has_held in
    let tasks : p.tasks ≡ set s.tasks task now =
    ap (λ (y : TaskSnapshot). set (set s.tasks task told_so) task (record y { phase = phase })) (task_now s task told_so has.0) ∙ set-set s.tasks task told_so now in
    let state : Entry → EntryState = λ e. e.state in
    let here : state_of_entry entries 0 ≡ Waiting = ap state (get_or-set_same x.entries 0 waiting idle_entry has.1) in
    let through : entry_of_call (instr_at app task x.pc) ≡ Some 0 = ap (option_and_then entry_of) call in
    IsConsistent-moves app D s p task now has.0 tasks
    (record {
      pc = was.pc;
      entry_count = length-set x.entries 0 waiting ∙ was.entry_count;
      call = call;
      deadline = asked;
      entries = record {
        in_call = λ i is. elim (cases_eq i 0) [
          | inl same ↦ (through ∙ ap Some (sym same), refl)
          | inr differs ↦ absurd (free.idle i (sym (ap state (get_or-set_other x.entries 0 i waiting idle_entry differs)) ∙ is))
        ];
        while_waiting = λ i is. let same : 0 ≡ i = cc in ap (state_of_entry entries) (sym same) ∙ here;
      };
    })
    (record {
      named = λ other is. by_held other held (λ same. (call ∙ ap (λ h. Some (sort.Held h)) (sym same), refl))
          (λ apart. absurd (free.unnamed other (sym (goes.others other apart) ∙ is)));
      names = λ other is. ap (holder_in p.objects) (sym (held_is held other is)) ∙ goes.here;
    })
    (LineupGoes-off_core app D s core task phase has.0 runs has_core e refl at)
    (ObjectsGo-holder app D s held (Some task) task phase has.0 has_held (λ t differs is. differs (some_is t task (sym is)))
    (λ t differs is. none_is_some t (sym nobody ∙ is)) (λ list. sym (waits_nowhere list x.phase runs)) at) at

-- A call that is to wait, where its time lasts: it waits, or it fails.
pub IsOn-waits_held : (app : Application) (s p : Snapshot) (core task : ℕ) (held : Held) (wait : Operand) (instr : Instr) → RunsInstr app s core task instr
    → place_of_call instr ≡ Some (sort.Held held) → HasHeld p held → 0 < app.entries → may_wait p task wait ≡ true → IsOn app s p task
    → IsConsistent app (all_have_time_left s.tick) (concluded (waits_held p task held wait) core task)
IsOn-waits_held app s p core task held wait instr calls at_place has_held entries ahead on = by_name (holder_at p held) refl
  where
    there : task < length p.tasks
    there = omega (arith, calls.there, on.stays.same_length)

    has : HasEntry p task 0
    has = (there, omega (arith, (on.consistent.each task there).entry_count, entries))

    by_name : (o : Option ℕ) → holder_at p held ≡ o
        → IsConsistent app (all_have_time_left s.tick) (concluded (waits_where o p task held wait) core task)
    by_name None nobody =
        IsConsistent-waiting_held app (all_have_time_left s.tick) p core task held (deadline_of p task wait) has
        (subst (λ phase. 1 ≤ times_to_run phase) (sym on.stays.phase) calls.runs) (omega (arith, calls.has_core, ap length on.cores))
        (ap (λ (cores : List (Option ℕ)). get_or cores core None) on.cores ∙ calls.on_core) has_held nobody
        (ap (λ pc. place_of_call (instr_at app task pc)) on.stays.pc ∙ ap place_of_call calls.at_instr ∙ at_place) on.free
        (ap (λ tick. is_ahead tick (deadline_of p task wait)) (sym on.tick) ∙ ahead) on.consistent
    by_name (Some other) named = IsOn-fails app s p core task (cause_of_side (held_side held)) instr calls on

-- ---- a wait that is completed

-- A place that is there still is.
pub has_held_still : (app : Application) (o n : ObjectsSnapshot) (held : Held) → AreShaped app o → AreShaped app n → IsHeld (numbers_in o) held → IsHeld (numbers_in n) held
has_held_still app o n (Stream stream side) was now there = omega (arith, there, stream_count_shaped app o was, stream_count_shaped app n now)
has_held_still app o n (Message message side) was now there = omega (arith, there, message_count_shaped app o was, message_count_shaped app n now)

-- Whoever is named by a place and is told through entry 0 waits nowhere then.
told_waits_nowhere : (app : Application) (D : ℕ → Phase → Type 0) (s : Snapshot) (held : Held) (t : ℕ) → t < length s.tasks → holder_at s held ≡ Some t
    → IsConsistent app D s → waits_at (task_at (woken_all (priorities_of app) TriesAgain s (if_waiting_for s t 0)) t).phase ≡ None
told_waits_nowhere app D s held t there named at = by_place (waits_at (task_at s t).phase) refl
  where
    after : (tasks : List ℕ) → AfterWaking s (woken_all (priorities_of app) TriesAgain s tasks) tasks
    after tasks = AfterWaking-woken_all (priorities_of app) TriesAgain s tasks

    by_place : (o : Option Place) → waits_at (task_at s t).phase ≡ o
        → waits_at (task_at (woken_all (priorities_of app) TriesAgain s (if_waiting_for s t 0)) t).phase ≡ None
    by_place None e = ap (λ (x : TaskSnapshot). waits_at x.phase) ((after (if_waiting_for s t 0)).idle t e) ∙ e
    by_place (Some place) e =
        let x = task_at s t in
        let instr = instr_at app t x.pc in
        let call : place_of_call instr ≡ Some place = subst (λ o. FitsCall instr o (tries_again x.phase) (was_given x.phase)) e (at.each t there).call in
        let one : waits_at x.phase ≡ Some (sort.Held held) = e ∙ sym call ∙ ((at.holders t there).named held named).0 in
        let tasks : if_waiting_for s t 0 ≡ t ∷ [] = ap (λ o. cond (is_that_entry 0 (option_and_then entry_of o)) (t ∷ []) []) one in
        subst (λ ts. waits_at (task_at (woken_all (priorities_of app) TriesAgain s ts) t).phase ≡ None) (sym tasks)
        ((after (t ∷ [])).woken t (omega (arith, times_in_list-cons t t [], same_one t)) there)

-- who isn't told stays as it is
untold : (priorities : List ℕ) (s : Snapshot) (t index task : ℕ) (entry : Entry) → task ≢ t → task_at (told priorities s t index entry) task ≡ task_at s task
untold priorities s t index task entry differs =
    let tasks = if_waiting_for s t index in
    let w = woken_all priorities TriesAgain s tasks in
    let x = record (task_at w t) { entries = set (task_at w t).entries index entry } in
    let none : times_in_list task tasks ≡ 0 =
    elim (is_that_entry index (option_and_then entry_of (waits_at (task_at s t).phase))) as (λ b. times_in_list task (cond b (t ∷ []) []) ≡ 0) [
      | true ↦ omega (arith, times_in_list-cons task t [], other_none task t differs)
      | false ↦ refl
    ] in
    get_or-set_other w.tasks t task x no_task differs ∙ (AfterWaking-woken_all priorities TriesAgain s tasks).others task none

pub IsOn-completed : (app : Application) (s p : Snapshot) (core task : ℕ) (held : Held) (instr : Instr) → RunsInstr app s core task instr → HasHeld p held
    → 0 < app.entries → IsOn app s p task → IsOn app s (completed (priorities_of app) p held) task
IsOn-completed app s p core task held instr calls has_held entries on = by_name (holder_at p held) refl
  where
    by_name : (o : Option ℕ) → holder_at p held ≡ o → IsOn app s (completed_for o (priorities_of app) p held) task
    by_name None e = on
    by_name (Some t) e =
        let D = all_have_time_left s.tick in
        let priorities = priorities_of app in
        let there = on.named held t e in
        let differs : task ≢ t = λ same. on.free.unnamed held (e ∙ ap Some (sym same)) in
        let entry = entry_notified LeaveValue 0 (entry_at p t 0) in
        let tasks = if_waiting_for p t 0 in
        let after = AfterWaking-woken_all priorities TriesAgain p tasks in
        let w = woken_all priorities TriesAgain p tasks in
        let q = told priorities p t 0 entry in
        let has : HasEntry p t 0 = (there, omega (arith, (on.consistent.each t there).entry_count, entries)) in
        let at_q = IsConsistent-told app D p t 0 entry has received_is_waiting (λ deadline. tt) on.consistent in
        let x = record (task_at w t) { entries = set (task_at w t).entries 0 entry } in
        let in_w : t < length w.tasks = omega (arith, there, after.same_length) in
        let in_q : t < length q.tasks = omega (arith, in_w, length-set w.tasks t x) in
        let nowhere : waits_at (task_at q t).phase ≡ None =
        ap (λ (y : TaskSnapshot). waits_at y.phase) (task_now w t x in_w) ∙ told_waits_nowhere app D p held t there e on.consistent in
        let has_q = has_held_still app p.objects q.objects held on.consistent.shapes at_q.shapes has_held in
        let goes = HolderGoes-naming q.objects held None has_q in
        let before : (other : Held) (u : ℕ) → holder_at (with_holder q held None) other ≡ Some u → holder_at p other ≡ Some u =
        λ other u is. by_held other held
        (λ one. absurd (none_is_some u (sym goes.here ∙ ap (holder_in (objects_naming q.objects held None)) (sym one) ∙ is)))
        (λ apart. sym (after.holders other) ∙ sym (goes.others other apart) ∙ is) in
        let stays = StaysThere-told priorities p task t 0 entry there (subst (λ phase. 1 ≤ times_to_run phase) (sym on.stays.phase) calls.runs) in
        record {
          consistent = IsConsistent-name_gone app D q held t in_q has_q (after.holders held ∙ e) nowhere at_q;
          stays = record {
            same_length = stays.same_length ∙ on.stays.same_length;
            pc = stays.pc ∙ on.stays.pc;
            phase = stays.phase ∙ on.stays.phase;
          };
          free = record {
            idle = λ i is. on.free.idle i (ap (λ (y : TaskSnapshot). state_of_entry y.entries i) (sym (untold priorities p t 0 task entry differs)) ∙ is);
            unnamed = λ other is. on.free.unnamed other (before other task is);
          };
          cores = after.cores ∙ on.cores;
          tick = after.tick ∙ on.tick;
          named = λ other u is. omega (arith, on.named other u (before other u is), stays.same_length);
        }
