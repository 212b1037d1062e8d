-- The state at boot is valid.
use Rattle.std.proofs.Common.{◌≡◌, ◌∙◌, ℕ, zero, suc, ◌<◌, ◌≤◌, List, [], length, get_or, replicate, None, Some, refl, ap, subst, sym, arith, inl, inr}
use Rattle.std.proofs.lemmas.List.{length-replicate, get_or-replicate, get_or_past}
use Rattle.std.proofs.lemmas.Bool.{cases_lt}
use Rattle.std.proofs.lemmas.List.Elements.{All-replicate, All-get_or}
use Rattle.std.proofs.lemmas.List.Sums.{sum_by-cons}
use Rattle.std.proofs.lemmas.Bool.Decides.{nat_tests}
use Rattle.rd_app.specs.declared.instr.Instr.{Instr}
use Rattle.rd_notify.specs.declared.entries.Entry.{Entry}
use Rattle.rd_notify.specs.declared.entries.EntryState.TheVariants.{Idle, Waiting}
use Rattle.rd_notify.specs.Entries.{idle_entry}
use Rattle.rd_app.specs.Application.{Application, IsApplication, IsScript, instr_at, priorities_of}
use Rattle.rd_wait.specs.Joined.{IsInOrder}
use Rattle.rd_wait.proofs.Offered.{IsInOrder-joined}
use Rattle.rd_state.specs.declared.phase.Place.{Place}
use Rattle.rd_state.specs.declared.phase.Place.TheVariants as sort
use Rattle.rd_state.specs.Boot.{all_joined, before_scheduling, boot_of, fresh_task}
use Rattle.rd_state.specs.Settled.{lineup_of, IsSettled}
use Rattle.rd_state.specs.Sizes.{IsSized}
use Rattle.rd_state.specs.Snapshot.{Snapshot, TaskSnapshot, no_task, task_at}
use Rattle.rd_state.specs.Valid.{EntriesFitCall, HoldersFitCall, IsValid, PhaseFitsCall, HasTimeLeft, is_on, times_to_run}
use Rattle.rd_state.specs.Valid.{times_in_list, times_on_cores, times_waiting_in}
use Rattle.rd_state.proofs.EndLaws.{scheduling_settles}
use Rattle.rd_state.proofs.ObjectLaws.{AreShaped-new}
use Rattle.rd_state.proofs.PlaceLaws.{holder_at-before_scheduling, waiting_at-before_scheduling}
use Rattle.rd_state.proofs.ScheduleLaws.{Rescheduled, Rescheduled-settled, one_if, times_in_list-joined}

-- Each of the tasks so far stands once in the list of all that joined, and no other does.
times_in_list-all_joined : (priorities : List ℕ) (n task : ℕ)
    → (task < n → times_in_list task (all_joined priorities n) ≡ 1) × (n ≤ task → times_in_list task (all_joined priorities n) ≡ 0)
times_in_list-all_joined priorities zero task = (λ h. absurd (omega (arith, h)), λ h. refl)
times_in_list-all_joined priorities (suc n) task =
    let before = times_in_list-all_joined priorities n task in
    let joins = times_in_list-joined priorities (all_joined priorities n) task n in
    (λ h. grind (arith, nat_tests, joins, before.0, before.1), λ h. grind (arith, nat_tests, joins, before.0, before.1))

times_on_cores-idle : (task n : ℕ) → times_on_cores task (replicate n None) ≡ 0
times_on_cores-idle task zero = refl
times_on_cores-idle task (suc n) = omega (arith, sum_by-cons (λ r. one_if (is_on task r)) None (replicate n None), times_on_cores-idle task n)

IsInOrder-all_joined : (priorities : List ℕ) (n : ℕ) → IsInOrder priorities (all_joined priorities n)
IsInOrder-all_joined priorities zero = tt
IsInOrder-all_joined priorities (suc n) = IsInOrder-joined priorities (all_joined priorities n) n (IsInOrder-all_joined priorities n)

-- At boot all entries are idle.
fresh_is_idle : (count index : ℕ) → get_or (replicate count idle_entry) index idle_entry ≡ idle_entry
fresh_is_idle count index = elim (cases_lt index count) [
  | inl there ↦ get_or-replicate count index idle_entry idle_entry there
  | inr past ↦ get_or_past (replicate count idle_entry) index idle_entry (omega (arith, past, length-replicate count idle_entry))
]

EntriesFitCall-fresh : (count : ℕ) (instr : Instr) → EntriesFitCall (fresh_task count).phase instr (fresh_task count).entries
EntriesFitCall-fresh count instr = record {
  in_call = λ index waiting. absurd (idle_is_not_waiting (sym (ap (λ (e : Entry). e.state) (fresh_is_idle count index)) ∙ waiting));
  while_waiting = λ index waits. absurd (none_is_some index waits);
}
  where
    idle_is_not_waiting : Idle ≡ Waiting → ⊥
    idle_is_not_waiting e = cc

    none_is_some : (n : ℕ) → None ≡ Some n → ⊥
    none_is_some n e = cc

-- At boot no place of a buffer names anybody.
HoldersFitCall-fresh : (app : Application) (task : ℕ) → HoldersFitCall (before_scheduling app).objects task (fresh_task app.entries).phase (instr_at app task 0)
HoldersFitCall-fresh app task = record {
  named = λ held is. absurd (none_is_some task (sym (holder_at-before_scheduling app held) ∙ is));
  names = λ held waits. absurd (nowhere (sort.Held held) waits);
}
  where
    none_is_some : (n : ℕ) → None ≡ Some n → ⊥
    none_is_some n e = cc

    nowhere : (place : Place) → None ≡ Some place → ⊥
    nowhere place e = cc

pub IsValid-boot : (app : Application) (s : Snapshot) → IsApplication app → IsSized s → s ≡ boot_of app → IsValid app s
IsValid-boot app s limits sized e =
    let priorities = priorities_of app in
    let n = length app.tasks in
    let before = before_scheduling app in
    let cores : length before.cores ≡ app.cores = length-replicate app.cores None in
    let rescheduled : Rescheduled priorities (lineup_of before) (lineup_of (boot_of app)) =
    Rescheduled-settled priorities before (omega (arith, cores, limits.some_cores)) in
    let tasks : length before.tasks ≡ n = length-replicate n (fresh_task app.entries) in
    let there : (task : ℕ) → task < length before.tasks → task_at before task ≡ fresh_task app.entries =
    λ task h. get_or-replicate n task (fresh_task app.entries) no_task (omega (arith, h, tasks)) in
    let valid : IsSized (boot_of app) → IsValid app (boot_of app) = λ z. record {
      in_limits = record {
        sized = z;
        cores = rescheduled.cores ∙ cores;
        tasks = tasks;
        pcs = λ task h.
            let script : IsScript app (get_or app.tasks task (record { priority = 0; code = [] })) =
            All-get_or (IsScript app) app.tasks task (record { priority = 0; code = [] }) (omega (arith, h, tasks)) limits.tasks in
            omega (arith, ap (λ (t : TaskSnapshot). t.pc) (there task h), script.some);
        entries = All-replicate (λ (task : TaskSnapshot). length task.entries ≡ app.entries) n (fresh_task app.entries) (length-replicate app.entries idle_entry);
        objects = AreShaped-new app;
      };
      lined_up_once = λ task h.
          omega (
            arith,
            rescheduled.lined_up task,
            (times_in_list-all_joined priorities n task).0 (omega (arith, h, tasks)),
            times_on_cores-idle task app.cores,
            ap (λ (t : TaskSnapshot). times_to_run t.phase) (there task h),
          );
      waiting_lists = record {
        ready = rescheduled.order (IsInOrder-all_joined priorities n);
        waiting = λ place by. subst (IsInOrder priorities) (sym (waiting_at-before_scheduling app place)) tt;
      };
      places = λ place task h.
          ap (times_in_list task) (waiting_at-before_scheduling app place) ∙ sym (ap (λ (t : TaskSnapshot). times_waiting_in place t.phase) (there task h));
      calls = λ task h. subst (λ (t : TaskSnapshot). PhaseFitsCall t.phase (instr_at app task t.pc)) (sym (there task h)) tt;
      deadlines = λ task h. subst (λ (t : TaskSnapshot). HasTimeLeft app.tick t.phase) (sym (there task h)) tt;
      entries = λ task h. subst (λ (t : TaskSnapshot). EntriesFitCall t.phase (instr_at app task t.pc) t.entries) (sym (there task h))
          (EntriesFitCall-fresh app.entries (instr_at app task 0));
      holders = λ task h. subst (λ (t : TaskSnapshot). HoldersFitCall before.objects task t.phase (instr_at app task t.pc)) (sym (there task h))
          (HoldersFitCall-fresh app task);
    } in
    subst (λ (t : Snapshot). IsSized t → IsValid app t) (sym e) valid sized

pub IsSettled-boot : (app : Application) (s : Snapshot) → IsApplication app → s ≡ boot_of app → IsSettled (priorities_of app) s
IsSettled-boot app s limits e =
    let priorities = priorities_of app in
    let cores : length (before_scheduling app).cores ≡ app.cores = length-replicate app.cores None in
    let settled_now =
    (scheduling_settles priorities (before_scheduling app) (omega (arith, cores, limits.some_cores)) (IsInOrder-all_joined priorities (length
    app.tasks))).settled_now in
    subst (IsSettled priorities) (sym e) settled_now
