-- What calls keep of what makes a state valid: those that return, those that wait, and those that wake somebody.
use Rattle.rd_state.specs.declared.phase.Place.TheVariants as sort
use Rattle.std.proofs.Common.{◌+◌, ◌<◌, ◌∙◌, ◌≡◌, ◌≤◌, ◌++◌, ◌∷◌, [], Bool, IsSome, List, None, Option, Some, ap, arith, cond, false, length, refl, set, subst, sym}
use Rattle.std.proofs.Common.{true, ℕ}
use Rattle.std.specs.Prelude.{◌&&◌, IfSome, is_some, nat_eq, not, slice_get}
use Rattle.std.proofs.lemmas.Bool.{false≢true}
use Rattle.std.proofs.lemmas.Bool.Decides.{nat_tests}
use Rattle.std.proofs.lemmas.List.{length-set}
use Rattle.std.proofs.lemmas.List.Elements.{All-get_or}
use Rattle.rd_state.specs.declared.phase.Phase.{Phase}
use Rattle.rd_state.specs.declared.phase.Listed.{Listed}
use Rattle.rd_app.specs.Application.{Application, code_of, instr_at, priorities_of}
use Rattle.rd_wait.specs.Joined.{joined}
use Rattle.rd_state.specs.Sizes.{IsSized, IsTaskOrIdle}
use Rattle.rd_state.specs.Snapshot.{Snapshot, TaskSnapshot, core_at, task_at, with_task}
use Rattle.rd_state.specs.Valid.{EntriesFitCall, HoldersFitCall, IsValid, PhaseFitsCall, entry_of_call, is_ahead, is_in_list, is_on, place_of_call, times_to_run}
use Rattle.rd_state.specs.Valid.{is_in_group, times_in_list, times_on_cores, times_waiting_in}
use Rattle.rd_state.specs.Waiting.{HasList, entry_of, listed_at, waiting_at, with_waiting_at}
use Rattle.rd_state.specs.declared.phase.Listed.TheVariants.{Group}
use Rattle.rd_group.specs.declared.wish.Wish.{Wish}
use Rattle.rd_state.proofs.Offered.{IsSizedList-waiting_at, one_if}
use Rattle.rd_state.specs.declared.phase.Place.{Place}
use Rattle.std.proofs.lemmas.List.Sums.{get_or-le-sum_by}
use Rattle.rd_state.specs.declared.phase.Phase.TheVariants.{Again, Ended, Failed, Given, Run, Wait}
use Rattle.rd_state.specs.Phases.{can_run, kept_deadline, waits_at}
use Rattle.rd_kernel.proofs.ConsistentLaws.{HoldersFitCall-objects, IsConsistent, IsConsistent-valid, all_have_time_left, holders_then, task_now}
use Rattle.rd_kernel.proofs.TaskListLaws.{first_waits, member_has, room_for}
use Rattle.std.specs.Option.{option_and_then, option_to_list}
use Rattle.rd_app.specs.declared.instr.Instr.{Instr}
use Rattle.rd_kernel.specs.Waking.{ReadyHasRoom, WhoWaitsLeavesRoom, deadline_of, is_due, may_wait, with_waiter, woken_first}
use Rattle.rd_kernel.proofs.MovingLaws.{EntriesFitCall-free, HoldersFitCall-free, IsConsistent-moves, IsConsistent-task_replaced, IsFree, IsFree-objects}
use Rattle.rd_kernel.proofs.MovingLaws.{ListGoes, ListGoes-appended, ListGoes-joined, ObjectsGo-list}
use Rattle.rd_kernel.proofs.MovingLaws.{ObjectsGo-stay, LineupGoes-off_core, free_in_call, free_in_run, true_if_one, runner_waits_nowhere}
use Rattle.rd_kernel.proofs.MovingLaws.{times_to_run-at_most_one, times_to_run-one, times_waiting_in-at_most_one, waiter_is_idle, waits_idle}
use Rattle.rd_kernel.proofs.MovingLaws.{waits_nowhere}
use Rattle.rd_kernel.specs.declared.waking.Waking.TheVariants.{TriesAgain}
use Rattle.rd_kernel.specs.Outcomes.{Called, IsCalling, blocked, call_fails, call_returns, concluded, passed, returned, stopped}
use Rattle.rd_kernel.specs.Tasks.{advanced, with_idle_core, with_pc, with_phase}
use Rattle.rd_kernel.proofs.WakingLaws.{AfterWaking, AfterWaking-woken_all, IsConsistent-woken_first}
use Rattle.rd_app.specs.declared.instr.Operand.{Operand}
use Rattle.rd_state.specs.declared.phase.Cause.{Cause}
use Rattle.rd_kernel.specs.declared.outcome.Outcome.TheVariants.{Waits}

-- ---- who can run

pub times_on_cores-some : (s : Snapshot) (core task : ℕ) → core < length s.cores → core_at s core ≡ Some task → 1 ≤ times_on_cores task s.cores
times_on_cores-some s core task there e =
    let count : Option ℕ → ℕ = λ r. one_if (is_on task r) in
    let self : nat_eq task task ≡ true = grind (arith, nat_tests) in
    let one : count (core_at s core) ≡ 1 = ap count e ∙ ap one_if self in
    omega (arith, get_or-le-sum_by count s.cores core None there, one)

pub is_task_on_core : (app : Application) (s : Snapshot) (core task : ℕ) → IsValid app s → core < length s.cores → core_at s core ≡ Some task
    → task < length s.tasks
is_task_on_core app s core task valid there e =
    subst (IsTaskOrIdle (length s.tasks)) e (All-get_or (IsTaskOrIdle (length s.tasks)) s.cores core None there valid.in_limits.sized.scheduling.cores)

pub runs_on_core : (app : Application) (s : Snapshot) (core task : ℕ) → IsValid app s → core < length s.cores → core_at s core ≡ Some task
    → 1 ≤ times_to_run (task_at s task).phase
runs_on_core app s core task valid there e =
    omega (arith, valid.lined_up_once task (is_task_on_core app s core task valid there e), times_on_cores-some s core task there e)

-- at an instruction that is no call with a block time a task doesn't try again
pub runs_outside_calls : (phase : Phase) (instr : Instr) → 1 ≤ times_to_run phase → place_of_call instr ≡ None → PhaseFitsCall phase instr → phase ≡ Run
runs_outside_calls Run instr runs none at = refl
runs_outside_calls (Again deadline) instr runs none at = absurd (false≢true (sym (ap is_some none) ∙ at))
runs_outside_calls (Given bits) instr runs none at = absurd (false≢true (sym (ap is_in_group none) ∙ at))
runs_outside_calls (Wait place deadline) instr runs none at = absurd (omega (arith, runs))
runs_outside_calls Ended instr runs none at = absurd (omega (arith, runs))
runs_outside_calls (Failed cause) instr runs none at = absurd (omega (arith, runs))

-- ---- what a task does by itself

-- Its registers or data change.
pub IsConsistent-with_values : (app : Application) (D : ℕ → Phase → Type 0) (s : Snapshot) (task : ℕ) (registers bytes : List ℕ) → task < length s.tasks
    → IsConsistent app D s
    → IsConsistent app D (with_task s task (record (task_at s task) { registers = registers; bytes = bytes }))
IsConsistent-with_values app D s task registers bytes there at =
    let was = at.each task there in
    IsConsistent-task_replaced app D s task (record (task_at s task) { registers = registers; bytes = bytes }) there
    (record { pc = was.pc; entry_count = was.entry_count; call = was.call; deadline = was.deadline; entries = was.entries }) refl (λ place. refl) (at.holders task there) at

-- It goes on at another instruction.
pub IsConsistent-with_pc : (app : Application) (D : ℕ → Phase → Type 0) (s : Snapshot) (task pc : ℕ) → task < length s.tasks → (task_at s task).phase ≡ Run
    → pc < length (code_of app task) → IsConsistent app D s → IsConsistent app D (with_pc s task pc)
IsConsistent-with_pc app D s task pc there runs within at =
    let was = at.each task there in
    let x = task_at s task in
    let free = free_in_run s.objects task (instr_at app task x.pc) x.entries
    (subst (λ phase. EntriesFitCall phase (instr_at app task x.pc) x.entries) runs was.entries)
    (subst (λ phase. HoldersFitCall s.objects task phase (instr_at app task x.pc)) runs (at.holders task there)) in
    IsConsistent-task_replaced app D s task (record (task_at s task) { pc = pc }) there
    (record {
      pc = within;
      entry_count = was.entry_count;
      call = subst (λ phase. PhaseFitsCall phase (instr_at app task pc)) (sym runs) tt;
      deadline = was.deadline;
      entries = subst (λ phase. EntriesFitCall phase (instr_at app task pc) (task_at s task).entries) (sym runs)
          (EntriesFitCall-free s.objects task Run (instr_at app task pc) x.entries refl free);
    }) refl (λ place. refl)
    (subst (λ phase. HoldersFitCall s.objects task phase (instr_at app task pc)) (sym runs)
    (HoldersFitCall-free s.objects task Run (instr_at app task pc) x.entries refl free)) at

-- It is in Run, whichever of the phases that can run it was in.
pub IsConsistent-with_run : (app : Application) (D : ℕ → Phase → Type 0) (s : Snapshot) (task : ℕ) → task < length s.tasks
    → 1 ≤ times_to_run (task_at s task).phase → IsFree s.objects task (task_at s task).entries → D task Run → IsConsistent app D s
    → IsConsistent app D (with_phase s task Run)
IsConsistent-with_run app D s task there runs free asked at =
    let was = at.each task there in
    IsConsistent-task_replaced app D s task (record (task_at s task) { phase = Run }) there
    (record {
      pc = was.pc;
      entry_count = was.entry_count;
      call = tt;
      deadline = asked;
      entries = EntriesFitCall-free s.objects task Run (instr_at app task (task_at s task).pc) (task_at s task).entries refl free;
    }) (sym (times_to_run-one (task_at s task).phase runs))
    (λ place. sym (waits_nowhere place (task_at s task).phase runs))
    (HoldersFitCall-free s.objects task Run (instr_at app task (task_at s task).pc) (task_at s task).entries refl free) at

-- It gets other registers or data, and goes on at an instruction of its script.
pub IsConsistent-values_and_pc : (app : Application) (D : ℕ → Phase → Type 0) (s : Snapshot) (task pc : ℕ) (registers bytes : List ℕ) → task < length s.tasks
    → (task_at s task).phase ≡ Run → pc < length (code_of app task) → IsConsistent app D s
    → IsConsistent app D (with_pc (with_task s task (record (task_at s task) { registers = registers; bytes = bytes })) task pc)
IsConsistent-values_and_pc app D s task pc registers bytes there runs within at =
    let x = record (task_at s task) { registers = registers; bytes = bytes } in
    let p = with_task s task x in
    IsConsistent-with_pc app D p task pc (omega (arith, there, length-set s.tasks task x)) (ap (λ (t : TaskSnapshot). t.phase) (task_now s task x there) ∙ runs)
    within (IsConsistent-with_values app D s task registers bytes there at)

-- One instruction further.
pub IsConsistent-advanced : (app : Application) (D : ℕ → Phase → Type 0) (s : Snapshot) (task : ℕ) (registers bytes : List ℕ) → task < length s.tasks
    → (task_at s task).phase ≡ Run → (task_at s task).pc + 1 < length (code_of app task) → IsConsistent app D s
    → IsConsistent app D (advanced (with_task s task (record (task_at s task) { registers = registers; bytes = bytes })) task)
IsConsistent-advanced app D s task registers bytes there runs within at =
    let x = record (task_at s task) { registers = registers; bytes = bytes } in
    let p = with_task s task x in
    let same : (task_at s task).pc ≡ (task_at p task).pc = ap (λ (t : TaskSnapshot). t.pc) (sym (task_now s task x there)) in
    subst (λ pc. IsConsistent app D (with_pc p task (pc + 1))) same
    (IsConsistent-values_and_pc app D s task ((task_at s task).pc + 1) registers bytes there runs within at)

-- A call returns.
pub IsConsistent-returned : (app : Application) (D : ℕ → Phase → Type 0) (s : Snapshot) (task value : ℕ) → task < length s.tasks
    → 1 ≤ times_to_run (task_at s task).phase → IsFree s.objects task (task_at s task).entries → (task_at s task).pc + 1 < length (code_of app task) → D task Run
    → IsConsistent app D s → IsConsistent app D (returned s task value)
IsConsistent-returned app D s task value there runs free within asked at =
    let x = record (task_at s task) { registers = set (task_at s task).registers 0 value } in
    let one = with_task s task x in
    let there_one : task < length one.tasks = omega (arith, there, length-set s.tasks task x) in
    let runs_still : 1 ≤ times_to_run (task_at one task).phase = subst (λ (t : TaskSnapshot). 1 ≤ times_to_run t.phase) (sym (task_now s task x there)) runs in
    let y = record (task_at one task) { phase = Run } in
    let two = with_task one task y in
    let there_two : task < length two.tasks = omega (arith, there_one, length-set one.tasks task y) in
    IsConsistent-with_pc app D two task ((task_at s task).pc + 1) there_two (ap (λ (t : TaskSnapshot). t.phase) (task_now one task y there_one)) within
    (IsConsistent-with_run app D one task there_one runs_still (subst (λ (t : TaskSnapshot). IsFree s.objects task t.entries) (sym (task_now s task x there)) free) asked
    (IsConsistent-with_values app D s task (set (task_at s task).registers 0 value) (task_at s task).bytes there at))

-- ---- a task that leaves its core

-- It is in a phase in which it can't run and waits nowhere.
pub IsConsistent-stopped : (app : Application) (D : ℕ → Phase → Type 0) (s : Snapshot) (core task : ℕ) (phase : Phase) → task < length s.tasks
    → 1 ≤ times_to_run (task_at s task).phase → core < length s.cores → core_at s core ≡ Some task
    → times_to_run phase ≡ 0 → waits_at phase ≡ None → IsFree s.objects task (task_at s task).entries
    → PhaseFitsCall phase (instr_at app task (task_at s task).pc) → D task phase
    → IsConsistent app D s → IsConsistent app D (stopped s core task phase)
IsConsistent-stopped app D s core task phase there runs has_core e idle nowhere free call asked at =
    let was = at.each task there in
    IsConsistent-moves app D s (stopped s core task phase) task (record (task_at s task) { phase = phase }) there refl
    (record {
      pc = was.pc;
      entry_count = was.entry_count;
      call = call;
      deadline = asked;
      entries = EntriesFitCall-free s.objects task phase (instr_at app task (task_at s task).pc) (task_at s task).entries (ap (option_and_then entry_of) nowhere) free;
    })
    (HoldersFitCall-free s.objects task phase (instr_at app task (task_at s task).pc) (task_at s task).entries (ap (option_and_then entry_of) nowhere) free)
    (LineupGoes-off_core app D s core task phase there runs has_core e idle at)
    (ObjectsGo-stay app D s task phase there
    (λ place. ap (λ o. one_if (is_in_list place (option_and_then listed_at o))) nowhere ∙ sym (waits_nowhere place (task_at s task).phase runs)) at) at

-- It waits in a list, which has it then.
IsConsistent-waiting_in : (app : Application) (D : ℕ → Phase → Type 0) (s : Snapshot) (core task : ℕ) (place : Listed) (deadline : Option ℕ)
    (waiting : List ℕ) (wishes : List Wish) → task < length s.tasks → 1 ≤ times_to_run (task_at s task).phase → core < length s.cores → core_at s core ≡ Some task
    → ListGoes (priorities_of app) s place waiting task (Wait (sort.Listed place) deadline)
    → place_of_call (instr_at app task (task_at s task).pc) ≡ Some (sort.Listed place) → IsFree s.objects task (task_at s task).entries
    → D task (Wait (sort.Listed place) deadline) → IsConsistent app D s
    → IsConsistent app D (with_idle_core (with_phase (with_waiting_at s place waiting wishes) task (Wait (sort.Listed place) deadline)) core)
IsConsistent-waiting_in app D s core task place deadline waiting wishes there runs has_core e goes call free asked at =
    let was = at.each task there in
    let phase = Wait (sort.Listed place) deadline in
    let p = with_idle_core (with_phase (with_waiting_at s place waiting wishes) task phase) core in
    IsConsistent-moves app D s p task (record (task_at s task) { phase = phase }) there refl
    (record {
      pc = was.pc;
      entry_count = was.entry_count;
      call = call;
      deadline = asked;
      entries = EntriesFitCall-free s.objects task phase (instr_at app task (task_at s task).pc) (task_at s task).entries refl free;
    })
    (HoldersFitCall-objects s.objects p.objects task phase (instr_at app task (task_at s task).pc) (holders_then s.objects place waiting wishes)
    (HoldersFitCall-free s.objects task phase (instr_at app task (task_at s task).pc) (task_at s task).entries refl free))
    (LineupGoes-off_core app D s core task phase there runs has_core e refl at)
    (ObjectsGo-list app D s place waiting wishes task phase there goes at) at

-- It waits in one that is in the order of priorities;
pub IsConsistent-waiting : (app : Application) (D : ℕ → Phase → Type 0) (s : Snapshot) (core task : ℕ) (place : Listed) (deadline : Option ℕ)
    → task < length s.tasks → 1 ≤ times_to_run (task_at s task).phase → core < length s.cores → core_at s core ≡ Some task
    → HasList s place → place_of_call (instr_at app task (task_at s task).pc) ≡ Some (sort.Listed place) → IsFree s.objects task (task_at s task).entries
    → D task (Wait (sort.Listed place) deadline) → IsConsistent app D s
    → IsConsistent app D (with_idle_core (with_phase (with_waiter (priorities_of app) s place task) task (Wait (sort.Listed place) deadline)) core)
IsConsistent-waiting app D s core task place deadline there runs has_core e has_place call free asked at =
    IsConsistent-waiting_in app D s core task place deadline (joined (priorities_of app) (waiting_at s place) task) [] there runs has_core e
    (ListGoes-joined app D s place task (Wait (sort.Listed place) deadline) there has_place runs refl at) call free asked at

-- or behind all others at an event group, with a wish.
pub IsConsistent-waiting_in_group : (app : Application) (D : ℕ → Phase → Type 0) (s : Snapshot) (core task group : ℕ) (deadline : Option ℕ) (wishes : List Wish)
    → task < length s.tasks → 1 ≤ times_to_run (task_at s task).phase → core < length s.cores → core_at s core ≡ Some task
    → group < length s.objects.groups → place_of_call (instr_at app task (task_at s task).pc) ≡ Some (sort.Listed (Group group))
    → IsFree s.objects task (task_at s task).entries → D task (Wait (sort.Listed (Group group)) deadline) → IsConsistent app D s
    → IsConsistent app D (with_idle_core (with_phase (with_waiting_at s (Group group) (waiting_at s (Group group) ++ task ∷ []) wishes) task
    (Wait (sort.Listed (Group group)) deadline)) core)
IsConsistent-waiting_in_group app D s core task group deadline wishes there runs has_core e has_group call free asked at =
    let place = Group group in
    IsConsistent-waiting_in app D s core task place deadline (waiting_at s place ++ task ∷ []) wishes there runs has_core e
    (ListGoes-appended app D s group task (Wait (sort.Listed place) deadline) there has_group runs refl at) call free asked at

-- ---- calls

-- A call that can't be done.
pub IsConsistent-blocked : (app : Application) (s : Snapshot) (core task : ℕ) (place : Listed) (wait : Operand) → task < length s.tasks
    → 1 ≤ times_to_run (task_at s task).phase → core < length s.cores → core_at s core ≡ Some task
    → HasList s place → place_of_call (instr_at app task (task_at s task).pc) ≡ Some (sort.Listed place) → IsFree s.objects task (task_at s task).entries
    → (task_at s task).pc + 1 < length (code_of app task)
    → IsConsistent app (all_have_time_left s.tick) s
    → IsConsistent app (all_have_time_left s.tick) (concluded (blocked (priorities_of app) s task place wait) core task)
IsConsistent-blocked app s core task place wait there runs has_core e has_place call free within at =
    let deadline = deadline_of s task wait in
    let priorities = priorities_of app in
    let D = all_have_time_left s.tick in
    let by_time : (b : Bool) → is_ahead s.tick deadline ≡ b
    → IsConsistent app D
    (concluded (cond b (record { state = with_waiter priorities s place task; outcome = Waits (sort.Listed place) deadline }) (call_fails s)) core task) =
    λ b. elim b as (λ b. is_ahead s.tick deadline
    ≡ b → IsConsistent app D
    (concluded (cond b (record { state = with_waiter priorities s place task; outcome = Waits (sort.Listed place) deadline }) (call_fails s)) core task)) [
      | true ↦ λ ahead. IsConsistent-waiting app D s core task place deadline there runs has_core e has_place call free ahead at
      | false ↦ λ past. IsConsistent-returned app D s task 0 there runs free within tt at
    ] in
    by_time (is_ahead s.tick deadline) refl

-- The call is done, others may have been woken, and it returns.
pub IsConsistent-passed : (app : Application) (tick : ℕ) (s p : Snapshot) (task value : ℕ) (tasks : List ℕ) → task < length s.tasks
    → 1 ≤ times_to_run (task_at s task).phase → IsFree s.objects task (task_at s task).entries → (task_at s task).pc + 1 < length (code_of app task)
    → AfterWaking s p tasks
    → IsConsistent app (all_have_time_left tick) p → IsConsistent app (all_have_time_left tick) (returned p task value)
IsConsistent-passed app tick s p task value tasks there runs free within after at =
    let same = after.idle task (runner_waits_nowhere (task_at s task).phase (true_if_one (can_run (task_at s task).phase) runs)) in
    IsConsistent-returned app (all_have_time_left tick) p task value (omega (arith, there, after.same_length))
    (subst (λ (t : TaskSnapshot). 1 ≤ times_to_run t.phase) (sym same) runs)
    (IsFree-objects s.objects p.objects task (task_at p task).entries after.holders (subst (λ (t : TaskSnapshot). IsFree s.objects task t.entries) (sym same) free))
    (subst (λ (t : TaskSnapshot). t.pc + 1 < length (code_of app task)) (sym same) within) tt at

-- Who waits at a place is a task.
pub waits_is_task : (s : Snapshot) (place : Listed) (t : ℕ) → IsSized s → HasList s place → 1 ≤ times_in_list t (waiting_at s place) → t < length s.tasks
waits_is_task s place t sized there some = member_has (λ t. t < length s.tasks) (waiting_at s place) t (IsSizedList-waiting_at s place sized there).0 some

-- What a move knows: the state is valid, and this task runs on this core at an instruction that isn't its last.
pub record RunsInstr (app : Application) (s : Snapshot) (core task : ℕ) (instr : Instr) : Type 0 where
  pub valid : IsValid app s
  pub there : task < length s.tasks
  pub runs : 1 ≤ times_to_run (task_at s task).phase
  pub has_core : core < length s.cores
  pub on_core : core_at s core ≡ Some task
  pub at_instr : instr_at app task (task_at s task).pc ≡ instr
  pub within : (task_at s task).pc + 1 < length (code_of app task)

-- Whoever runs a call that waits through no entry has none that is waiting.
pub free_at : (app : Application) (s : Snapshot) (core task : ℕ) (instr : Instr) → RunsInstr app s core task instr → entry_of_call instr ≡ None
    → IsFree s.objects task (task_at s task).entries
free_at app s core task instr calls none =
    let at = IsConsistent-valid app s calls.valid in
    free_in_call s.objects task (task_at s task).phase instr (task_at s task).entries none
    (subst (λ i. EntriesFitCall (task_at s task).phase i (task_at s task).entries) calls.at_instr (at.each task calls.there).entries)
    (subst (HoldersFitCall s.objects task (task_at s task).phase) calls.at_instr (at.holders task calls.there))

-- A call that was done: what stands then, its caller, and who waits for what it left.
pub record IsCallDone (app : Application) (s p : Snapshot) (task : ℕ) (waiting : Listed) : Type 0 where
  pub consistent : IsConsistent app (all_have_time_left s.tick) p
  pub there : task < length p.tasks
  pub runs : 1 ≤ times_to_run (task_at p task).phase
  pub free : IsFree p.objects task (task_at p task).entries
  pub within : (task_at p task).pc + 1 < length (code_of app task)
  pub waiters : (t : ℕ) → 1 ≤ times_in_list t (waiting_at p waiting) → t < length p.tasks

-- A call that has failed, and its task with it.
pub IsConsistent-failed : (app : Application) (s : Snapshot) (core task : ℕ) (cause : Cause) (instr : Instr) → RunsInstr app s core task instr → entry_of_call instr ≡ None
    → IsConsistent app (all_have_time_left s.tick) (stopped s core task (Failed cause))
IsConsistent-failed app s core task cause instr calls none =
    IsConsistent-stopped app (all_have_time_left s.tick) s core task (Failed cause) calls.there calls.runs calls.has_core calls.on_core refl refl
    (free_at app s core task instr calls none) tt tt
    (IsConsistent-valid app s calls.valid)

-- It wakes the first who waits for what it left.
pub IsConsistent-done : (app : Application) (s p : Snapshot) (core task : ℕ) (waiting : Listed) → IsCallDone app s p task waiting
    → IsConsistent app (all_have_time_left s.tick) (concluded (passed (priorities_of app) p waiting) core task)
IsConsistent-done app s p core task waiting done =
    let first = option_to_list (slice_get (waiting_at p waiting) 0) in
    let D = all_have_time_left s.tick in
    IsConsistent-passed app s.tick p (woken_first (priorities_of app) p waiting) task 1 first done.there done.runs done.free done.within
    (AfterWaking-woken_all (priorities_of app) TriesAgain p first)
    (IsConsistent-woken_first app D p waiting done.waiters (λ t deadline. tt) done.consistent)

-- A call that changes nothing but what its caller is given.
pub IsConsistent-returned_alone : (app : Application) (s : Snapshot) (core task value : ℕ) (instr : Instr) → RunsInstr app s core task instr → entry_of_call instr ≡ None
    → IsConsistent app (all_have_time_left s.tick) (concluded (call_returns s value) core task)
IsConsistent-returned_alone app s core task value instr calls none =
    IsConsistent-returned app (all_have_time_left s.tick) s task value calls.there calls.runs (free_at app s core task instr calls none) calls.within tt
    (IsConsistent-valid app s calls.valid)

-- A call either can't be done, or it ends so.
pub IsConsistent-or_blocked : (app : Application) (s : Snapshot) (core task : ℕ) (instr : Instr) (place : Listed) (wait : Operand) (cannot : Bool)
    (called : Called) → RunsInstr app s core task instr → HasList s place → place_of_call instr ≡ Some (sort.Listed place)
    → IsConsistent app (all_have_time_left s.tick) (concluded called core task)
    → IsConsistent app (all_have_time_left s.tick) (concluded (cond cannot (blocked (priorities_of app) s task place wait) called) core task)
IsConsistent-or_blocked app s core task instr place wait cannot called calls there at_place done =
    elim cannot as (λ b. IsConsistent app (all_have_time_left s.tick) (concluded (cond b (blocked (priorities_of app) s task place wait) called) core task)) [
      | true ↦
          IsConsistent-blocked app s core task place wait calls.there calls.runs calls.has_core calls.on_core there
          (ap place_of_call calls.at_instr ∙ at_place) (free_at app s core task instr calls (ap (option_and_then entry_of) at_place)) calls.within (IsConsistent-valid app s calls.valid)
      | false ↦ done
    ]

-- An instruction leaves the tick.
pub woken_first-tick : (priorities : List ℕ) (s : Snapshot) (place : Listed) → (woken_first priorities s place).tick ≡ s.tick
woken_first-tick priorities s place = (AfterWaking-woken_all priorities TriesAgain s (option_to_list (slice_get (waiting_at s place) 0))).tick

pub blocked-tick : (priorities : List ℕ) (s : Snapshot) (core task : ℕ) (place : Listed) (wait : Operand)
    → (concluded (blocked priorities s task place wait) core task).tick ≡ s.tick
blocked-tick priorities s core task place wait =
    elim (may_wait s task wait) as (λ b.
    (concluded (cond b (record { state = with_waiter priorities s place task; outcome = Waits (sort.Listed place) (deadline_of s task wait) }) (call_fails s)) core task).tick
    ≡ s.tick) [ true ↦ refl | false ↦ refl ]

-- The tick stays, whether the call waits or ends so.
pub or_blocked-tick : (priorities : List ℕ) (s : Snapshot) (core task : ℕ) (place : Listed) (wait : Operand) (cannot : Bool) (called : Called)
    → (concluded called core task).tick ≡ s.tick → (concluded (cond cannot (blocked priorities s task place wait) called) core task).tick ≡ s.tick
or_blocked-tick priorities s core task place wait cannot called same =
    elim cannot as (λ b. (concluded (cond b (blocked priorities s task place wait) called) core task).tick ≡ s.tick) [
      | true ↦ blocked-tick priorities s core task place wait
      | false ↦ same
    ]

-- ---- room

pub room_in_list : (app : Application) (D : ℕ → Phase → Type 0) (s : Snapshot) (task : ℕ) (place : Listed) → IsConsistent app D s → IsSized s
    → task < length s.tasks → 1 ≤ times_to_run (task_at s task).phase → HasList s place → length (waiting_at s place) < length s.tasks
room_in_list app D s task place at sized there runs has_place =
    room_for (waiting_at s place) (length s.tasks) task (IsSizedList-waiting_at s place sized has_place).0
    (λ t h. omega (arith, at.places place t h, times_waiting_in-at_most_one place (task_at s t).phase)) there
    (at.places place task there ∙ waits_nowhere place (task_at s task).phase runs)

-- The ready list has room for a task that can't run.
pub room_in_ready : (app : Application) (D : ℕ → Phase → Type 0) (s : Snapshot) (task : ℕ) → IsConsistent app D s → IsSized s → task < length s.tasks
    → times_to_run (task_at s task).phase ≡ 0 → length s.ready < length s.tasks
room_in_ready app D s task at sized there idle =
    room_for s.ready (length s.tasks) task sized.scheduling.ready (λ t h. omega (arith, at.lined_up_once t h, times_to_run-at_most_one (task_at s t).phase)) there
    (omega (arith, at.lined_up_once task there, idle))

pub due_idle : (tick : ℕ) (phase : Phase) → is_due tick phase ≡ true → times_to_run phase ≡ 0
due_idle tick phase = by_place (waits_at phase) refl
  where
    by_place : (o : Option Place) → waits_at phase ≡ o → (is_some o && not (is_ahead tick (kept_deadline phase))) ≡ true → times_to_run phase ≡ 0
    by_place None e due = absurd (false≢true due)
    by_place (Some place) e due = waiter_is_idle phase place e

-- The ready list has room as long as a task runs.
room_beside_core : (app : Application) (s : Snapshot) (core task : ℕ) → IsValid app s → core < length s.cores → core_at s core ≡ Some task
    → length s.ready < length s.tasks
room_beside_core app s core task valid has_core e =
    let at = IsConsistent-valid app s valid in
    let there = is_task_on_core app s core task valid has_core e in
    let lined_up = at.lined_up_once task there in
    room_for s.ready (length s.tasks) task valid.in_limits.sized.scheduling.ready
    (λ t h. omega (arith, at.lined_up_once t h, times_to_run-at_most_one (task_at s t).phase)) there
    (omega (arith, lined_up, times_to_run-at_most_one (task_at s task).phase, times_on_cores-some s core task has_core e))

-- It has room as long as somebody waits, who isn't ready,
pub room_while_one_waits : (app : Application) (s : Snapshot) (task : ℕ) → IsValid app s → task < length s.tasks
    → IsSome (waits_at (task_at s task).phase) → ReadyHasRoom s
room_while_one_waits app s task valid there waits =
    room_in_ready app (all_have_time_left s.tick) s task (IsConsistent-valid app s valid) valid.in_limits.sized there
    (by_place (waits_at (task_at s task).phase) refl waits)
  where
    by_place : (o : Option Place) → waits_at (task_at s task).phase ≡ o → IsSome o → times_to_run (task_at s task).phase ≡ 0
    by_place None e waits = absurd (false≢true waits)
    by_place (Some place) e waits = waiter_is_idle (task_at s task).phase place e

-- so also as long as somebody stands in a list of those who wait.
pub room_while_a_list_has_one : (app : Application) (s : Snapshot) (list : Listed) → IsValid app s → HasList s list
    → 0 < length (waiting_at s list) → ReadyHasRoom s
room_while_a_list_has_one app s list valid has_list some =
    let first = first_waits (waiting_at s list) some in
    let there = waits_is_task s list first.0 valid.in_limits.sized has_list first.1 in
    let stands : 1 ≤ times_waiting_in list (task_at s first.0).phase = omega (arith, first.1, valid.places list first.0 there) in
    room_in_ready app (all_have_time_left s.tick) s first.0 (IsConsistent-valid app s valid) valid.in_limits.sized there
    (waits_idle list (task_at s first.0).phase stands)

pub who_waits_leaves_room : WhoWaitsLeavesRoom
who_waits_leaves_room app s valid = record {
  anywhere = λ task there waits. room_while_one_waits app s task valid there waits;
  in_lists = λ list has_list some. room_while_a_list_has_one app s list valid has_list some;
}

-- Whoever is on a core can call.
pub calls_from : (app : Application) (s : Snapshot) (core : ℕ) (running : Option ℕ) → IsValid app s → core < length s.cores → running ≡ core_at s core
    → IfSome running (IsCalling app s)
calls_from app s core None valid has_core e = tt
calls_from app s core (Some task) valid has_core e =
    let there = is_task_on_core app s core task valid has_core (sym e) in
    let runs = runs_on_core app s core task valid has_core (sym e) in
    record {
      valid = valid;
      there = there;
      runs = runs;
      room_to_wait = λ place has_place. room_in_list app (all_have_time_left s.tick) s task place (IsConsistent-valid app s valid) valid.in_limits.sized there runs has_place;
      room_to_wake = room_beside_core app s core task valid has_core (sym e);
    }
