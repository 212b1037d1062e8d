-- Tasks that are given bits of an event group, and one that comes to wait there behind all others, in the middle of a call.
use Rattle.rd_state.specs.declared.phase.Place.TheVariants as sort
use Rattle.std.proofs.Common.{◌+◌, ◌<◌, ◌∙◌, ◌∷◌, ◌++◌, ◌≡◌, ◌≤◌, List, None, Option, Some, [], ap, arith, get_or, inl, inr, length, length-append, subst, sym, true, ℕ}
use Rattle.std.proofs.lemmas.Bool.{cases_lt}
use Rattle.std.proofs.lemmas.List.Elements.{All-append}
use Rattle.std.proofs.lemmas.List.Sums.{sum_by-append}
use Rattle.std.specs.Prelude.{All, nat_eq}
use Rattle.std.specs.Option.{option_and_then}
use Rattle.rd_group.specs.declared.wish.Wish.{Wish}
use Rattle.rd_app.specs.Application.{Application, instr_at, priorities_of}
use Rattle.rd_app.specs.declared.instr.Instr.{Instr}
use Rattle.rd_app.specs.declared.instr.Operand.{Operand}
use Rattle.rd_state.specs.declared.phase.Listed.TheVariants.{Group}
use Rattle.rd_state.specs.declared.phase.Phase.{Phase}
use Rattle.rd_state.specs.declared.phase.Place.{Place}
use Rattle.rd_state.specs.Phases.{can_run, tries_again, waits_at, was_given}
use Rattle.rd_state.specs.Snapshot.{Snapshot, TaskSnapshot, task_at}
use Rattle.rd_state.specs.Valid.{FitsCall, IsValid, is_ahead, is_in_group, is_in_list, place_of_call, times_to_run, times_in_list, times_waiting_in}
use Rattle.rd_state.specs.declared.phase.Listed.{Listed}
use Rattle.rd_state.specs.Waiting.{entry_of, listed_at, same_list, waiting_at, with_waiting_at}
use Rattle.rd_state.proofs.Offered.{one_if}
use Rattle.rd_kernel.specs.Outcomes.{concluded}
use Rattle.rd_kernel.specs.Waking.{deadline_of, may_wait, woken_all}
use Rattle.rd_kernel.specs.declared.outcome.Outcome.TheVariants.{Waits}
use Rattle.rd_kernel.specs.declared.waking.Waking.TheVariants.{IsGiven}
use Rattle.rd_kernel.proofs.CallLaws.{IsConsistent-waiting_in_group, RunsInstr}
use Rattle.rd_kernel.proofs.ConsistentLaws.{IsConsistent, all_have_time_left, same_list-is}
use Rattle.rd_kernel.proofs.HoldingLaws.{IsOn}
use Rattle.rd_kernel.proofs.MovingLaws.{IsFree, IsFree-objects, true_if_one, none_is_some, runner_waits_nowhere, times_to_run-at_most_one}
use Rattle.rd_kernel.proofs.MovingLaws.{times_waiting_in-at_most_one, waits_idle}
use Rattle.rd_kernel.proofs.TaskListLaws.{all_once}
use Rattle.rd_kernel.proofs.WakingLaws.{AfterWaking-woken_all, IsConsistent-woken_all, MayWakeIfWaiting}

-- ---- whoever waits at an event group

-- A task that waits somewhere, and stands in that list, waits there.
is_there : (group : ℕ) (place : Place) → 1 ≤ one_if (is_in_list (Group group) (listed_at place)) → place ≡ sort.Listed (Group group)
is_there group (sort.Listed list) some = ap sort.Listed (sym (same_list-is (Group group) list (true_if_one (same_list (Group group) list) some)))
is_there group (sort.Held held) some = absurd (omega (arith, some))
is_there group (sort.Entry index) some = absurd (omega (arith, some))

pub waits_at_group : (app : Application) (D : ℕ → Phase → Type 0) (s : Snapshot) (group task : ℕ) (place : Place) → task < length s.tasks
    → 1 ≤ times_in_list task (waiting_at s (Group group)) → IsConsistent app D s → waits_at (task_at s task).phase ≡ Some place → place ≡ sort.Listed (Group group)
waits_at_group app D s group task place there some at waits =
    is_there group place
    (omega (arith, some, at.places (Group group) task there, ap (λ o. one_if (is_in_list (Group group) (option_and_then listed_at o))) waits))

-- It may be given bits.
pub may_be_given : (app : Application) (s : Snapshot) (tick group bits task : ℕ) → task < length s.tasks → 1 ≤ times_in_list task (waiting_at s (Group group))
    → IsConsistent app (all_have_time_left tick) s → MayWakeIfWaiting app (all_have_time_left tick) (IsGiven bits) s task
may_be_given app s tick group bits task there some at place waits =
    let was = at.each task there in
    let x = task_at s task in
    let instr = instr_at app task x.pc in
    let here = waits_at_group app (all_have_time_left tick) s group task place there some at waits in
    let fits : place_of_call instr ≡ Some place = subst (λ o. FitsCall instr o (tries_again x.phase) (was_given x.phase)) waits was.call in
    let call : place_of_call instr ≡ Some (sort.Listed (Group group)) = fits ∙ ap Some here in
    record {
      call = ap is_in_group call;
      deadline = tt;
      entries = record {
        in_call = λ index waiting. absurd (none_is_some index (sym (ap (option_and_then entry_of) call) ∙ (was.entries.in_call index waiting).0));
        while_waiting = λ index nowhere. absurd (none_is_some index nowhere);
      };
      in_call = λ held is. let both : Some (sort.Listed (Group group)) ≡ Some (sort.Held held) = sym call ∙ is in cc;
    }

-- Some of them are given bits.
pub IsConsistent-given : (app : Application) (s : Snapshot) (tick group bits : ℕ) (tasks : List ℕ)
    → ((t : ℕ) → 1 ≤ times_in_list t tasks → 1 ≤ times_in_list t (waiting_at s (Group group)))
    → ((t : ℕ) → 1 ≤ times_in_list t (waiting_at s (Group group)) → t < length s.tasks) → IsConsistent app (all_have_time_left tick) s
    → IsConsistent app (all_have_time_left tick) (woken_all (priorities_of app) (IsGiven bits) s tasks)
IsConsistent-given app s tick group bits tasks among members at =
    IsConsistent-woken_all app (all_have_time_left tick) (IsGiven bits) s tasks
    (record {
      there = λ t some. members t (among t some);
      each = λ t some. may_be_given app s tick group bits t (members t (among t some)) (among t some) at;
    }) at

-- The ready list has room for all of them, since none of them is ready.
pub room_for_all : (app : Application) (s : Snapshot) (list : Listed) (tasks : List ℕ) → IsValid app s → All (λ t. t < length s.tasks) tasks
    → ((t : ℕ) → times_in_list t tasks ≤ times_in_list t (waiting_at s list)) → length s.ready + length tasks ≤ length s.tasks
room_for_all app s list tasks valid there among =
    omega (
      arith,
      length-append s.ready tasks,
      all_once (s.ready ++ tasks) (length s.tasks) (All-append (λ t. t < length s.tasks) s.ready tasks valid.in_limits.sized.scheduling.ready there) once,
    )
  where
    once : (t : ℕ) → t < length s.tasks → times_in_list t (s.ready ++ tasks) ≤ 1
    once t h =
        let phase = (task_at s t).phase in
        let both = sum_by-append (λ m. one_if (nat_eq t m)) s.ready tasks in
        let lined_up = valid.lined_up_once t h in
        let waits = valid.places list t h in
        elim (cases_lt 0 (times_waiting_in list phase)) [
          | inl some ↦ omega (arith, both, lined_up, waits, among t, waits_idle list phase some, times_waiting_in-at_most_one list phase)
          | inr none ↦ omega (arith, both, lined_up, waits, among t, none, times_to_run-at_most_one phase)
        ]

-- ---- in the middle of a call

-- Some of those who wait at a group are given bits. Whoever calls stays where it is.
pub IsOn-given : (app : Application) (s p : Snapshot) (core task group bits : ℕ) (instr : Instr) (tasks : List ℕ) → RunsInstr app s core task instr
    → ((t : ℕ) → 1 ≤ times_in_list t tasks → 1 ≤ times_in_list t (waiting_at p (Group group)))
    → ((t : ℕ) → 1 ≤ times_in_list t (waiting_at p (Group group)) → t < length p.tasks) → IsOn app s p task
    → IsOn app s (woken_all (priorities_of app) (IsGiven bits) p tasks) task
IsOn-given app s p core task group bits instr tasks calls among members on =
    let q = woken_all (priorities_of app) (IsGiven bits) p tasks in
    let after = AfterWaking-woken_all (priorities_of app) (IsGiven bits) p tasks in
    let runs : 1 ≤ times_to_run (task_at p task).phase = subst (λ phase. 1 ≤ times_to_run phase) (sym on.stays.phase) calls.runs in
    let same : task_at q task ≡ task_at p task =
    after.idle task (runner_waits_nowhere (task_at p task).phase (true_if_one (can_run (task_at p task).phase) runs)) in
    record {
      consistent = IsConsistent-given app p s.tick group bits tasks among members on.consistent;
      stays = record {
        same_length = after.same_length ∙ on.stays.same_length;
        pc = ap (λ (x : TaskSnapshot). x.pc) same ∙ on.stays.pc;
        phase = ap (λ (x : TaskSnapshot). x.phase) same ∙ on.stays.phase;
      };
      free = IsFree-objects p.objects q.objects task (task_at q task).entries after.holders
          (subst (λ (x : TaskSnapshot). IsFree p.objects task x.entries) (sym same) on.free);
      cores = after.cores ∙ on.cores;
      tick = after.tick ∙ on.tick;
      named = λ held t is. omega (arith, on.named held t (sym (after.holders held) ∙ is), after.same_length);
    }

-- The caller comes to wait at a group, where its time lasts.
pub IsOn-waits_in_group : (app : Application) (s p : Snapshot) (core task group : ℕ) (wishes : List Wish) (wait : Operand) (instr : Instr)
    → RunsInstr app s core task instr → place_of_call instr ≡ Some (sort.Listed (Group group)) → group < length p.objects.groups
    → may_wait p task wait ≡ true → IsOn app s p task
    → IsConsistent app (all_have_time_left s.tick) (concluded (record {
      state = with_waiting_at p (Group group) (waiting_at p (Group group) ++ task ∷ []) wishes;
      outcome = Waits (sort.Listed (Group group)) (deadline_of p task wait);
    }) core task)
IsOn-waits_in_group app s p core task group wishes wait instr calls at_place has_group ahead on =
    IsConsistent-waiting_in_group app (all_have_time_left s.tick) p core task group (deadline_of p task wait) wishes
    (omega (arith, calls.there, on.stays.same_length)) (subst (λ phase. 1 ≤ times_to_run phase) (sym on.stays.phase) calls.runs)
    (omega (arith, calls.has_core, ap length on.cores)) (ap (λ (cores : List (Option ℕ)). get_or cores core None) on.cores ∙ calls.on_core) has_group
    (ap (λ pc. place_of_call (instr_at app task pc)) on.stays.pc ∙ ap place_of_call calls.at_instr ∙ at_place) on.free
    (ap (λ tick. is_ahead tick (deadline_of p task wait)) (sym on.tick) ∙ ahead) on.consistent
