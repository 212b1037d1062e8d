-- Waking keeps what makes a state valid.
use Rattle.rd_state.specs.declared.phase.Place.TheVariants as sort
use Rattle.std.proofs.Common.{◌+◌, ◌<◌, ◌∙◌, ◌∷◌, ◌≡◌, ◌≢◌, ◌≤◌, Bool, List, None, Option, Some, [], ap, arith, cond, false, get_or, inl, inr, length}
use Rattle.std.proofs.Common.{refl, set, subst, suc, sym, take, true, zero, ℕ}
use Rattle.std.specs.Prelude.{◌&&◌, IfSome, is_some, nat_eq, nat_lt, not, position, remove, slice_get}
use Rattle.rd_state.specs.declared.phase.Held.{Held}
use Rattle.rd_state.specs.Objects.{ObjectsSnapshot}
use Rattle.std.proofs.lemmas.Bool.{cases_eq, cases_lt}
use Rattle.std.proofs.lemmas.Bool.Decides.{nat_tests}
use Rattle.std.proofs.lemmas.List.{get_or-set_other, get_or-set_same, length-set, length-take-le}
use Rattle.rd_state.specs.declared.phase.Phase.{Phase}
use Rattle.rd_state.specs.declared.phase.Listed.{Listed}
use Rattle.rd_app.specs.Application.{Application, instr_at, max_delay, priorities_of}
use Rattle.rd_wait.specs.Joined.{joined}
use Rattle.rd_state.specs.Snapshot.{Snapshot, TaskSnapshot, no_task, task_at}
use Rattle.rd_state.specs.Valid.{EntriesFitCall, FitsCall, HasTimeLeft, HoldersFitCall, PhaseFitsCall, is_ahead, is_in_list, place_of_call, times_to_run}
use Rattle.rd_state.specs.Valid.{times_in_list}
use Rattle.rd_state.specs.Waiting.{holder_at, holder_in, listed_at, waiting_at, waiting_in, wishes_in}
use Rattle.rd_state.proofs.Offered.{length-joined, one_if, times_in_list-cons}
use Rattle.rd_state.specs.declared.phase.Place.{Place}
use Rattle.std.proofs.lemmas.List.Sums.{fold-append, sum_by-append}
use Rattle.rd_state.specs.declared.phase.Phase.TheVariants.{Again}
use Rattle.rd_state.specs.Phases.{is_first, is_in_call, kept_deadline, tries_again, waits_at, was_given}
use Rattle.rd_kernel.proofs.ConsistentLaws.{IsConsistent, IsConsistent-deadlines, all_have_time_left, holders_then, same_list-self}
use Rattle.rd_kernel.proofs.TaskListLaws.{find_in_list, first_is_listed, other_none, same_one}
use Rattle.std.specs.Option.{option_and_then, option_to_list}
use Rattle.rd_kernel.specs.Waking.{FirstTriesWait, deadline_after, due_below, if_due, is_due, objects_left, objects_without, operand_value, phase_woken, timed_out}
use Rattle.rd_kernel.specs.Waking.{woken, woken_all, woken_at, woken_first}
use Rattle.rd_kernel.proofs.MovingLaws.{IsConsistent-moves, ListGoes-left, ObjectsGo-list, ObjectsGo-stay, LineupGoes-ready, none_is_some}
use Rattle.rd_kernel.proofs.MovingLaws.{waiter_is_idle, waits_nowhere}
use Rattle.rd_kernel.specs.declared.waking.Waking.{Waking}
use Rattle.rd_kernel.specs.declared.waking.Waking.TheVariants.{IsGiven, TriesAgain}

-- ---- waking

-- Whoever is woken can run, and waits nowhere.
woken_runs : (waking : Waking) (phase : Phase) → times_to_run (phase_woken waking phase) ≡ 1
woken_runs TriesAgain phase = refl
woken_runs (IsGiven bits) phase = refl

woken_nowhere : (waking : Waking) (phase : Phase) → waits_at (phase_woken waking phase) ≡ None
woken_nowhere TriesAgain phase = refl
woken_nowhere (IsGiven bits) phase = refl

-- What a waking asks of a task that waits: its phase fits its call then, and has its deadline.
pub record MayWake (app : Application) (D : ℕ → Phase → Type 0) (waking : Waking) (task : ℕ) (x : TaskSnapshot) : Type 0 where
  pub call : PhaseFitsCall (phase_woken waking x.phase) (instr_at app task x.pc)
  pub deadline : D task (phase_woken waking x.phase)
  pub entries : EntriesFitCall (phase_woken waking x.phase) (instr_at app task x.pc) x.entries
  pub in_call : (held : Held) → place_of_call (instr_at app task x.pc) ≡ Some (sort.Held held) → is_in_call (phase_woken waking x.phase) ≡ true

abbrev pub MayWakeIfWaiting : Application → (ℕ → Phase → Type 0) → Waking → Snapshot → ℕ → Type 0
MayWakeIfWaiting app D waking s task = (place : Place) → waits_at (task_at s task).phase ≡ Some place → MayWake app D waking task (task_at s task)

-- of each of these tasks
pub record MayWakeAll (app : Application) (D : ℕ → Phase → Type 0) (waking : Waking) (s : Snapshot) (tasks : List ℕ) : Type 0 where
  pub there : (t : ℕ) → 1 ≤ times_in_list t tasks → t < length s.tasks
  pub each : (t : ℕ) → 1 ≤ times_in_list t tasks → MayWakeIfWaiting app D waking s t

-- Whoever waits may try its call again.
pub may_try_again : (app : Application) (D : ℕ → Phase → Type 0) (s : Snapshot) (task : ℕ) → task < length s.tasks
    → ((deadline : Option ℕ) → D task (Again deadline)) → IsConsistent app D s → MayWakeIfWaiting app D TriesAgain s task
may_try_again app D s task there asked at place waits =
    let was = at.each task there in
    let instr = instr_at app task (task_at s task).pc in
    let call : place_of_call instr ≡ Some place = subst (λ o. FitsCall instr o (tries_again (task_at s task).phase) (was_given (task_at s task).phase)) waits was.call in
    record {
      call = ap is_some call;
      deadline = asked (kept_deadline (task_at s task).phase);
      entries = record {
        in_call = λ index waiting. ((was.entries.in_call index waiting).0, refl);
        while_waiting = λ index nowhere. absurd (none_is_some index nowhere);
      };
      in_call = λ held there. refl;
    }

-- A place that names it goes on doing so, and it is in its call.
named_woken : (app : Application) (D : ℕ → Phase → Type 0) (waking : Waking) (o n : ObjectsSnapshot) (task : ℕ) (x : TaskSnapshot)
    → ((held : Held) → holder_in n held ≡ holder_in o held) → MayWake app D waking task x → HoldersFitCall o task x.phase (instr_at app task x.pc)
    → HoldersFitCall n task (phase_woken waking x.phase) (instr_at app task x.pc)
named_woken app D waking o n task x same may fit = record {
  named = λ held is. let there = (fit.named held (sym (same held) ∙ is)).0 in (there, may.in_call held there);
  names = λ held waits. absurd (none_is_some (sort.Held held) (sym (woken_nowhere waking x.phase) ∙ waits));
}

-- How often a task that waits stands in its list.
waits_there : (app : Application) (D : ℕ → Phase → Type 0) (s : Snapshot) (task : ℕ) (place : Listed) → task < length s.tasks
    → waits_at (task_at s task).phase ≡ Some (sort.Listed place) → IsConsistent app D s → 1 ≤ times_in_list task (waiting_at s place)
waits_there app D s task place there waits at =
    omega (arith, at.places place task there, ap (λ o. one_if (is_in_list place (option_and_then listed_at o))) waits, ap one_if (same_list-self place))

-- what a task is that waited and is woken
abbrev task_woken : Waking → TaskSnapshot → TaskSnapshot
task_woken waking x = record x { phase = phase_woken waking x.phase }

-- A task that stands in no list leaves the objects as they are.
IsConsistent-woken_outside_lists : (app : Application) (D : ℕ → Phase → Type 0) (waking : Waking) (s : Snapshot) (task : ℕ) (place : Place) → task < length s.tasks
    → waits_at (task_at s task).phase ≡ Some place → listed_at place ≡ None → MayWake app D waking task (task_at s task) → IsConsistent app D s
    → IsConsistent app D (record s { ready = joined (priorities_of app) s.ready task; tasks = set s.tasks task (task_woken waking (task_at s task)) })
IsConsistent-woken_outside_lists app D waking s task place there e unlisted wakes at =
    let was = at.each task there in
    let phase = phase_woken waking (task_at s task).phase in
    let x = task_woken waking (task_at s task) in
    let p = record s { ready = joined (priorities_of app) s.ready task; tasks = set s.tasks task x } in
    IsConsistent-moves app D s p task x there refl
    (record { pc = was.pc; entry_count = was.entry_count; call = wakes.call; deadline = wakes.deadline; entries = wakes.entries })
    (named_woken app D waking s.objects s.objects task (task_at s task) (λ held. refl) wakes (at.holders task there))
    (LineupGoes-ready app D s task phase there (waiter_is_idle (task_at s task).phase place e) (woken_runs waking (task_at s task).phase) at)
    (ObjectsGo-stay app D s task phase there
    (λ list. waits_nowhere list phase (omega (arith, woken_runs waking (task_at s task).phase))
    ∙ sym (ap (λ o. one_if (is_in_list list (option_and_then listed_at o))) e ∙ ap (λ o. one_if (is_in_list list o)) unlisted)) at) at

IsConsistent-woken_at : (app : Application) (D : ℕ → Phase → Type 0) (waking : Waking) (s : Snapshot) (task : ℕ) (o : Option Place) → task < length s.tasks
    → waits_at (task_at s task).phase ≡ o → MayWakeIfWaiting app D waking s task → IsConsistent app D s
    → IsConsistent app D (woken_at (priorities_of app) waking s task o)
IsConsistent-woken_at app D waking s task None there e may at = at
IsConsistent-woken_at app D waking s task (Some (sort.Listed place)) there e may at =
    let was = at.each task there in
    let wakes = may (sort.Listed place) e in
    let some = waits_there app D s task place there e at in
    let f = find_in_list (waiting_at s place) task some in
    let ready = joined (priorities_of app) s.ready task in
    let phase = phase_woken waking (task_at s task).phase in
    let x = task_woken waking (task_at s task) in
    let after : Option ℕ → Snapshot = λ index. record s { ready = ready; tasks = set s.tasks task x; objects = objects_without s.objects place index } in
    subst (λ (index : Option ℕ). IsConsistent app D (after index)) (sym f.is_at)
    (IsConsistent-moves app D s (after (Some f.index)) task x there refl
    (record { pc = was.pc; entry_count = was.entry_count; call = wakes.call; deadline = wakes.deadline; entries = wakes.entries })
    (named_woken app D waking s.objects (after (Some f.index)).objects task (task_at s task)
    (holders_then s.objects place (remove (waiting_at s place) f.index) (remove (wishes_in s.objects place) f.index)) wakes (at.holders task there))
    (LineupGoes-ready app D s task phase there (waiter_is_idle (task_at s task).phase (sort.Listed place) e) (woken_runs waking (task_at s task).phase) at)
    (ObjectsGo-list app D s place (remove (waiting_at s place) f.index) (remove (wishes_in s.objects place) f.index) task phase there
    (ListGoes-left app D s place task phase f there e some (omega (arith, woken_runs waking (task_at s task).phase)) at) at) at)
IsConsistent-woken_at app D waking s task (Some (sort.Held held)) there e may at =
    IsConsistent-woken_outside_lists app D waking s task (sort.Held held) there e refl (may (sort.Held held) e) at
IsConsistent-woken_at app D waking s task (Some (sort.Entry index)) there e may at =
    IsConsistent-woken_outside_lists app D waking s task (sort.Entry index) there e refl (may (sort.Entry index) e) at

IsConsistent-woken : (app : Application) (D : ℕ → Phase → Type 0) (waking : Waking) (s : Snapshot) (task : ℕ) → task < length s.tasks
    → MayWakeIfWaiting app D waking s task → IsConsistent app D s → IsConsistent app D (woken (priorities_of app) waking s task)
IsConsistent-woken app D waking s task there = IsConsistent-woken_at app D waking s task (waits_at (task_at s task).phase) there refl

-- What stays when tasks are woken: each other one, and whoever waits nowhere. They wait nowhere then.
pub record AfterWaking (s p : Snapshot) (tasks : List ℕ) : Type 0 where
  pub tick : p.tick ≡ s.tick
  pub cores : p.cores ≡ s.cores
  pub same_length : length p.tasks ≡ length s.tasks
  pub others : (t : ℕ) → times_in_list t tasks ≡ 0 → task_at p t ≡ task_at s t
  pub idle : (t : ℕ) → waits_at (task_at s t).phase ≡ None → task_at p t ≡ task_at s t
  pub woken : (t : ℕ) → 1 ≤ times_in_list t tasks → t < length s.tasks → waits_at (task_at p t).phase ≡ None
  pub holders : (held : Held) → holder_at p held ≡ holder_at s held

-- the one of a list of one
pub only_one : (task t : ℕ) → 1 ≤ times_in_list t (task ∷ []) → t ≡ task
only_one task t some = elim (cases_eq t task) [
  | inl same ↦ same
  | inr differs ↦ absurd (omega (arith, some, times_in_list-cons t task [], other_none t task differs))
]

-- Who leaves a place is named by a buffer's as before.
holders_left : (o : ObjectsSnapshot) (place : Place) (task : ℕ) (held : Held) → holder_in (objects_left o place task) held ≡ holder_in o held
holders_left o (sort.Listed list) task held = without (position (λ member. nat_eq member task) (waiting_in o list))
  where
    without : (index : Option ℕ) → holder_in (objects_without o list index) held ≡ holder_in o held
    without None = refl
    without (Some index) = holders_then o list (remove (waiting_in o list) index) (remove (wishes_in o list) index) held
holders_left o (sort.Held place) task held = refl
holders_left o (sort.Entry index) task held = refl

AfterWaking-woken_at : (priorities : List ℕ) (waking : Waking) (s : Snapshot) (task : ℕ) (o : Option Place) → waits_at (task_at s task).phase ≡ o
    → AfterWaking s (woken_at priorities waking s task o) (task ∷ [])
AfterWaking-woken_at priorities waking s task None e = record {
  tick = refl;
  cores = refl;
  same_length = refl;
  others = λ t none. refl;
  idle = λ t nowhere. refl;
  woken = λ t some there. ap (λ n. waits_at (task_at s n).phase) (only_one task t some) ∙ e;
  holders = λ held. refl;
}
AfterWaking-woken_at priorities waking s task (Some place) e =
    let x = task_woken waking (task_at s task) in
    let other : (t : ℕ) → t ≢ task → get_or (set s.tasks task x) t no_task ≡ task_at s t = λ t differs. get_or-set_other s.tasks task t x no_task differs in
    record {
      tick = refl;
      cores = refl;
      same_length = length-set s.tasks task x;
      others = λ t none. elim (cases_eq t task) [
        | inl same ↦ absurd (omega (arith, none, times_in_list-cons t task [], ap (λ n. one_if (nat_eq n task)) same, same_one task))
        | inr differs ↦ other t differs
      ];
      idle = λ t nowhere. elim (cases_eq t task) [
        | inl same ↦ absurd (none_is_some place (sym nowhere ∙ ap (λ n. waits_at (task_at s n).phase) same ∙ e))
        | inr differs ↦ other t differs
      ];
      woken = λ t some there.
          subst (λ n. n < length s.tasks → waits_at (get_or (set s.tasks task x) n no_task).phase ≡ None) (sym (only_one task t some))
          (λ here. ap (λ (y : TaskSnapshot). waits_at y.phase) (get_or-set_same s.tasks task x no_task here) ∙ woken_nowhere waking (task_at s task).phase) there;
      holders = holders_left s.objects place task;
    }

AfterWaking-woken : (priorities : List ℕ) (waking : Waking) (s : Snapshot) (task : ℕ) → AfterWaking s (woken priorities waking s task) (task ∷ [])
AfterWaking-woken priorities waking s task = AfterWaking-woken_at priorities waking s task (waits_at (task_at s task).phase) refl

-- Whoever may be woken still may, once another was.
may_wake_later : (app : Application) (D : ℕ → Phase → Type 0) (waking : Waking) (s p : Snapshot) (task t : ℕ) → AfterWaking s p (task ∷ [])
    → task < length s.tasks → MayWakeIfWaiting app D waking s t → MayWakeIfWaiting app D waking p t
may_wake_later app D waking s p task t after there may = elim (cases_eq t task) [
  | inl same ↦ λ place waits. absurd (none_is_some place
      (sym (after.woken task (omega (arith, times_in_list-cons task task [], same_one task)) there) ∙ ap (λ n. waits_at (task_at p n).phase) (sym same) ∙ waits))
  | inr differs ↦
      subst (λ (x : TaskSnapshot). (place : Place) → waits_at x.phase ≡ Some place → MayWake app D waking t x)
      (sym (after.others t (omega (arith, times_in_list-cons t task [], other_none t task differs)))) may
]

MayWakeAll-rest : (app : Application) (D : ℕ → Phase → Type 0) (waking : Waking) (s : Snapshot) (first : ℕ) (rest : List ℕ)
    → MayWakeAll app D waking s (first ∷ rest) → MayWakeAll app D waking (woken (priorities_of app) waking s first) rest
MayWakeAll-rest app D waking s first rest may =
    let in_all : (t : ℕ) → 1 ≤ times_in_list t rest → 1 ≤ times_in_list t (first ∷ rest) = λ t some. omega (arith, some, times_in_list-cons t first rest) in
    let here : 1 ≤ times_in_list first (first ∷ rest) = omega (arith, times_in_list-cons first first rest, same_one first) in
    let after = AfterWaking-woken (priorities_of app) waking s first in
    record {
      there = λ t some. omega (arith, may.there t (in_all t some), after.same_length);
      each = λ t some. may_wake_later app D waking s (woken (priorities_of app) waking s first) first t after (may.there first here) (may.each t (in_all t some));
    }

-- The law of all waking.
pub IsConsistent-woken_all : (app : Application) (D : ℕ → Phase → Type 0) (waking : Waking) (s : Snapshot) (tasks : List ℕ) → MayWakeAll app D waking s tasks
    → IsConsistent app D s → IsConsistent app D (woken_all (priorities_of app) waking s tasks)
IsConsistent-woken_all app D waking s [] may at = at
IsConsistent-woken_all app D waking s (first ∷ rest) may at =
    let here : 1 ≤ times_in_list first (first ∷ rest) = omega (arith, times_in_list-cons first first rest, same_one first) in
    IsConsistent-woken_all app D waking (woken (priorities_of app) waking s first) rest (MayWakeAll-rest app D waking s first rest may)
    (IsConsistent-woken app D waking s first (may.there first here) (may.each first here) at)

pub AfterWaking-woken_all : (priorities : List ℕ) (waking : Waking) (s : Snapshot) (tasks : List ℕ) → AfterWaking s (woken_all priorities waking s tasks) tasks
AfterWaking-woken_all priorities waking s [] = record {
  tick = refl;
  cores = refl;
  same_length = refl;
  others = λ t none. refl;
  idle = λ t nowhere. refl;
  woken = λ t some there. absurd (omega (arith, some));
  holders = λ held. refl;
}
AfterWaking-woken_all priorities waking s (first ∷ rest) =
    let p = woken priorities waking s first in
    let one = AfterWaking-woken priorities waking s first in
    let all = AfterWaking-woken_all priorities waking p rest in
    let in_one : (t : ℕ) → times_in_list t (first ∷ []) ≡ one_if (nat_eq t first) + 0 = λ t. times_in_list-cons t first [] in
    record {
      tick = all.tick ∙ one.tick;
      cores = all.cores ∙ one.cores;
      same_length = all.same_length ∙ one.same_length;
      others = λ t none. let counts = times_in_list-cons t first rest in
          all.others t (omega (arith, none, counts)) ∙ one.others t (omega (arith, none, counts, in_one t));
      idle = λ t nowhere. let same = one.idle t nowhere in
          all.idle t (ap (λ (x : TaskSnapshot). waits_at x.phase) same ∙ nowhere) ∙ same;
      woken = λ t some there. elim (cases_lt 0 (times_in_list t rest)) [
        | inl later ↦ all.woken t later (omega (arith, there, one.same_length))
        | inr none ↦
            let nowhere = one.woken t (omega (arith, some, none, times_in_list-cons t first rest, in_one t)) there in
            ap (λ (x : TaskSnapshot). waits_at x.phase) (all.idle t nowhere) ∙ nowhere
      ];
      holders = λ held. all.holders held ∙ one.holders held;
    }

-- Each that is woken takes a place in the ready list at the most.
ready_after_one : (priorities : List ℕ) (waking : Waking) (s : Snapshot) (task : ℕ) → length (woken priorities waking s task).ready ≤ length s.ready + 1
ready_after_one priorities waking s task = by_place (waits_at (task_at s task).phase)
  where
    by_place : (o : Option Place) → length (woken_at priorities waking s task o).ready ≤ length s.ready + 1
    by_place None = omega arith
    by_place (Some place) = omega (arith, length-joined priorities s.ready task)

ready_after : (priorities : List ℕ) (waking : Waking) (s : Snapshot) (tasks : List ℕ)
    → length (woken_all priorities waking s tasks).ready ≤ length s.ready + length tasks
ready_after priorities waking s [] = omega arith
ready_after priorities waking s (first ∷ rest) =
    omega (arith, ready_after priorities waking (woken priorities waking s first) rest, ready_after_one priorities waking s first)

-- So where there is room for all of them there is room for the next.
pub room_for_next : (priorities : List ℕ) (waking : Waking) (s p : Snapshot) (tasks : List ℕ) (index : ℕ) → length s.ready + length tasks ≤ length s.tasks
    → index < length tasks → p ≡ woken_all priorities waking s (take index tasks) → length p.ready < length p.tasks
room_for_next priorities waking s p tasks index room next is =
    let woken_now = take index tasks in
    let count : length woken_now ≡ index = length-take-le index tasks (omega (arith, next)) in
    subst (λ (q : Snapshot). length q.ready < length q.tasks) (sym is)
    (omega (arith, ready_after priorities waking s woken_now, count, room, next, (AfterWaking-woken_all priorities waking s woken_now).same_length))

-- The first at a place tries its call again, if anyone waits there.
pub MayWakeAll-first : (app : Application) (D : ℕ → Phase → Type 0) (s : Snapshot) (place : Listed)
    → ((t : ℕ) → 1 ≤ times_in_list t (waiting_at s place) → t < length s.tasks) → ((t : ℕ) (deadline : Option ℕ) → D t (Again deadline)) → IsConsistent app D s
    → MayWakeAll app D TriesAgain s (option_to_list (slice_get (waiting_at s place) 0))
MayWakeAll-first app D s place members asked at =
    record {
      there = λ t some. members t (first_is_listed (waiting_at s place) t some);
      each = λ t some. may_try_again app D s t (members t (first_is_listed (waiting_at s place) t some)) (asked t) at;
    }

-- The first who waits in a list is woken, if anybody does.
pub IsConsistent-woken_first : (app : Application) (D : ℕ → Phase → Type 0) (s : Snapshot) (place : Listed)
    → ((t : ℕ) → 1 ≤ times_in_list t (waiting_at s place) → t < length s.tasks) → ((t : ℕ) (deadline : Option ℕ) → D t (Again deadline)) → IsConsistent app D s
    → IsConsistent app D (woken_first (priorities_of app) s place)
IsConsistent-woken_first app D s place members asked at =
    IsConsistent-woken_all app D TriesAgain s (option_to_list (slice_get (waiting_at s place) 0)) (MayWakeAll-first app D s place members asked at) at

-- ---- those whose time is up

-- A task that isn't due waits for a deadline ahead.
not_due : (tick : ℕ) (phase : Phase) → is_due tick phase ≡ false → HasTimeLeft tick phase
not_due tick phase = by_place (waits_at phase)
  where
    not_false : (b : Bool) → not b ≡ false → b ≡ true
    not_false true e = refl
    not_false false e = cc

    by_place : (o : Option Place) → (is_some o && not (is_ahead tick (kept_deadline phase))) ≡ false
        → IfSome o (λ place. is_ahead tick (kept_deadline phase) ≡ true)
    by_place None e = tt
    by_place (Some place) e = not_false (is_ahead tick (kept_deadline phase)) e

-- Nothing is asked of deadlines, as in the middle of a tick.
abbrev pub any_deadline : ℕ → Phase → Type 0
any_deadline task phase = Unit {0}

none_either_way : (b : Bool) (n : ℕ) → n ≡ 0 → cond b n 0 ≡ 0
none_either_way true n e = e
none_either_way false n e = refl

-- how often a task is among those whose time is up
times_if_due : (s : Snapshot) (n t : ℕ) → times_in_list t (if_due s n) ≡ cond (is_due s.tick (task_at s n).phase) (one_if (nat_eq t n)) 0
times_if_due s n t = elim (is_due s.tick (task_at s n).phase) as (λ b. times_in_list t (cond b (n ∷ []) []) ≡ cond b (one_if (nat_eq t n)) 0) [
  | true ↦ omega (arith, times_in_list-cons t n [])
  | false ↦ refl
]

times_due : (s : Snapshot) (n t : ℕ) → times_in_list t (due_below s (suc n)) ≡ times_in_list t (due_below s n) + times_in_list t (if_due s n)
times_due s n t = sum_by-append (λ m. one_if (nat_eq t m)) (due_below s n) (if_due s n)

-- none from the nth on
not_past : (s : Snapshot) (n t : ℕ) → n ≤ t → times_in_list t (due_below s n) ≡ 0
not_past s zero t past = refl
not_past s (suc n) t past =
    let here : times_in_list t (if_due s n) ≡ 0 = times_if_due s n t ∙ none_either_way (is_due s.tick (task_at s n).phase) (one_if (nat_eq t n))
    (other_none t n (λ e. omega (arith, past, e))) in
    omega (arith, times_due s n t, not_past s n t (omega (arith, past)), here)

-- below it, whose time is up and no other
pub due_is_listed : (s : Snapshot) (n t : ℕ) → t < n → times_in_list t (due_below s n) ≡ one_if (is_due s.tick (task_at s t).phase)
due_is_listed s zero t below = absurd (omega (arith, below))
due_is_listed s (suc n) t below = elim (cases_eq t n) [
  | inl same ↦
      let here : times_in_list t (if_due s n) ≡ one_if (is_due s.tick (task_at s t).phase) =
      times_if_due s n t ∙ ap (λ k. cond (is_due s.tick (task_at s n).phase) k 0) (ap (λ m. one_if (nat_eq m n)) same ∙ same_one n)
      ∙ ap (λ m. one_if (is_due s.tick (task_at s m).phase)) (sym same) in
      omega (arith, times_due s n t, not_past s n t (omega (arith, same)), here)
  | inr differs ↦
      let here : times_in_list t (if_due s n) ≡ 0 = times_if_due s n t ∙ none_either_way (is_due s.tick (task_at s n).phase) (one_if (nat_eq t n)) (other_none t n differs) in
      omega (arith, times_due s n t, due_is_listed s n t (omega (arith, below, differs)), here)
]

due_is_below : (s : Snapshot) (n t : ℕ) → 1 ≤ times_in_list t (due_below s n) → t < n
due_is_below s n t some = elim (cases_lt t n) [
  | inl below ↦ below
  | inr past ↦ absurd (omega (arith, some, not_past s n t past))
]

-- So many tasks were looked at.
pub record TimedOut (app : Application) (n : ℕ) (s p : Snapshot) : Type 0 where
  pub consistent : IsConsistent app any_deadline p
  pub after : AfterWaking s p (due_below s n)

pub TimedOut-so_far : (app : Application) (n : ℕ) (s : Snapshot) → n ≤ length s.tasks → IsConsistent app any_deadline s
    → TimedOut app n s (timed_out (priorities_of app) n s)
TimedOut-so_far app n s few at =
    let there : (t : ℕ) → 1 ≤ times_in_list t (due_below s n) → t < length s.tasks = λ t some. omega (arith, few, due_is_below s n t some) in
    record {
      consistent = IsConsistent-woken_all app any_deadline TriesAgain s (due_below s n)
          (record { there = there; each = λ t some. may_try_again app any_deadline s t (there t some) (λ deadline. tt) at }) at;
      after = AfterWaking-woken_all (priorities_of app) TriesAgain s (due_below s n);
    }

-- One task more: it is the next of those whose time is up, if its is.
pub timed_out-next : (priorities : List ℕ) (n : ℕ) (s : Snapshot)
    → timed_out priorities (suc n) s ≡ woken_all priorities TriesAgain (timed_out priorities n s) (if_due (timed_out priorities n s) n)
timed_out-next priorities n s =
    let p = timed_out priorities n s in
    let after = AfterWaking-woken_all priorities TriesAgain s (due_below s n) in
    let same : task_at p n ≡ task_at s n = after.others n (not_past s n n (omega arith)) in
    let due : if_due s n ≡ if_due p n =
    ap (λ tick. cond (is_due tick (task_at s n).phase) (n ∷ []) []) (sym after.tick)
    ∙ ap (λ (x : TaskSnapshot). cond (is_due p.tick x.phase) (n ∷ []) []) (sym same) in
    fold-append (woken priorities TriesAgain) s (due_below s n) (if_due s n) ∙ ap (woken_all priorities TriesAgain p) due

-- When all were looked at, the deadlines of all that still wait are ahead.
pub all_looked_at : (app : Application) (s p : Snapshot) → length s.tasks ≡ length app.tasks → TimedOut app (length s.tasks) s p
    → IsConsistent app (all_have_time_left s.tick) p
all_looked_at app s p tasks done =
    IsConsistent-deadlines app any_deadline (all_have_time_left s.tick) p
    (λ t h any. time_left t (omega (arith, h, done.after.same_length)) (is_due s.tick (task_at s t).phase) refl) done.consistent
  where
    time_left : (t : ℕ) → t < length s.tasks → (b : Bool) → is_due s.tick (task_at s t).phase ≡ b → HasTimeLeft s.tick (task_at p t).phase
    time_left t there true due =
        let listed : 1 ≤ times_in_list t (due_below s (length s.tasks)) = omega (arith, due_is_listed s (length s.tasks) t there, ap one_if due) in
        subst (λ (o : Option Place). IfSome o (λ place. is_ahead s.tick (kept_deadline (task_at p t).phase) ≡ true)) (sym (done.after.woken t listed there)) tt
    time_left t there false waits =
        let unlisted : times_in_list t (due_below s (length s.tasks)) ≡ 0 = omega (arith, due_is_listed s (length s.tasks) t there, ap one_if waits) in
        subst (λ (x : TaskSnapshot). HasTimeLeft s.tick x.phase) (sym (done.after.others t unlisted)) (not_due s.tick (task_at s t).phase waits)

-- ---- block times

pub first_tries_wait : FirstTriesWait
first_tries_wait s task wait first =
    let time = operand_value s task wait in
    let phase = (task_at s task).phase in
    let new : is_ahead s.tick (cond (is_first phase) (deadline_after s.tick time) (kept_deadline phase)) ≡ is_ahead s.tick (deadline_after s.tick time) =
    ap (λ b. is_ahead s.tick (cond b (deadline_after s.tick time) (kept_deadline phase))) first in
    new ∙ elim (cases_eq time max_delay) [
      | inl e ↦ let same : nat_eq time max_delay ≡ true = grind (arith, nat_tests, e) in
          let some : nat_lt 0 time ≡ true = grind (arith, nat_tests, e) in
          ap (λ b. is_ahead s.tick (cond b None (Some (s.tick + time)))) same ∙ sym some
      | inr ne ↦ let differs : nat_eq time max_delay ≡ false = grind (arith, nat_tests, ne) in
          ap (λ b. is_ahead s.tick (cond b None (Some (s.tick + time)))) differs ∙ grind (arith, nat_tests)
    ]
