-- A task that goes elsewhere keeps what makes a state valid.
use Rattle.rd_state.specs.declared.phase.Place.TheVariants as sort
use Rattle.std.proofs.Common.{◌+◌, ◌<◌, ◌∙◌, ◌≡◌, ◌≢◌, ◌≤◌, Bool, List, None, Option, Some, ap, arith, cond, false, length, refl, set, subst, sym}
use Rattle.std.proofs.Common.{true, ℕ}
use Rattle.std.specs.Prelude.{nat_eq, remove}
use Rattle.std.proofs.lemmas.Bool.{false≢true}
use Rattle.std.proofs.lemmas.List.{length-set}
use Rattle.rd_state.specs.declared.phase.Phase.{Phase}
use Rattle.rd_state.specs.declared.phase.Listed.{Listed}
use Rattle.rd_app.specs.Application.{Application, instr_at, priorities_of}
use Rattle.rd_state.specs.declared.phase.Held.{Held}
use Rattle.rd_wait.specs.Joined.{IsInOrder, joined}
use Rattle.rd_state.specs.Snapshot.{Snapshot, TaskSnapshot, core_at, task_at, with_task}
use Rattle.rd_state.specs.Objects.{ObjectsSnapshot, shapes_in}
use Rattle.rd_state.specs.Valid.{EntriesFitCall, HoldersFitCall, entry_of_call, is_in_list, is_on, times_to_run, state_of_entry, times_in_list, times_on_cores}
use Rattle.rd_state.specs.Valid.{times_waiting_in, waits_in}
use Rattle.rd_state.specs.Waiting.{HasHeld, HasList, entry_of, holder_at, holder_in, is_by_priority, listed_at, objects_naming, objects_then, same_list, waiting_at}
use Rattle.rd_state.specs.Waiting.{waiting_in}
use Rattle.rd_state.specs.declared.phase.Listed.TheVariants.{Group}
use Rattle.rd_group.specs.declared.wish.Wish.{Wish}
use Rattle.std.proofs.Common.{◌++◌, ◌∷◌, []}
use Rattle.rd_state.proofs.Offered.{one_if, times_in_list-cons, times_in_list-joined, times_on_cores-set}
use Rattle.rd_state.specs.declared.phase.Place.{Place}
use Rattle.std.proofs.lemmas.List.Sums.{sum_by-append, sum_by-remove}
use Rattle.rd_state.specs.declared.phase.Phase.TheVariants.{Again, Ended, Failed, Given, Run, Wait}
use Rattle.rd_wait.proofs.Offered.{IsInOrder-joined, IsInOrder-remove}
use Rattle.rd_state.specs.Phases.{can_run, waits_at}
use Rattle.rd_kernel.proofs.ConsistentLaws.{IsConsistent, IsConsistentTask, place_there, same_list-is, same_list-self, shapes_then, task_or_other}
use Rattle.rd_kernel.proofs.ConsistentLaws.{holders_then, waiting_then}
use Rattle.rd_kernel.proofs.HolderLaws.{HolderGoes-naming, by_held}
use Rattle.rd_kernel.proofs.TaskListLaws.{FoundInList, other_none, same_one}
use Rattle.std.specs.Option.{option_and_then}
use Rattle.rd_app.specs.declared.instr.Instr.{Instr}
use Rattle.rd_notify.specs.declared.entries.Entry.{Entry}
use Rattle.rd_notify.specs.declared.entries.EntryState.TheVariants.{Waiting}

-- ---- what a phase says of whether its task is lined up, and of where it waits

pub none_is_some : {X : Type 0} (x : X) → None ≡ Some x → ⊥
none_is_some x e = cc

-- A task that can run waits nowhere.
pub runner_waits_nowhere : (phase : Phase) → can_run phase ≡ true → waits_at phase ≡ None
runner_waits_nowhere Run e = refl
runner_waits_nowhere (Again deadline) e = refl
runner_waits_nowhere (Given bits) e = refl
runner_waits_nowhere (Wait place deadline) e = absurd (false≢true e)
runner_waits_nowhere Ended e = refl
runner_waits_nowhere (Failed cause) e = refl

-- What counts as one is true: so a task that is lined up can run.
pub true_if_one : (runs : Bool) → 1 ≤ cond runs 1 0 → runs ≡ true
true_if_one true h = refl
true_if_one false h = absurd (omega (arith, h))

pub times_to_run-one : (phase : Phase) → 1 ≤ times_to_run phase → times_to_run phase ≡ 1
times_to_run-one phase h = ap one_if (true_if_one (can_run phase) h)

pub times_to_run-at_most_one : (phase : Phase) → times_to_run phase ≤ 1
times_to_run-at_most_one phase = elim (can_run phase) as (λ b. cond b 1 0 ≤ 1) [ true ↦ omega arith | false ↦ omega arith ]

pub waits_nowhere : (place : Listed) (phase : Phase) → 1 ≤ times_to_run phase → times_waiting_in place phase ≡ 0
waits_nowhere place phase h = ap (λ o. one_if (is_in_list place (option_and_then listed_at o))) (runner_waits_nowhere phase (true_if_one (can_run phase) h))

-- One that waits isn't lined up.
pub waiter_is_idle : (phase : Phase) (place : Place) → waits_at phase ≡ Some place → times_to_run phase ≡ 0
waiter_is_idle phase place waits = by_run (can_run phase) refl
  where
    by_run : (b : Bool) → can_run phase ≡ b → one_if b ≡ 0
    by_run true e = absurd (none_is_some place (sym (runner_waits_nowhere phase e) ∙ waits))
    by_run false e = refl

pub times_waiting_in-at_most_one : (place : Listed) (phase : Phase) → times_waiting_in place phase ≤ 1
times_waiting_in-at_most_one place phase = elim (is_in_list place (waits_in phase)) as (λ b. cond b 1 0 ≤ 1) [ true ↦ omega arith | false ↦ omega arith ]

-- Who waits somewhere can't run, and so who is due.
pub waits_idle : (place : Listed) (phase : Phase) → 1 ≤ times_waiting_in place phase → times_to_run phase ≡ 0
waits_idle place phase = by_place (waits_at phase) refl
  where
    by_place : (o : Option Place) → waits_at phase ≡ o → 1 ≤ cond (is_in_list place (option_and_then listed_at o)) 1 0 → times_to_run phase ≡ 0
    by_place None e h = absurd (omega (arith, h))
    by_place (Some other) e h = waiter_is_idle phase other e

-- ---- what a phase says of its task's entries

-- None of its entries is waiting, and no place names it.
pub record IsFree (o : ObjectsSnapshot) (task : ℕ) (entries : List Entry) : Type 0 where
  pub idle : (index : ℕ) → state_of_entry entries index ≢ Waiting
  pub unnamed : (held : Held) → holder_in o held ≢ Some task

-- So it is of a task that isn't in a call, and of one whose call waits through no entry.
pub free_in_run : (o : ObjectsSnapshot) (task : ℕ) (instr : Instr) (entries : List Entry) → EntriesFitCall Run instr entries → HoldersFitCall o task Run instr
    → IsFree o task entries
free_in_run o task instr entries fit places = record {
  idle = λ index waiting. false≢true (fit.in_call index waiting).1;
  unnamed = λ held is. false≢true (places.named held is).1;
}

pub free_in_call : (o : ObjectsSnapshot) (task : ℕ) (phase : Phase) (instr : Instr) (entries : List Entry) → entry_of_call instr ≡ None
    → EntriesFitCall phase instr entries → HoldersFitCall o task phase instr → IsFree o task entries
free_in_call o task phase instr entries none fit places = record {
  idle = λ index waiting. none_is_some index (sym none ∙ (fit.in_call index waiting).0);
  unnamed = λ held is. none_is_some 0 (sym none ∙ ap (option_and_then entry_of) (places.named held is).0);
}

-- It stays so where other objects are named by the same.
pub IsFree-objects : (o n : ObjectsSnapshot) (task : ℕ) (entries : List Entry) → ((held : Held) → holder_in n held ≡ holder_in o held)
    → IsFree o task entries → IsFree n task entries
IsFree-objects o n task entries same free = record {
  idle = free.idle;
  unnamed = λ held is. free.unnamed held (sym (same held) ∙ is);
}

-- Where no entry is waiting, and no place names it, that fits any call and any phase that waits through no entry.
pub EntriesFitCall-free : (o : ObjectsSnapshot) (task : ℕ) (phase : Phase) (instr : Instr) (entries : List Entry)
    → option_and_then entry_of (waits_at phase) ≡ None → IsFree o task entries → EntriesFitCall phase instr entries
EntriesFitCall-free o task phase instr entries none free = record {
  in_call = λ index waiting. absurd (free.idle index waiting);
  while_waiting = λ index waits. absurd (none_is_some index (sym none ∙ waits));
}

pub HoldersFitCall-free : (o : ObjectsSnapshot) (task : ℕ) (phase : Phase) (instr : Instr) (entries : List Entry)
    → option_and_then entry_of (waits_at phase) ≡ None → IsFree o task entries → HoldersFitCall o task phase instr
HoldersFitCall-free o task phase instr entries none free = record {
  named = λ held is. absurd (free.unnamed held is);
  names = λ held waits. absurd (none_is_some 0 (sym none ∙ ap (option_and_then entry_of) waits));
}

-- ---- a task that goes elsewhere, in two halves that know nothing of each other

-- The line-up: who is ready and on cores, once its phase is that one.
pub record LineupGoes (priorities was_ready ready : List ℕ) (was_cores cores : List (Option ℕ)) (task : ℕ) (phase : Phase) : Type 0 where
  pub same_cores : length cores ≡ length was_cores
  pub lined_up : times_in_list task ready + times_on_cores task cores ≡ times_to_run phase
  pub others : (t : ℕ) → t ≢ task → times_in_list t ready + times_on_cores t cores ≡ times_in_list t was_ready + times_on_cores t was_cores
  pub order : IsInOrder priorities ready

-- The objects: who waits where, once its phase is that one.
pub record ObjectsGo (priorities : List ℕ) (o n : ObjectsSnapshot) (task : ℕ) (phase : Phase) : Type 0 where
  pub shapes : shapes_in n ≡ shapes_in o
  pub waits : (place : Listed) → times_in_list task (waiting_in n place) ≡ times_waiting_in place phase
  pub others : (place : Listed) (t : ℕ) → t ≢ task → times_in_list t (waiting_in n place) ≡ times_in_list t (waiting_in o place)
  pub order : (place : Listed) → is_by_priority place ≡ true → IsInOrder priorities (waiting_in n place)
  pub named_still : (held : Held) (t : ℕ) → t ≢ task → holder_in o held ≡ Some t → holder_in n held ≡ Some t
  pub named_before : (held : Held) (t : ℕ) → t ≢ task → holder_in n held ≡ Some t → holder_in o held ≡ Some t

-- Whoever doesn't go is named where it was.
HoldersFitCall-others : (priorities : List ℕ) (o n : ObjectsSnapshot) (task t : ℕ) (to phase : Phase) (instr : Instr) → ObjectsGo priorities o n task to → t ≢ task
    → HoldersFitCall o t phase instr → HoldersFitCall n t phase instr
HoldersFitCall-others priorities o n task t to phase instr objects differs fit = record {
  named = λ held is. fit.named held (objects.named_before held t differs is);
  names = λ held waits. objects.named_still held t differs (fit.names held waits);
}

pub IsConsistent-moves : (app : Application) (D : ℕ → Phase → Type 0) (s p : Snapshot) (task : ℕ) (x : TaskSnapshot) → task < length s.tasks
    → p.tasks ≡ set s.tasks task x → IsConsistentTask app D task x → HoldersFitCall p.objects task x.phase (instr_at app task x.pc)
    → LineupGoes (priorities_of app) s.ready p.ready s.cores p.cores task x.phase → ObjectsGo (priorities_of app) s.objects p.objects task x.phase
    → IsConsistent app D s → IsConsistent app D p
IsConsistent-moves app D s p task x there is consistent places lineup objects at = record {
  cores = lineup.same_cores ∙ at.cores;
  tasks = ap length is ∙ length-set s.tasks task x ∙ at.tasks;
  each = task_or_other s p task x (IsConsistentTask app D) there is consistent (λ t differs h. at.each t h);
  shapes = objects.shapes ∙ at.shapes;
  lined_up_once = task_or_other s p task x (λ t y. times_in_list t p.ready + times_on_cores t p.cores ≡ times_to_run y.phase) there is lineup.lined_up
      (λ t differs h. lineup.others t differs ∙ at.lined_up_once t h);
  waiting_lists = record { ready = lineup.order; waiting = objects.order };
  places = λ place. task_or_other s p task x (λ t y. times_in_list t (waiting_at p place) ≡ times_waiting_in place y.phase) there is (objects.waits place)
      (λ t differs h. objects.others place t differs ∙ at.places place t h);
  holders = task_or_other s p task x (λ t y. HoldersFitCall p.objects t y.phase (instr_at app t y.pc)) there is places
      (λ t differs h. HoldersFitCall-others (priorities_of app) s.objects p.objects task t x.phase (task_at s t).phase (instr_at app t (task_at s t).pc) objects differs
      (at.holders t h));
}

-- It is lined up as it was, or still isn't.
pub LineupGoes-stay : (app : Application) (D : ℕ → Phase → Type 0) (s : Snapshot) (task : ℕ) (phase : Phase) → task < length s.tasks
    → times_to_run phase ≡ times_to_run (task_at s task).phase → IsConsistent app D s
    → LineupGoes (priorities_of app) s.ready s.ready s.cores s.cores task phase
LineupGoes-stay app D s task phase there runs at = record {
  same_cores = refl;
  lined_up = at.lined_up_once task there ∙ sym runs;
  others = λ t differs. refl;
  order = at.waiting_lists.ready;
}

-- It leaves its core.
pub LineupGoes-off_core : (app : Application) (D : ℕ → Phase → Type 0) (s : Snapshot) (core task : ℕ) (phase : Phase) → task < length s.tasks
    → 1 ≤ times_to_run (task_at s task).phase → core < length s.cores → core_at s core ≡ Some task → times_to_run phase ≡ 0 → IsConsistent app D s
    → LineupGoes (priorities_of app) s.ready s.ready s.cores (set s.cores core None) task phase
LineupGoes-off_core app D s core task phase there runs has_core e idle at =
    let off_core : (t : ℕ) → times_on_cores t (set s.cores core None) + one_if (nat_eq t task) ≡ times_on_cores t s.cores =
    λ t. omega (arith, times_on_cores-set t core s.cores None has_core, ap (λ r. one_if (is_on t r)) e) in
    record {
      same_cores = length-set s.cores core None;
      lined_up = omega (arith, off_core task, same_one task, at.lined_up_once task there, times_to_run-one (task_at s task).phase runs, idle);
      others = λ t differs. omega (arith, off_core t, other_none t task differs);
      order = at.waiting_lists.ready;
    }

-- It joins those that are ready.
pub LineupGoes-ready : (app : Application) (D : ℕ → Phase → Type 0) (s : Snapshot) (task : ℕ) (phase : Phase) → task < length s.tasks
    → times_to_run (task_at s task).phase ≡ 0 → times_to_run phase ≡ 1 → IsConsistent app D s
    → LineupGoes (priorities_of app) s.ready (joined (priorities_of app) s.ready task) s.cores s.cores task phase
LineupGoes-ready app D s task phase there idle runs at =
    let times : (t : ℕ) → times_in_list t (joined (priorities_of app) s.ready task) ≡ times_in_list t s.ready + one_if (nat_eq t task) =
    λ t. times_in_list-joined (priorities_of app) s.ready t task in
    record {
      same_cores = refl;
      lined_up = omega (arith, times task, same_one task, at.lined_up_once task there, idle, runs);
      others = λ t differs. omega (arith, times t, other_none t task differs);
      order = IsInOrder-joined (priorities_of app) s.ready task at.waiting_lists.ready;
    }

-- It waits where it waited, if it did.
pub ObjectsGo-stay : (app : Application) (D : ℕ → Phase → Type 0) (s : Snapshot) (task : ℕ) (phase : Phase) → task < length s.tasks
    → ((place : Listed) → times_waiting_in place phase ≡ times_waiting_in place (task_at s task).phase) → IsConsistent app D s
    → ObjectsGo (priorities_of app) s.objects s.objects task phase
ObjectsGo-stay app D s task phase there waits at = record {
  shapes = refl;
  waits = λ place. at.places place task there ∙ sym (waits place);
  others = λ place t differs. refl;
  order = at.waiting_lists.waiting;
  named_still = λ held t differs is. is;
  named_before = λ held t differs is. is;
}

-- what holds where two places are one, and where they aren't
by_place : (place other : Listed) (P : Bool → Type 0) → (other ≡ place → P true) → (same_list other place ≡ false → P false) → P (same_list other place)
by_place place other P same differs =
    let cases : (b : Bool) → same_list other place ≡ b → P b = λ b. elim b as (λ b. same_list other place ≡ b → P b) [
      | true ↦ λ e. same (same_list-is other place e)
      | false ↦ λ e. differs e
    ] in
    cases (same_list other place) refl

-- It comes to a list or leaves it: who waits there then.
pub record ListGoes (priorities : List ℕ) (s : Snapshot) (place : Listed) (waiting : List ℕ) (task : ℕ) (phase : Phase) : Type 0 where
  pub there : HasList s place
  pub waits : times_in_list task waiting ≡ times_waiting_in place phase
  pub elsewhere : (other : Listed) → same_list other place ≡ false → times_waiting_in other phase ≡ times_waiting_in other (task_at s task).phase
  pub others : (t : ℕ) → t ≢ task → times_in_list t waiting ≡ times_in_list t (waiting_at s place)
  pub order : is_by_priority place ≡ true → IsInOrder priorities waiting

pub ObjectsGo-list : (app : Application) (D : ℕ → Phase → Type 0) (s : Snapshot) (place : Listed) (waiting : List ℕ) (wishes : List Wish) (task : ℕ)
    (phase : Phase) → task < length s.tasks → ListGoes (priorities_of app) s place waiting task phase → IsConsistent app D s
    → ObjectsGo (priorities_of app) s.objects (objects_then s.objects place waiting wishes) task phase
ObjectsGo-list app D s place waiting wishes task phase there goes at =
    let n = objects_then s.objects place waiting wishes in
    let list : (other : Listed) → List ℕ = λ other. cond (same_list other place) waiting (waiting_at s other) in
    let is_list : (other : Listed) → waiting_in n other ≡ list other = λ other. waiting_then s.objects place other waiting wishes goes.there in
    record {
      shapes = shapes_then s.objects place waiting wishes;
      waits = λ other. ap (times_in_list task) (is_list other)
          ∙ by_place place other (λ b. times_in_list task (cond b waiting (waiting_at s other)) ≡ times_waiting_in other phase)
          (λ same. goes.waits ∙ ap (λ q. times_waiting_in q phase) (sym same))
          (λ differs. at.places other task there ∙ sym (goes.elsewhere other differs));
      others = λ other t differs. ap (times_in_list t) (is_list other)
          ∙ by_place place other (λ b. times_in_list t (cond b waiting (waiting_at s other)) ≡ times_in_list t (waiting_at s other))
          (λ same. goes.others t differs ∙ ap (λ q. times_in_list t (waiting_at s q)) (sym same))
          (λ apart. refl);
      order = λ other by. subst (IsInOrder (priorities_of app)) (sym (is_list other))
          (by_place place other (λ b. IsInOrder (priorities_of app) (cond b waiting (waiting_at s other)))
          (λ same. goes.order (ap is_by_priority (sym same) ∙ by)) (λ differs. at.waiting_lists.waiting other by));
      named_still = λ held t differs is. holders_then s.objects place waiting wishes held ∙ is;
      named_before = λ held t differs is. sym (holders_then s.objects place waiting wishes held) ∙ is;
    }

-- It comes to wait.
pub ListGoes-joined : (app : Application) (D : ℕ → Phase → Type 0) (s : Snapshot) (place : Listed) (task : ℕ) (phase : Phase) → task < length s.tasks
    → HasList s place → 1 ≤ times_to_run (task_at s task).phase → waits_at phase ≡ Some (sort.Listed place) → IsConsistent app D s
    → ListGoes (priorities_of app) s place (joined (priorities_of app) (waiting_at s place) task) task phase
ListGoes-joined app D s place task phase there has_place runs waits at =
    let list = waiting_at s place in
    let times : (t : ℕ) → times_in_list t (joined (priorities_of app) list task) ≡ times_in_list t list + one_if (nat_eq t task) =
    λ t. times_in_list-joined (priorities_of app) list t task in
    let none : times_in_list task list ≡ 0 = at.places place task there ∙ waits_nowhere place (task_at s task).phase runs in
    let times_then : (other : Listed) → times_waiting_in other phase ≡ one_if (same_list other place) = λ other. ap (λ o. one_if (is_in_list other (option_and_then listed_at o))) waits in
    record {
      there = has_place;
      waits = times task ∙ omega (arith, none, same_one task) ∙ sym (times_then place ∙ ap one_if (same_list-self place));
      elsewhere = λ other differs. times_then other ∙ ap one_if differs ∙ sym (waits_nowhere other (task_at s task).phase runs);
      others = λ t differs. omega (arith, times t, other_none t task differs);
      order = λ by. IsInOrder-joined (priorities_of app) list task (at.waiting_lists.waiting place by);
    }

-- It comes to wait at an event group, behind all others.
pub ListGoes-appended : (app : Application) (D : ℕ → Phase → Type 0) (s : Snapshot) (group task : ℕ) (phase : Phase) → task < length s.tasks
    → HasList s (Group group) → 1 ≤ times_to_run (task_at s task).phase → waits_at phase ≡ Some (sort.Listed (Group group)) → IsConsistent app D s
    → ListGoes (priorities_of app) s (Group group) (waiting_at s (Group group) ++ task ∷ []) task phase
ListGoes-appended app D s group task phase there has_place runs waits at =
    let place = Group group in
    let list = waiting_at s place in
    let times : (t : ℕ) → times_in_list t (list ++ task ∷ []) ≡ times_in_list t list + one_if (nat_eq t task) =
    λ t. omega (arith, sum_by-append (λ m. one_if (nat_eq t m)) list (task ∷ []), times_in_list-cons t task []) in
    let none : times_in_list task list ≡ 0 = at.places place task there ∙ waits_nowhere place (task_at s task).phase runs in
    let times_then : (other : Listed) → times_waiting_in other phase ≡ one_if (same_list other place) = λ other. ap (λ o. one_if (is_in_list other (option_and_then listed_at o))) waits in
    record {
      there = has_place;
      waits = times task ∙ omega (arith, none, same_one task) ∙ sym (times_then place ∙ ap one_if (same_list-self place));
      elsewhere = λ other differs. times_then other ∙ ap one_if differs ∙ sym (waits_nowhere other (task_at s task).phase runs);
      others = λ t differs. omega (arith, times t, other_none t task differs);
      order = λ by. absurd (false≢true by);
    }

-- It has waited, and can run.
pub ListGoes-left : (app : Application) (D : ℕ → Phase → Type 0) (s : Snapshot) (place : Listed) (task : ℕ) (phase : Phase)
    (f : FoundInList task (waiting_at s place)) → task < length s.tasks → waits_at (task_at s task).phase ≡ Some (sort.Listed place)
    → 1 ≤ times_in_list task (waiting_at s place) → 1 ≤ times_to_run phase → IsConsistent app D s
    → ListGoes (priorities_of app) s place (remove (waiting_at s place) f.index) task phase
ListGoes-left app D s place task phase f there waits some runs at =
    let list = waiting_at s place in
    let times : (t : ℕ) → times_in_list t (remove list f.index) + one_if (nat_eq t task) ≡ times_in_list t list =
    λ t. subst (λ m. times_in_list t (remove list f.index) + one_if (nat_eq t m) ≡ times_in_list t list) f.member
    (sum_by-remove (λ m. one_if (nat_eq t m)) list f.index 0 f.within) in
    let once : times_in_list task list ≤ 1 = omega (arith, at.places place task there, times_waiting_in-at_most_one place (task_at s task).phase) in
    record {
      there = place_there s place task some;
      waits = omega (arith, times task, same_one task, once, some, waits_nowhere place phase runs);
      elsewhere = λ other differs. waits_nowhere other phase runs ∙ sym (ap (λ o. one_if (is_in_list other (option_and_then listed_at o))) waits ∙ ap one_if differs);
      others = λ t differs. omega (arith, times t, other_none t task differs);
      order = λ by. IsInOrder-remove (priorities_of app) list f.index (at.waiting_lists.waiting place by);
    }

-- A place of a buffer comes to name it, or names it no more.
pub ObjectsGo-holder : (app : Application) (D : ℕ → Phase → Type 0) (s : Snapshot) (held : Held) (who : Option ℕ) (task : ℕ) (phase : Phase) → task < length s.tasks
    → HasHeld s held → ((t : ℕ) → t ≢ task → who ≢ Some t) → ((t : ℕ) → t ≢ task → holder_at s held ≢ Some t)
    → ((place : Listed) → times_waiting_in place phase ≡ times_waiting_in place (task_at s task).phase) → IsConsistent app D s
    → ObjectsGo (priorities_of app) s.objects (objects_naming s.objects held who) task phase
ObjectsGo-holder app D s held who task phase there has_held no_other no_other_before waits at =
    let goes = HolderGoes-naming s.objects held who has_held in
    record {
      shapes = goes.shapes;
      waits = λ place. ap (times_in_list task) (goes.waiting place) ∙ at.places place task there ∙ sym (waits place);
      others = λ place t differs. ap (times_in_list t) (goes.waiting place);
      order = λ place by. subst (IsInOrder (priorities_of app)) (sym (goes.waiting place)) (at.waiting_lists.waiting place by);
      named_still = λ other t differs is. by_held other held (λ same. absurd (no_other_before t differs (ap (holder_at s) (sym same) ∙ is)))
          (λ apart. goes.others other apart ∙ is);
      named_before = λ other t differs is. by_held other held
          (λ same. absurd (no_other t differs (sym goes.here ∙ ap (holder_in (objects_naming s.objects held who)) (sym same) ∙ is)))
          (λ apart. sym (goes.others other apart) ∙ is);
    }

-- ---- products

-- A task is replaced by one that stands as often on cores and in lists.
pub IsConsistent-task_replaced : (app : Application) (D : ℕ → Phase → Type 0) (s : Snapshot) (task : ℕ) (x : TaskSnapshot) → task < length s.tasks
    → IsConsistentTask app D task x
    → times_to_run x.phase ≡ times_to_run (task_at s task).phase
    → ((place : Listed) → times_waiting_in place x.phase ≡ times_waiting_in place (task_at s task).phase)
    → HoldersFitCall s.objects task x.phase (instr_at app task x.pc) → IsConsistent app D s → IsConsistent app D (with_task s task x)
IsConsistent-task_replaced app D s task x there consistent runs waits places at =
    IsConsistent-moves app D s (with_task s task x) task x there refl consistent places (LineupGoes-stay app D s task x.phase there runs at)
    (ObjectsGo-stay app D s task x.phase there waits at) at
