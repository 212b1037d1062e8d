-- Changes undone: each by its inverse, and records from their end.
use Rattle.std.proofs.Common.{◌≡◌, ◌∙◌, ℕ, ◌<◌, ◌≤◌, List, [], ◌∷◌, ◌++◌, Option, None, length, drop, take, refl, ap, sym, subst, arith}
use Rattle.std.proofs.lemmas.List.{drop-append-le, length-set, length_push, take-append-le}
use Rattle.std.proofs.lemmas.List.Edits.{length-remove, length-insert}
use Rattle.std.proofs.lemmas.List.Elements.{All-get_or}
use Rattle.rd_state.specs.Change.{Change}
use Rattle.rd_state.specs.Change.{SetTick, SetTurn, SetCore, InsReady, DelReady, Task, Object}
use Rattle.rd_state.specs.TaskChanges.{TaskChange}
use Rattle.rd_state.specs.TaskChanges.{SetPc, SetReg, SetPhase, SetEntry, SetData}
use Rattle.rd_state.specs.Change.{applied, inverse_of, Fits, MentionsObjects}
use Rattle.rd_state.specs.Objects.{ObjectsSnapshot}
use Rattle.rd_state.specs.Sizes.{IsSized, IsSizedPhase, IsSizedTask, IsTaskOrIdle}
use Rattle.rd_state.specs.Snapshot.{Snapshot, TaskSnapshot, no_task, numbers_of, task_at}
use Rattle.std.proofs.lemmas.List.{get_or-set_same}
use Rattle.rd_state.specs.TaskChanges.{task_applied, task_inverse_of, TaskFits}
use Rattle.rd_state.specs.Undoing.{undone, CanUndo, EachIsUndone}
use Rattle.rd_state.proofs.ObjectLaws.{object_back, object_fits}
use Rattle.rd_state.proofs.TaskLaws as task_law
use Rattle.rd_wait.proofs.Offered.{remove-insert, insert-remove, replaced_back, set_back}

-- A task of the state has its sizes.
pub task_sized : (s : Snapshot) (task : ℕ) → IsSized s → task < length s.tasks → IsSizedTask (task_at s task)
task_sized s task sized there = All-get_or IsSizedTask s.tasks task no_task there sized.tasks.tasks

pub phase_sized : (s : Snapshot) (task : ℕ) → IsSized s → task < length s.tasks → IsSizedPhase (numbers_of s) (task_at s task).phase
phase_sized s task sized there = All-get_or (λ (t : TaskSnapshot). IsSizedPhase (numbers_of s) t.phase) s.tasks task no_task there sized.tasks.phases

inverse_undoes : (s : Snapshot) (change : Change) → IsSized s → Fits s change → applied (applied s change) (inverse_of s change) ≡ s
inverse_undoes s (SetTick tick) sized fits = refl
inverse_undoes s (SetTurn turn) sized fits = refl
inverse_undoes s (SetCore core task) sized fits = ap (λ (cores : List (Option ℕ)). record s { cores = cores }) (set_back s.cores core None task)
inverse_undoes s (InsReady index task) sized fits = ap (λ (ready : List ℕ). record s { ready = ready }) (remove-insert s.ready index task fits.0)
inverse_undoes s (DelReady index) sized fits = ap (λ (ready : List ℕ). record s { ready = ready }) (insert-remove s.ready index 0 fits)
inverse_undoes s (Task task change) sized fits =
    let was = task_at s task in
    let back = (task_law.each_is_undone was change (task_sized s task sized fits.0) fits.1).back in
    ap (λ (tasks : List TaskSnapshot). record s { tasks = tasks })
    (replaced_back s.tasks task no_task (task_applied was change) (λ t. task_applied t (task_inverse_of was change)) fits.0 back)
inverse_undoes s (Object change) sized fits =
    ap (λ (o : ObjectsSnapshot). record s { objects = o }) (object_back (length s.tasks) s.objects change sized.objects fits)

-- The objects that a task named before a change are there.
names_back : (s : Snapshot) (task : ℕ) (change : TaskChange) → IsSized s → task < length s.tasks
    → MentionsObjects (numbers_of s) (task_inverse_of (task_at s task) change)
names_back s task (SetPc pc) sized there = tt
names_back s task (SetReg register value) sized there = tt
names_back s task (SetPhase phase) sized there = phase_sized s task sized there
names_back s task (SetEntry index entry) sized there = tt
names_back s task (SetData bytes) sized there = tt

inverse_fits : (s : Snapshot) (change : Change) → IsSized s → Fits s change → Fits (applied s change) (inverse_of s change)
inverse_fits s (SetTick tick) sized fits = sized.scheduling.tick
inverse_fits s (SetTurn turn) sized fits = sized.scheduling.turn
inverse_fits s (SetCore core task) sized fits =
    (omega (arith, length-set s.cores core task, fits.0), All-get_or (IsTaskOrIdle (length s.tasks)) s.cores core None fits.0 sized.scheduling.cores)
inverse_fits s (InsReady index task) sized fits = omega (arith, length-insert s.ready index task fits.0)
inverse_fits s (DelReady index) sized fits = (
  omega (arith, length-remove s.ready index fits),
  omega (arith, length-remove s.ready index fits, sized.scheduling.room),
  All-get_or (λ task. task < length s.tasks) s.ready index 0 fits sized.scheduling.ready,
)
inverse_fits s (Task task change) sized fits =
    let was = task_at s task in (
      omega (arith, length-set s.tasks task (task_applied was change), fits.0),
      subst (λ (now : TaskSnapshot). TaskFits now (task_inverse_of was change)) (sym (get_or-set_same s.tasks task (task_applied was change) no_task fits.0))
          (task_law.each_is_undone was change (task_sized s task sized fits.0) fits.1).fits,
      names_back s task change sized fits.0,
    )
inverse_fits s (Object change) sized fits = object_fits (length s.tasks) s.objects change sized.objects fits

pub each_is_undone : EachIsUndone
each_is_undone s change sized fits = record { back = inverse_undoes s change sized fits; fits = inverse_fits s change sized fits }

-- A record that gets the inverse of the change just made leads back to where it led before.
pub undone-push : (s : Snapshot) (record_ : List Change) (change : Change) → undone s (record_ ++ change ∷ []) ≡ undone (applied s change) record_
undone-push s [] change = refl
undone-push s (first ∷ later) change = ap (λ (t : Snapshot). applied t first) (undone-push s later change)

pub CanUndo-push : (s : Snapshot) (record_ : List Change) (change : Change) → Fits s change → CanUndo (applied s change) record_
    → CanUndo s (record_ ++ change ∷ [])
CanUndo-push s [] change fits can = (tt, fits)
CanUndo-push s (first ∷ later) change fits can =
    let P : Snapshot → Type 0 = λ t. Fits t first in
    (CanUndo-push s later change fits can.0, subst P (sym (undone-push s later change)) can.1)

-- the same, from a record whose last change is undone
pub CanUndo-pop : (s : Snapshot) (record_ : List Change) (change : Change) → CanUndo s (record_ ++ change ∷ [])
    → Fits s change × CanUndo (applied s change) record_
CanUndo-pop s [] change can = (can.1, tt)
CanUndo-pop s (first ∷ later) change can =
    let rest = CanUndo-pop s later change can.0 in
    let P : Snapshot → Type 0 = λ t. Fits t first in
    (rest.0, (rest.1, subst P (undone-push s later change) can.1))

-- a list of changes whose last one is one of those to go back by
pub record IsLast (s : Snapshot) (n : ℕ) (all rest : List Change) (change : Change) : Type 0 where
  pub within : n ≤ length rest
  pub fits : Fits s change
  pub leads : undone (applied s change) (drop n rest) ≡ undone s (drop n all)
  pub rest_fits : CanUndo (applied s change) (drop n rest)
  pub before : take n rest ≡ take n all

pub last_of : (s : Snapshot) (n : ℕ) (all rest : List Change) (change : Change) → all ≡ rest ++ change ∷ [] → n < length all
    → CanUndo s (drop n all) → IsLast s n all rest change
last_of s n all rest change e more can =
    let within : n ≤ length rest = omega (arith, more, ap length e, length_push rest change) in
    let later : drop n all ≡ drop n rest ++ change ∷ [] = ap (drop n) e ∙ drop-append-le n rest (change ∷ []) within in
    let popped = CanUndo-pop s (drop n rest) change (subst (CanUndo s) later can) in
    record {
      within = within;
      fits = popped.0;
      leads = sym (ap (undone s) later ∙ undone-push s (drop n rest) change);
      rest_fits = popped.1;
      before = sym (ap (take n) e ∙ take-append-le n rest (change ∷ []) within);
    }
