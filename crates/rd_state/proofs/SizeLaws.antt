-- The sizes of a state, which a change preserves.
use Rattle.std.proofs.Common.{◌≡◌, ◌∙◌, ℕ, zero, suc, ◌+◌, ◌^◌, ◌<◌, ◌≤◌, List, length, get_or, replicate, set, Option, None}
use Rattle.std.proofs.Common.{refl, ap, sym, subst, arith}
use Rattle.std.specs.Prelude.{All, insert, remove, slice_index}
use Rattle.std.specs.Vec.{with_item}
use Rattle.std.specs.List.{prefix_len}
use Rattle.std.proofs.lemmas.List.{get_or_default, length-replicate, length-set}
use Rattle.std.proofs.lemmas.List.Edits.{length-insert, length-remove}
use Rattle.std.proofs.lemmas.List.Elements.{All-nil, All-same, All-set, All-replicate}
use Rattle.std.proofs.lemmas.List.Sums.{prefix_len-le-length}
use Rattle.rd_app.specs.Application.{Application, IsApplication, priorities_of}
use Rattle.rd_app.proofs.Offered.{few_cores_of}
use Rattle.rd_wait.specs.Joined.{joined, is_at_least}
use Rattle.rd_wait.specs.TaskList.{TaskList}
use Rattle.rd_wait.proofs.Offered.{All-insert, All-remove}
use Rattle.rd_state.specs.Change.{InsReady, Task, Object}
use Rattle.rd_state.specs.Objects.{ObjectChange}
use Rattle.rd_state.specs.declared.state.State.TheInside.{Inside}
use Rattle.rd_state.specs.TaskChanges.{TaskChange}
use Rattle.rd_state.specs.TaskChanges.{SetPc, SetReg, SetPhase, SetEntry, SetData}
use Rattle.rd_state.specs.Boot.{all_joined, fresh_task}
use Rattle.rd_state.specs.Change.{Fits, MentionsObjects}
use Rattle.rd_state.specs.Inside.{HasSizes, snapshot_of}
use Rattle.rd_state.specs.Objects.{AreSizedObjects, Numbers, ObjectsSnapshot, new_objects, numbers_in, object_applied}
use Rattle.rd_notify.specs.declared.entries.Entry.{Entry}
use Rattle.rd_notify.specs.Entries.{idle_entry}
use Rattle.rd_state.specs.Sizes.{IsSized, IsSizedPhase, IsSizedTask, IsTaskOrIdle}
use Rattle.rd_state.specs.Snapshot.{Snapshot, TaskSnapshot, no_task, numbers_of, task_at, with_task}
use Rattle.rd_state.specs.TaskChanges.{task_applied}
use Rattle.rd_state.proofs.TaskLaws as task_law
use Rattle.rd_state.proofs.ObjectLaws.{AreSizedObjects-new, object_numbers, object_sized}
use Rattle.rd_state.proofs.UndoLaws.{phase_sized, task_sized}

-- a state with another ready list
HasSizes-ready : (s : Inside) (tasks : List ℕ) → All (λ task. task < length s.tasks.items) tasks → length tasks ≤ length s.tasks.items → HasSizes s
    → HasSizes (record s { ready = record s.ready { tasks = tasks } })
HasSizes-ready s tasks among few has =
    let scheduling = has.sized.scheduling in
    record {
      sized = record {
        scheduling = record {
          tick = scheduling.tick;
          turn = scheduling.turn;
          cores = scheduling.cores;
          few_cores = scheduling.few_cores;
          ready = among;
          room = few;
        };
        tasks = record { tasks = has.sized.tasks.tasks; few = has.sized.tasks.few; phases = has.sized.tasks.phases };
        objects = has.sized.objects;
      };
      capacity = has.capacity;
    }

-- a task has left the ready list
pub HasSizes-remove : (s : Inside) (index : ℕ) → index < length s.ready.tasks → HasSizes s
    → HasSizes (record s { ready = record s.ready { tasks = remove s.ready.tasks index } })
HasSizes-remove s index h has =
    let scheduling = has.sized.scheduling in
    let among = All-remove (λ task. task < length s.tasks.items) s.ready.tasks index scheduling.ready in
    HasSizes-ready s _ among (omega (arith, length-remove s.ready.tasks index h, scheduling.room)) has

-- a task has come into the ready list
pub HasSizes-insert : (s : Inside) (index task : ℕ) → Fits (snapshot_of s) (InsReady index task) → HasSizes s
    → HasSizes (record s { ready = record s.ready { tasks = insert s.ready.tasks index task } })
HasSizes-insert s index task fits has =
    let among = All-insert (λ task. task < length s.tasks.items) s.ready.tasks index task has.sized.scheduling.ready fits.2 in
    HasSizes-ready s _ among (omega (arith, length-insert s.ready.tasks index task fits.0, fits.1)) has

-- a state with another task of that number
IsSized-task : (s : Snapshot) (task : ℕ) (new : TaskSnapshot) → IsSizedTask new → IsSizedPhase (numbers_of s) new.phase → IsSized s
    → IsSized (with_task s task new)
IsSized-task s task new sized phase has =
    let same : length s.tasks ≡ length (set s.tasks task new) = sym (length-set s.tasks task new) in
    record {
      scheduling = record {
        tick = has.scheduling.tick;
        turn = has.scheduling.turn;
        cores = subst (λ n. All (IsTaskOrIdle n) s.cores) same has.scheduling.cores;
        few_cores = has.scheduling.few_cores;
        ready = subst (λ n. All (λ t. t < n) s.ready) same has.scheduling.ready;
        room = subst (λ n. length s.ready ≤ n) same has.scheduling.room;
      };
      tasks = record {
        tasks = All-set IsSizedTask s.tasks task new sized has.tasks.tasks;
        few = omega (arith, same, has.tasks.few);
        phases = All-set (λ (t : TaskSnapshot). IsSizedPhase (numbers_of s) t.phase) s.tasks task new phase has.tasks.phases;
      };
      objects = subst (λ n. AreSizedObjects n s.objects) same has.objects;
    }

-- with other objects, as many of each kind
IsSized-objects : (s : Snapshot) (n : ObjectsSnapshot) → numbers_of s ≡ numbers_in n → AreSizedObjects (length s.tasks) n → IsSized s
    → IsSized (record s { objects = n })
IsSized-objects s n same sized has = record {
  scheduling = record {
    tick = has.scheduling.tick;
    turn = has.scheduling.turn;
    cores = has.scheduling.cores;
    few_cores = has.scheduling.few_cores;
    ready = has.scheduling.ready;
    room = has.scheduling.room;
  };
  tasks = record {
    tasks = has.tasks.tasks;
    few = has.tasks.few;
    phases = subst (λ (n : Numbers). All (λ (t : TaskSnapshot). IsSizedPhase n t.phase) s.tasks) same has.tasks.phases;
  };
  objects = sized;
}

-- A task that was changed has a phase with objects that are there.
phase_then : (s : Snapshot) (task : ℕ) (change : TaskChange) → IsSized s → task < length s.tasks → MentionsObjects (numbers_of s) change
    → IsSizedPhase (numbers_of s) (task_applied (task_at s task) change).phase
phase_then s task (SetPc pc) sized there names = phase_sized s task sized there
phase_then s task (SetReg register value) sized there names = phase_sized s task sized there
phase_then s task (SetPhase phase) sized there names = names
phase_then s task (SetEntry index entry) sized there names = phase_sized s task sized there
phase_then s task (SetData bytes) sized there names = phase_sized s task sized there

-- a change of a task
pub HasSizes-task : (s : Inside) (now : Snapshot) (task : ℕ) (change : TaskChange) (new : TaskSnapshot) → snapshot_of s ≡ now → Fits now (Task task change)
    → new ≡ task_applied (task_at now task) change → HasSizes s → HasSizes (record s { tasks = with_item s.tasks task new })
HasSizes-task s now task change new e =
    let P : Snapshot → Type 0 = λ t. Fits t (Task task change) → new ≡ task_applied (task_at t task) change → HasSizes s
    → HasSizes (record s { tasks = with_item s.tasks task new }) in
    subst P e (λ fits f has.
    let all = snapshot_of s in
    let sized = (task_law.each_is_undone (task_at all task) change (task_sized all task has.sized fits.0) fits.1).sized in
    rw f (record {
      sized = IsSized-task all task (task_applied (task_at all task) change) sized (phase_then all task change has.sized fits.0 fits.2) has.sized;
      capacity = has.capacity ∙ sym (length-set s.tasks.items task _);
    }))

-- a change of an object
pub HasSizes-object : (s : Inside) (now : Snapshot) (change : ObjectChange) → snapshot_of s ≡ now → Fits now (Object change) → HasSizes s
    → HasSizes (record s { objects = object_applied s.objects change })
HasSizes-object s now change e =
    let P : Snapshot → Type 0 = λ t. Fits t (Object change) → HasSizes s → HasSizes (record s { objects = object_applied s.objects change }) in
    subst P e (λ fits has.
    let all = snapshot_of s in
    let sized = object_sized (length all.tasks) all.objects change has.sized.objects fits in
    record {
      sized = IsSized-objects all (object_applied all.objects change) (sym (object_numbers all.objects change)) sized has.sized;
      capacity = has.capacity;
    })

-- the task that stands at an index of the vector
pub task_read : (s : Inside) (now : Snapshot) (task : ℕ) (read : TaskSnapshot) → snapshot_of s ≡ now → task < length now.tasks
    → read ≡ get_or s.tasks.items task read → read ≡ task_at now task
task_read s now task read e =
    let P : Snapshot → Type 0 = λ t. task < length t.tasks → read ≡ get_or s.tasks.items task read → read ≡ task_at t task in
    subst P e (λ there f. f ∙ get_or_default s.tasks.items task read no_task there)

-- joining a task makes a list one longer
pub length-joined : (priorities tasks : List ℕ) (task : ℕ) → length (joined priorities tasks task) ≡ length tasks + 1
length-joined priorities tasks task =
    let test = is_at_least priorities (slice_index priorities task) in
    length-insert tasks (prefix_len test tasks) task (prefix_len-le-length test tasks)

pub length-all_joined : (priorities : List ℕ) (n : ℕ) → length (all_joined priorities n) ≡ n
length-all_joined priorities zero = refl
length-all_joined priorities (suc n) = omega (arith, length-joined priorities (all_joined priorities n) n, length-all_joined priorities n)

pub All-all_joined : (priorities : List ℕ) (n limit : ℕ) → n ≤ limit → All (λ task. task < limit) (all_joined priorities n)
All-all_joined priorities zero limit h = All-nil (λ task. task < limit)
All-all_joined priorities (suc n) limit h =
    All-insert (λ task. task < limit) (all_joined priorities n) _ n (All-all_joined priorities n limit (omega (arith, h))) (omega (arith, h))

-- a task at its first instruction
IsSizedTask-fresh : (entries : ℕ) → entries ≤ 4 → IsSizedTask (fresh_task entries)
IsSizedTask-fresh entries few = record {
  pc = omega arith;
  registers = refl;
  values = All-replicate (λ v. v < 2 ^ 32) 8 0 (omega arith);
  bytes = omega arith;
  entries = All-replicate (λ (entry : Entry). entry.value < 2 ^ 32) entries idle_entry (omega arith);
  few_entries = omega (arith, length-replicate entries idle_entry, few);
}

-- a new state
pub HasSizes-new : (app : Application) (s : Inside) (n : ℕ) → IsApplication app → s.tick ≡ app.tick → s.turn ≡ 0 → s.cores.items ≡ replicate app.cores None
    → s.ready ≡ record { tasks = all_joined (priorities_of app) n; capacity = n } → s.tasks.items ≡ replicate n (fresh_task app.entries)
    → n ≡ length app.tasks → s.objects ≡ new_objects app → HasSizes s
HasSizes-new app s n limits tick turn cores ready tasks scripts objects =
    let count : length s.tasks.items ≡ n = omega (arith, ap length tasks, length-replicate n (fresh_task app.entries)) in
    let listed : s.ready.tasks ≡ all_joined (priorities_of app) n = ap (λ (l : TaskList). l.tasks) ready in
    let HasPhase : TaskSnapshot → Type 0 = λ task. IsSizedPhase (numbers_of (snapshot_of s)) task.phase in
    record {
      sized = record {
        scheduling = record {
          tick = omega (arith, tick, limits.tick);
          turn = omega (arith, turn);
          cores =
              All-same (IsTaskOrIdle (length s.tasks.items)) s.cores.items (replicate app.cores None) cores
              (All-replicate (IsTaskOrIdle (length s.tasks.items)) app.cores None tt);
          few_cores = omega (arith, ap length cores, length-replicate {A = Option ℕ} app.cores None, few_cores_of app limits);
          ready =
              All-same (λ task. task < length s.tasks.items) s.ready.tasks (all_joined (priorities_of app) n) listed
              (All-all_joined (priorities_of app) n (length s.tasks.items) (omega (arith, count)));
          room = omega (arith, ap length listed, length-all_joined (priorities_of app) n, count);
        };
        tasks = record {
          tasks =
              All-same IsSizedTask s.tasks.items (replicate n (fresh_task app.entries)) tasks
              (All-replicate IsSizedTask n (fresh_task app.entries) (IsSizedTask-fresh app.entries limits.few_entries));
          few = omega (arith, count, scripts, limits.few_tasks);
          phases =
              All-same HasPhase s.tasks.items (replicate n (fresh_task app.entries)) tasks (All-replicate HasPhase n (fresh_task app.entries) tt);
        };
        objects =
            subst (AreSizedObjects (length s.tasks.items)) (sym objects) (AreSizedObjects-new app (length s.tasks.items) limits (count ∙ scripts));
      };
      capacity = ap (λ (l : TaskList). l.capacity) ready ∙ sym count;
    }
