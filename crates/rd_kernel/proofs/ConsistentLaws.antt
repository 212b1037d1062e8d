-- What makes a state valid, but for its sizes, and what keeps it.
use Rattle.std.proofs.Common.{◌<◌, ◌∙◌, ◌∷◌, ◌≡◌, ◌≢◌, ◌≤◌, Bool, List, [], ap, arith, cond, false, get_or, inl, inr, length, map, refl, set, subst}
use Rattle.std.proofs.Common.{suc, sym, true, zero, ℕ}
use Rattle.std.specs.Prelude.{◌&&◌, nat_eq}
use Rattle.std.proofs.lemmas.Bool.{cases_eq, cases_lt, false≢true}
use Rattle.std.proofs.lemmas.Bool.Decides.{nat_tests}
use Rattle.std.proofs.lemmas.List.{get_or-set_other, get_or-set_same, get_or_past, length-set}
use Rattle.std.proofs.lemmas.List.Elements.{All-from_get_or, All-get_or}
use Rattle.rd_group.specs.GroupSnapshot.{GroupSnapshot}
use Rattle.rd_group.specs.Groups.{with_waiters}
use Rattle.rd_group.specs.declared.wish.Wish.{Wish}
use Rattle.rd_queue.specs.declared.waiting_list.WaitingList.{WaitingList}
use Rattle.rd_queue.specs.declared.waiting_list.WaitingList.TheVariants.{Receiving, Sending}
use Rattle.rd_queue.specs.QueueSnapshot.{QueueSnapshot}
use Rattle.rd_queue.specs.QueueSetSnapshot.{QueueSetSnapshot}
use Rattle.rd_queue.specs.QueueSets.{with_waiting_tasks}
use Rattle.rd_queue.specs.Queues.{tasks_in_list, with_waiting}
use Rattle.rd_state.specs.declared.phase.Phase.{Phase}
use Rattle.rd_state.specs.declared.phase.Listed.{Listed}
use Rattle.rd_state.specs.declared.phase.Listed.TheVariants.{Queue, QueueSet, Group}
use Rattle.rd_app.specs.Application.{Application, code_of, instr_at, priorities_of}
use Rattle.rd_app.specs.declared.objects.QueueShape.{QueueShape}
use Rattle.rd_wait.specs.Joined.{IsInOrder}
use Rattle.rd_state.specs.Settled.{lineup_of}
use Rattle.rd_state.specs.Sizes.{IsSized}
use Rattle.rd_state.specs.Snapshot.{Snapshot, TaskSnapshot, no_task, task_at, with_objects, with_task}
use Rattle.rd_state.specs.Objects.{AreShaped, ObjectsSnapshot, capacity_of, no_group, no_queue, no_queue_set, numbers_in, shape_of, shapes_in}
use Rattle.rd_state.specs.declared.phase.Held.{Held}
use Rattle.rd_state.specs.declared.phase.Held.TheVariants.{Stream, Message}
use Rattle.rd_app.specs.declared.instr.Instr.{Instr}
use Rattle.rd_state.specs.Valid.{EntriesFitCall, HasTimeLeft, HoldersFitCall, HoldersFitScripts, IsValid, ListsInOrder, PhaseFitsCall, LinedUpOnce, WaitsInLists}
use Rattle.rd_state.specs.Valid.{times_to_run}
use Rattle.rd_state.specs.Valid.{times_in_list, times_waiting_in}
use Rattle.rd_state.specs.Waiting.{HasList, IsList, holder_in, list_kind, list_object, list_part}
use Rattle.rd_state.specs.Waiting.{objects_then, part_number, same_list, waiting_at, waiting_in}
use Rattle.rd_state.proofs.Offered.{Rescheduled}

-- What holds of a task by itself. What is asked of its deadline is a parameter: in the middle of a tick it holds of
-- some tasks alone.
pub record IsConsistentTask (app : Application) (D : ℕ → Phase → Type 0) (task : ℕ) (x : TaskSnapshot) : Type 0 where
  pub pc : x.pc < length (code_of app task)
  pub entry_count : length x.entries ≡ app.entries
  pub call : PhaseFitsCall x.phase (instr_at app task x.pc)
  pub deadline : D task x.phase
  pub entries : EntriesFitCall x.phase (instr_at app task x.pc) x.entries

pub record IsConsistent (app : Application) (D : ℕ → Phase → Type 0) (s : Snapshot) : Type 0 where
  pub cores : length s.cores ≡ app.cores
  pub tasks : length s.tasks ≡ length app.tasks
  pub each : (task : ℕ) → task < length s.tasks → IsConsistentTask app D task (task_at s task)
  pub shapes : AreShaped app s.objects
  pub lined_up_once : LinedUpOnce s
  pub waiting_lists : ListsInOrder (priorities_of app) s
  pub places : WaitsInLists s
  pub holders : HoldersFitScripts app s

-- The deadlines of all tasks that wait are ahead.
abbrev pub all_have_time_left : ℕ → ℕ → Phase → Type 0
all_have_time_left tick task phase = HasTimeLeft tick phase

pub IsConsistent-valid : (app : Application) (s : Snapshot) → IsValid app s → IsConsistent app (all_have_time_left s.tick) s
IsConsistent-valid app s valid = record {
  cores = valid.in_limits.cores;
  tasks = valid.in_limits.tasks;
  each = λ task h. record {
    pc = valid.in_limits.pcs task h;
    entry_count = All-get_or (λ (t : TaskSnapshot). length t.entries ≡ app.entries) s.tasks task no_task h valid.in_limits.entries;
    call = valid.calls task h;
    deadline = valid.deadlines task h;
    entries = valid.entries task h;
  };
  shapes = valid.in_limits.objects;
  lined_up_once = valid.lined_up_once;
  waiting_lists = valid.waiting_lists;
  places = valid.places;
  holders = valid.holders;
}

pub IsValid-consistent : (app : Application) (s : Snapshot) → IsConsistent app (all_have_time_left s.tick) s → IsSized s → IsValid app s
IsValid-consistent app s at sized = record {
  in_limits = record {
    sized = sized;
    cores = at.cores;
    tasks = at.tasks;
    pcs = λ task h. (at.each task h).pc;
    entries = All-from_get_or (λ (t : TaskSnapshot). length t.entries ≡ app.entries) s.tasks no_task (λ task h. (at.each task h).entry_count);
    objects = at.shapes;
  };
  lined_up_once = at.lined_up_once;
  waiting_lists = at.waiting_lists;
  places = at.places;
  calls = λ task h. (at.each task h).call;
  deadlines = λ task h. (at.each task h).deadline;
  entries = λ task h. (at.each task h).entries;
  holders = at.holders;
}

-- Something else is asked of deadlines, which each task's phase gives.
pub IsConsistent-deadlines : (app : Application) (D E : ℕ → Phase → Type 0) (s : Snapshot)
    → ((task : ℕ) → task < length s.tasks → D task (task_at s task).phase → E task (task_at s task).phase)
    → IsConsistent app D s → IsConsistent app E s
IsConsistent-deadlines app D E s gives at = record {
  cores = at.cores;
  tasks = at.tasks;
  each =
      λ task h. let was = at.each task h in
      record { pc = was.pc; entry_count = was.entry_count; call = was.call; deadline = gives task h was.deadline; entries = was.entries };
  shapes = at.shapes;
  lined_up_once = at.lined_up_once;
  waiting_lists = at.waiting_lists;
  places = at.places;
  holders = at.holders;
}

-- ---- who waits where, once a list was changed

-- what is read of a member of a list, once one of them was changed
pub read_changed : {A X : Type 0} (f : X → A) (xs : List X) (number other : ℕ) (now d : X) → number < length xs
    → f (get_or (set xs number now) other d) ≡ cond (nat_eq other number) (f now) (f (get_or xs other d))
read_changed f xs number other now d there = elim (cases_eq other number) [
  | inl e ↦ let same : nat_eq other number ≡ true = grind (arith, nat_tests, e) in
      ap (λ n. f (get_or (set xs number now) n d)) e ∙ ap f (get_or-set_same xs number now d there)
      ∙ sym (ap (λ b. cond b (f now) (f (get_or xs other d))) same)
  | inr ne ↦ let differs : nat_eq other number ≡ false = grind (arith, nat_tests, ne) in
      ap f (get_or-set_other xs number other now d ne) ∙ sym (ap (λ b. cond b (f now) (f (get_or xs other d))) differs)
]

-- of what the change left as it was
pub read_same : {A X : Type 0} (f : X → A) (xs : List X) (number other : ℕ) (now d : X) → number < length xs → f now ≡ f (get_or xs number d)
    → f (get_or (set xs number now) other d) ≡ f (get_or xs other d)
read_same f xs number other now d there same = elim (cases_eq other number) [
  | inl e ↦
      ap (λ n. f (get_or (set xs number now) n d)) e ∙ ap f (get_or-set_same xs number now d there) ∙ same ∙ sym (ap (λ n. f (get_or xs n d)) e)
  | inr ne ↦ ap f (get_or-set_other xs number other now d ne)
]

-- of all members
pub map_same : {A X : Type 0} (f : X → A) (xs : List X) (number : ℕ) (now d : X) → f now ≡ f (get_or xs number d) → map f (set xs number now) ≡ map f xs
map_same f [] number now d same = refl
map_same f (x ∷ xs) zero now d same = ap (λ y. y ∷ map f xs) same
map_same f (x ∷ xs) (suc number) now d same = ap (λ rest. f x ∷ rest) (map_same f xs number now d same)

-- a queue with other tasks in one of its lists
tasks_in_list-with : (list other : WaitingList) (tasks : List ℕ) (queue : QueueSnapshot)
    → tasks_in_list other (with_waiting list tasks queue) ≡ cond (nat_eq (part_number other) (part_number list)) tasks (tasks_in_list other queue)
tasks_in_list-with Receiving Receiving tasks queue = refl
tasks_in_list-with Receiving Sending tasks queue = refl
tasks_in_list-with Sending Receiving tasks queue = refl
tasks_in_list-with Sending Sending tasks queue = refl

-- of two tests, the second says whether the object is the one that was changed
pub by_number : {A : Type 0} (a b : Bool) (new old other : A) → (b ≡ true → old ≡ other) → cond b (cond a new old) other ≡ cond (a && b) new other
by_number true true new old other is = refl
by_number true false new old other is = refl
by_number false true new old other is = is refl
by_number false false new old other is = refl

pub same_number : (a b : ℕ) → nat_eq a b ≡ true → a ≡ b
same_number a b e = grind (arith, nat_tests, e)

-- Who waits in each list, once these wait in one: a row for each kind, and one for lists of two kinds.
pub waiting_then : (o : ObjectsSnapshot) (place other : Listed) (tasks : List ℕ) (wishes : List Wish) → IsList (numbers_in o) place
    → waiting_in (objects_then o place tasks wishes) other ≡ cond (same_list other place) tasks (waiting_in o other)
waiting_then o (Queue queue list) (Queue number other) tasks wishes there =
    let was = get_or o.queues queue no_queue in
    let old = tasks_in_list other (get_or o.queues number no_queue) in
    read_changed (tasks_in_list other) o.queues queue number (with_waiting list tasks was) no_queue there
    ∙ ap (λ m. cond (nat_eq number queue) m old) (tasks_in_list-with list other tasks was)
    ∙ by_number (nat_eq (part_number other) (part_number list)) (nat_eq number queue) tasks (tasks_in_list other was) old
    (λ e. ap (λ n. tasks_in_list other (get_or o.queues n no_queue)) (sym (same_number number queue e)))
waiting_then o (QueueSet queue_set) (QueueSet number) tasks wishes there =
    read_changed (λ (q : QueueSetSnapshot). q.waiting) o.queue_sets queue_set number (with_waiting_tasks (get_or o.queue_sets queue_set no_queue_set) tasks) no_queue_set there
waiting_then o (Group group) (Group number) tasks wishes there =
    read_changed (λ (g : GroupSnapshot). g.waiting) o.groups group number (with_waiters (get_or o.groups group no_group) tasks wishes) no_group there
waiting_then o place other tasks wishes there = refl

-- Objects that have changed in something else than their shapes, who waits where, and who is named.
pub record ContentsChange (o n : ObjectsSnapshot) : Type 0 where
  pub waiting : (place : Listed) → waiting_in n place ≡ waiting_in o place
  pub holders : (held : Held) → holder_in n held ≡ holder_in o held
  pub shapes : shapes_in n ≡ shapes_in o

-- Who waits where is none of an object's shape.
pub shapes_then : (o : ObjectsSnapshot) (place : Listed) (tasks : List ℕ) (wishes : List Wish) → shapes_in (objects_then o place tasks wishes) ≡ shapes_in o
shapes_then o (Queue queue list) tasks wishes =
    ap (λ (qs : List QueueShape). record (shapes_in o) { queues = qs }) (map_same shape_of o.queues queue (with_waiting list tasks (get_or o.queues queue no_queue)) no_queue refl)
shapes_then o (QueueSet queue_set) tasks wishes =
    ap (λ (rooms : List ℕ). record (shapes_in o) { queue_sets = rooms })
    (map_same capacity_of o.queue_sets queue_set (with_waiting_tasks (get_or o.queue_sets queue_set no_queue_set) tasks) no_queue_set refl)
shapes_then o (Group group) tasks wishes =
    ap (λ (count : ℕ). record (shapes_in o) { groups = count }) (length-set o.groups group (with_waiters (get_or o.groups group no_group) tasks wishes))

-- Nor is it whom a buffer's place names.
pub holders_then : (o : ObjectsSnapshot) (place : Listed) (tasks : List ℕ) (wishes : List Wish) (held : Held)
    → holder_in (objects_then o place tasks wishes) held ≡ holder_in o held
holders_then o (Queue queue list) tasks wishes (Stream stream side) = refl
holders_then o (Queue queue list) tasks wishes (Message message side) = refl
holders_then o (QueueSet queue_set) tasks wishes (Stream stream side) = refl
holders_then o (QueueSet queue_set) tasks wishes (Message message side) = refl
holders_then o (Group group) tasks wishes (Stream stream side) = refl
holders_then o (Group group) tasks wishes (Message message side) = refl

-- A list in which somebody waits is there.
pub place_there : (s : Snapshot) (place : Listed) (task : ℕ) → 1 ≤ times_in_list task (waiting_at s place) → HasList s place
place_there s (Queue queue Receiving) task some = elim (cases_lt queue (length s.objects.queues)) [
  | inl lt ↦ lt
  | inr ge ↦ absurd (omega (arith, some, ap (λ (q : QueueSnapshot). times_in_list task q.receiving) (get_or_past s.objects.queues queue no_queue ge)))
]
place_there s (Queue queue Sending) task some = elim (cases_lt queue (length s.objects.queues)) [
  | inl lt ↦ lt
  | inr ge ↦ absurd (omega (arith, some, ap (λ (q : QueueSnapshot). times_in_list task q.sending) (get_or_past s.objects.queues queue no_queue ge)))
]
place_there s (QueueSet queue_set) task some = elim (cases_lt queue_set (length s.objects.queue_sets)) [
  | inl lt ↦ lt
  | inr ge ↦ absurd (omega (arith, some, ap (λ (q : QueueSetSnapshot). times_in_list task q.waiting) (get_or_past s.objects.queue_sets queue_set no_queue_set ge)))
]
place_there s (Group group) task some = elim (cases_lt group (length s.objects.groups)) [
  | inl lt ↦ lt
  | inr ge ↦ absurd (omega (arith, some, ap (λ (g : GroupSnapshot). times_in_list task g.waiting) (get_or_past s.objects.groups group no_group ge)))
]

-- A list is known by its numbers.
abbrev part_from : ℕ → WaitingList
part_from zero = Receiving
part_from (suc list) = Sending

part_again : (list : WaitingList) → part_from (part_number list) ≡ list
part_again Receiving = refl
part_again Sending = refl

abbrev list_from : ℕ → ℕ → ℕ → Listed
list_from zero list number = Queue number (part_from list)
list_from (suc zero) list number = QueueSet number
list_from (suc (suc kind)) list number = Group number

list_again : (place : Listed) → list_from (list_kind place) (list_part place) (list_object place) ≡ place
list_again (Queue queue list) = ap (Queue queue) (part_again list)
list_again (QueueSet queue_set) = refl
list_again (Group group) = refl

pub both : (a b : Bool) → (a && b) ≡ true → (a ≡ true) × (b ≡ true)
both true b e = (refl, e)
both false b e = absurd (false≢true e)

pub same_list-is : (place other : Listed) → same_list place other ≡ true → place ≡ other
same_list-is place other e =
    let kinds = both (nat_eq (list_kind place) (list_kind other)) _ e in
    let rest = both (nat_eq (list_part place) (list_part other)) _ kinds.1 in
    sym (list_again place)
    ∙ ap (λ k. list_from k (list_part place) (list_object place)) (same_number (list_kind place) (list_kind other) kinds.0)
    ∙ ap (λ l. list_from (list_kind other) l (list_object place)) (same_number (list_part place) (list_part other) rest.0)
    ∙ ap (list_from (list_kind other) (list_part other)) (same_number (list_object place) (list_object other) rest.1)
    ∙ list_again other

pub same_list-self : (place : Listed) → same_list place place ≡ true
same_list-self place =
    let self : (n : ℕ) → nat_eq n n ≡ true = λ n. grind (arith, nat_tests) in
    ap (λ b. b && (nat_eq (list_part place) (list_part place) && nat_eq (list_object place) (list_object place))) (self (list_kind place))
    ∙ ap (λ b. b && nat_eq (list_object place) (list_object place)) (self (list_part place)) ∙ self (list_object place)

-- ---- the rules

-- what a task is that was replaced
pub task_now : (s : Snapshot) (task : ℕ) (x : TaskSnapshot) → task < length s.tasks → task_at (with_task s task x) task ≡ x
task_now s task x there = get_or-set_same s.tasks task x no_task there

-- the task that was changed, and each other one
pub task_or_other : (s p : Snapshot) (task : ℕ) (now : TaskSnapshot) (P : ℕ → TaskSnapshot → Type 0) → task < length s.tasks → p.tasks ≡ set s.tasks task now
    → P task now
    → ((t : ℕ) → t ≢ task → t < length s.tasks → P t (task_at s t)) → (t : ℕ) → t < length p.tasks → P t (task_at p t)
task_or_other s p task now P there e here other t h =
    let in_s : t < length s.tasks = omega (arith, h, ap length e, length-set s.tasks task now) in
    subst (λ (ts : List TaskSnapshot). P t (get_or ts t no_task)) (sym e)
    (elim (cases_eq t task) [
      | inl same ↦
          subst (λ n. P n (get_or (set s.tasks task now) n no_task)) (sym same) (subst (P task) (sym (get_or-set_same s.tasks task now no_task there)) here)
      | inr differs ↦ subst (P t) (sym (get_or-set_other s.tasks task t now no_task differs)) (other t differs in_s)
    ])

-- What a task's call says of places, of objects whose places name the same.
pub HoldersFitCall-objects : (o n : ObjectsSnapshot) (task : ℕ) (phase : Phase) (instr : Instr) → ((held : Held) → holder_in n held ≡ holder_in o held)
    → HoldersFitCall o task phase instr → HoldersFitCall n task phase instr
HoldersFitCall-objects o n task phase instr same fit = record {
  named = λ held is. fit.named held (sym (same held) ∙ is);
  names = λ held waits. same held ∙ fit.names held waits;
}

-- Objects change in something else than their shapes, who waits where, and who is named.
pub IsConsistent-contents : (app : Application) (D : ℕ → Phase → Type 0) (s : Snapshot) (n : ObjectsSnapshot) → ContentsChange s.objects n
    → IsConsistent app D s → IsConsistent app D (with_objects s n)
IsConsistent-contents app D s n change at = record {
  cores = at.cores;
  tasks = at.tasks;
  each = at.each;
  shapes = change.shapes ∙ at.shapes;
  lined_up_once = at.lined_up_once;
  waiting_lists = record {
    ready = at.waiting_lists.ready;
    waiting = λ place by. subst (IsInOrder (priorities_of app)) (sym (change.waiting place)) (at.waiting_lists.waiting place by);
  };
  places = λ place t h. ap (times_in_list t) (change.waiting place) ∙ at.places place t h;
  holders = λ t h. HoldersFitCall-objects s.objects n t (task_at s t).phase (instr_at app t (task_at s t).pc) change.holders (at.holders t h);
}

-- The line-up changes as scheduling changes it.
pub IsConsistent-rescheduled : (app : Application) (D : ℕ → Phase → Type 0) (s z : Snapshot) → Rescheduled (priorities_of app) (lineup_of s) (lineup_of z)
    → z.tasks ≡ s.tasks → z.objects ≡ s.objects → IsConsistent app D s → IsConsistent app D z
IsConsistent-rescheduled app D s z rescheduled tasks objects at =
    let is : (t : ℕ) → task_at z t ≡ task_at s t = λ t. ap (λ (ts : List TaskSnapshot). get_or ts t no_task) tasks in
    let in_s : (t : ℕ) → t < length z.tasks → t < length s.tasks = λ t h. omega (arith, h, ap length tasks) in
    record {
      cores = rescheduled.cores ∙ at.cores;
      tasks = ap length tasks ∙ at.tasks;
      each = λ t h. subst (IsConsistentTask app D t) (sym (is t)) (at.each t (in_s t h));
      shapes = subst (AreShaped app) (sym objects) at.shapes;
      lined_up_once = λ t h. rescheduled.lined_up t ∙ at.lined_up_once t (in_s t h) ∙ ap (λ (x : TaskSnapshot). times_to_run x.phase) (sym (is t));
      waiting_lists = record {
        ready = rescheduled.order at.waiting_lists.ready;
        waiting = λ place by. subst (λ o. IsInOrder (priorities_of app) (waiting_in o place)) (sym objects) (at.waiting_lists.waiting place by);
      };
      places =
          λ place t h. ap (λ o. times_in_list t (waiting_in o place)) objects ∙ at.places place t (in_s t h)
          ∙ ap (λ (x : TaskSnapshot). times_waiting_in place x.phase) (sym (is t));
      holders = λ t h. subst (λ o. HoldersFitCall o t (task_at z t).phase (instr_at app t (task_at z t).pc)) (sym objects)
          (subst (λ (x : TaskSnapshot). HoldersFitCall s.objects t x.phase (instr_at app t x.pc)) (sym (is t)) (at.holders t (in_s t h)));
    }
