-- Entries of tasks that are told and that wait, and what they keep of what makes a state valid.
use Rattle.rd_state.specs.declared.phase.Place.TheVariants as sort
use Rattle.std.specs.Prelude.{◌⊎◌}
use Rattle.std.proofs.Common.{◌+◌, ◌<◌, ◌∙◌, ◌∷◌, ◌≡◌, ◌≢◌, ◌≤◌, Bool, List, None, Option, Some, [], ap, arith, cond, false, get_or, inl, inr, length}
use Rattle.std.proofs.Common.{refl, set, subst, sym, true, ℕ}
use Rattle.std.specs.Prelude.{nat_eq}
use Rattle.std.proofs.lemmas.Bool.{cases_eq, cases_lt, false≢true}
use Rattle.std.proofs.lemmas.Bool.Decides.{nat_tests}
use Rattle.std.proofs.lemmas.List.{get_or-set_other, get_or-set_same, length-set, set-set, set_past}
use Rattle.rd_state.specs.declared.phase.Held.{Held}
use Rattle.rd_state.specs.declared.phase.Phase.{Phase}
use Rattle.rd_app.specs.Application.{Application, instr_at, priorities_of}
use Rattle.rd_state.specs.Snapshot.{Snapshot, TaskSnapshot, core_at, no_task, task_at, with_task}
use Rattle.rd_state.specs.Objects.{ObjectsSnapshot}
use Rattle.rd_state.specs.Valid.{EntriesFitCall, HoldersFitCall, entry_of_call, place_of_call, times_to_run, state_of_entry}
use Rattle.rd_state.specs.Waiting.{entry_of}
use Rattle.rd_state.proofs.Offered.{times_in_list-cons}
use Rattle.rd_state.specs.declared.phase.Place.{Place}
use Rattle.rd_state.specs.declared.phase.Phase.TheVariants.{Again, Failed, Run, Wait}
use Rattle.rd_state.specs.Phases.{can_run, waits_at}
use Rattle.rd_kernel.proofs.ConsistentLaws.{IsConsistent, read_same, task_now}
use Rattle.rd_kernel.proofs.TaskListLaws.{same_one}
use Rattle.std.specs.Option.{option_and_then}
use Rattle.rd_app.specs.declared.instr.Instr.{Instr}
use Rattle.rd_notify.specs.declared.entries.Entry.{Entry}
use Rattle.rd_notify.specs.declared.entries.EntryState.TheVariants.{Waiting}
use Rattle.rd_kernel.specs.Waking.{phase_woken, woken, woken_all, woken_at}
use Rattle.rd_kernel.proofs.MovingLaws.{IsConsistent-moves, IsConsistent-task_replaced, IsFree, ObjectsGo-stay, LineupGoes-off_core, true_if_one}
use Rattle.rd_kernel.proofs.MovingLaws.{none_is_some, runner_waits_nowhere, waits_nowhere}
use Rattle.rd_kernel.specs.declared.waking.Waking.TheVariants.{TriesAgain}
use Rattle.rd_kernel.specs.Outcomes.{concluded, returned, stopped}
use Rattle.rd_kernel.specs.Tasks.{HasEntry, entry_at, with_entry, with_phase, with_register}
use Rattle.rd_kernel.proofs.WakingLaws.{AfterWaking-woken_all, IsConsistent-woken_all, MayWakeAll, MayWakeIfWaiting, may_try_again, only_one}
use Rattle.rd_kernel.specs.Telling.{if_waiting_for, is_that_entry, told}
use Rattle.rd_notify.specs.Entries.{entry_waiting, idle_entry}
use Rattle.rd_notify.specs.declared.entries.EntryState.{EntryState}
use Rattle.rd_kernel.specs.declared.waking.Waking.{Waking}
use Rattle.rd_kernel.specs.declared.outcome.Outcome.TheVariants.{Fails, Returns, ReturnsBoth, Waits}
use Rattle.rd_kernel.specs.declared.outcome.Outcome.{Outcome}

-- An entry among others is waiting only if it was, and is where it must.
EntriesFitCall-set : (phase : Phase) (instr : Instr) (entries : List Entry) (index : ℕ) (entry : Entry) → index < length entries
    → (entry.state ≡ Waiting → state_of_entry entries index ≡ Waiting)
    → (option_and_then entry_of (waits_at phase) ≡ Some index → entry.state ≡ Waiting)
    → EntriesFitCall phase instr entries → EntriesFitCall phase instr (set entries index entry)
EntriesFitCall-set phase instr entries index entry there not_new still fit =
    let state : Entry → EntryState = λ e. e.state in
    let here : state_of_entry (set entries index entry) index ≡ entry.state = ap state (get_or-set_same entries index entry idle_entry there) in
    let other : (i : ℕ) → i ≢ index → state_of_entry (set entries index entry) i ≡ state_of_entry entries i =
    λ i differs. ap state (get_or-set_other entries index i entry idle_entry differs) in
    record {
      in_call = λ i waiting. elim (cases_eq i index) [
        | inl same ↦
            let waits_here : state_of_entry entries index ≡ Waiting =
            not_new (sym here ∙ ap (state_of_entry (set entries index entry)) (sym same) ∙ waiting) in
            fit.in_call i (ap (state_of_entry entries) same ∙ waits_here)
        | inr differs ↦ fit.in_call i (sym (other i differs) ∙ waiting)
      ];
      while_waiting = λ i waits. elim (cases_eq i index) [
        | inl same ↦ ap (state_of_entry (set entries index entry)) same ∙ here ∙ still (waits ∙ ap Some same)
        | inr differs ↦ other i differs ∙ fit.while_waiting i waits
      ];
    }

pub IsConsistent-with_entry : (app : Application) (D : ℕ → Phase → Type 0) (s : Snapshot) (task index : ℕ) (entry : Entry) → HasEntry s task index
    → (entry.state ≡ Waiting → (entry_at s task index).state ≡ Waiting)
    → (option_and_then entry_of (waits_at (task_at s task).phase) ≡ Some index → entry.state ≡ Waiting)
    → IsConsistent app D s → IsConsistent app D (with_entry s task index entry)
IsConsistent-with_entry app D s task index entry has not_new still at =
    let x = task_at s task in
    let was = at.each task has.0 in
    let entries = set x.entries index entry in
    IsConsistent-task_replaced app D s task (record x { entries = entries }) has.0
    (record {
      pc = was.pc;
      entry_count = length-set x.entries index entry ∙ was.entry_count;
      call = was.call;
      deadline = was.deadline;
      entries = EntriesFitCall-set x.phase (instr_at app task x.pc) x.entries index entry has.1 not_new still was.entries;
    }) refl (λ list. refl) (at.holders task has.0) at

-- An entry of each task is there, if one of any is.
has_entry : (app : Application) (D E : ℕ → Phase → Type 0) (s p : Snapshot) (task index : ℕ) → length p.tasks ≡ length s.tasks → IsConsistent app D s
    → IsConsistent app E p → HasEntry s task index → HasEntry p task index
has_entry app D E s p task index same at_s at_p has =
    let there : task < length p.tasks = omega (arith, has.0, same) in
    (there, omega (arith, has.1, (at_s.each task has.0).entry_count, (at_p.each task there).entry_count))

-- A task that waits elsewhere, or doesn't wait, isn't told.
pub not_that : (index : ℕ) (o : Option ℕ) → is_that_entry index o ≡ false → o ≡ Some index → ⊥
not_that index None other is = none_is_some index is
not_that index (Some found) other is =
    let same : found ≡ index = cc in
    let self : nat_eq found index ≡ true = grind (arith, nat_tests, same) in
    false≢true (sym other ∙ self)

-- A task is told.
pub IsConsistent-told : (app : Application) (D : ℕ → Phase → Type 0) (s : Snapshot) (task index : ℕ) (entry : Entry) → HasEntry s task index
    → entry.state ≢ Waiting → ((deadline : Option ℕ) → D task (Again deadline)) → IsConsistent app D s
    → IsConsistent app D (told (priorities_of app) s task index entry)
IsConsistent-told app D s task index entry has not_waiting asked at = by_waiting (is_that_entry index (option_and_then entry_of (waits_at (task_at s task).phase))) refl
  where
    by_waiting : (b : Bool) → is_that_entry index (option_and_then entry_of (waits_at (task_at s task).phase)) ≡ b
        → IsConsistent app D (with_entry (woken_all (priorities_of app) TriesAgain s (cond b (task ∷ []) [])) task index entry)
    by_waiting true waits =
        let tasks = task ∷ [] in
        let p = woken_all (priorities_of app) TriesAgain s tasks in
        let after = AfterWaking-woken_all (priorities_of app) TriesAgain s tasks in
        let may : MayWakeAll app D TriesAgain s tasks = record {
          there = λ t some. subst (λ n. n < length s.tasks) (sym (only_one task t some)) has.0;
          each = λ t some. subst (MayWakeIfWaiting app D TriesAgain s) (sym (only_one task t some)) (may_try_again app D s task has.0 asked at);
        } in
        let at_p = IsConsistent-woken_all app D TriesAgain s tasks may at in
        let nowhere = after.woken task (omega (arith, times_in_list-cons task task [], same_one task)) has.0 in
        IsConsistent-with_entry app D p task index entry (has_entry app D D s p task index after.same_length at at_p has)
        (λ waiting. absurd (not_waiting waiting)) (λ is. absurd (none_is_some index (sym (ap (option_and_then entry_of) nowhere) ∙ is))) at_p
    by_waiting false other =
        IsConsistent-with_entry app D s task index entry has (λ waiting. absurd (not_waiting waiting))
        (λ is. absurd (not_that index (option_and_then entry_of (waits_at (task_at s task).phase)) other is)) at

-- Whoever can run stands where it stood, whether it was told or another.
pub record StaysThere (s p : Snapshot) (task : ℕ) : Type 0 where
  pub same_length : length p.tasks ≡ length s.tasks
  pub pc : (task_at p task).pc ≡ (task_at s task).pc
  pub phase : (task_at p task).phase ≡ (task_at s task).phase

pub StaysThere-told : (priorities : List ℕ) (s : Snapshot) (caller task index : ℕ) (entry : Entry) → task < length s.tasks
    → 1 ≤ times_to_run (task_at s caller).phase → StaysThere s (told priorities s task index entry) caller
StaysThere-told priorities s caller task index entry there runs =
    let tasks = if_waiting_for s task index in
    let q = woken_all priorities TriesAgain s tasks in
    let after = AfterWaking-woken_all priorities TriesAgain s tasks in
    let phase = (task_at s caller).phase in
    let same = after.idle caller (runner_waits_nowhere phase (true_if_one (can_run phase) runs)) in
    let x = record (task_at q task) { entries = set (task_at q task).entries index entry } in
    let in_q : task < length q.tasks = omega (arith, there, after.same_length) in
    record {
      same_length = length-set q.tasks task x ∙ after.same_length;
      pc = read_same (λ (t : TaskSnapshot). t.pc) q.tasks task caller x no_task in_q refl ∙ ap (λ (t : TaskSnapshot). t.pc) same;
      phase = read_same (λ (t : TaskSnapshot). t.phase) q.tasks task caller x no_task in_q refl ∙ ap (λ (t : TaskSnapshot). t.phase) same;
    }

-- An entry of its own changes.
pub StaysThere-with_entry : (s : Snapshot) (task index : ℕ) (entry : Entry) → task < length s.tasks → StaysThere s (with_entry s task index entry) task
StaysThere-with_entry s task index entry there =
    let x = record (task_at s task) { entries = set (task_at s task).entries index entry } in
    let now = task_now s task x there in
    record { same_length = length-set s.tasks task x; pc = ap (λ (t : TaskSnapshot). t.pc) now; phase = ap (λ (t : TaskSnapshot). t.phase) now }

-- It leaves the tick.
pub told-tick : (priorities : List ℕ) (s : Snapshot) (task index : ℕ) (entry : Entry) → (told priorities s task index entry).tick ≡ s.tick
told-tick priorities s task index entry = (AfterWaking-woken_all priorities TriesAgain s (if_waiting_for s task index)).tick

-- An entry of its own is no place of a buffer.
entry_is_held : (index : ℕ) (held : Held) → Some (sort.Entry index) ≡ Some (sort.Held held) → ⊥
entry_is_held index held e = cc

-- A task waits for an entry of its own.
pub IsConsistent-waiting_for_entry : (app : Application) (D : ℕ → Phase → Type 0) (s : Snapshot) (core task index : ℕ) (entry : Entry) (deadline : Option ℕ)
    → HasEntry s task index → 1 ≤ times_to_run (task_at s task).phase → core < length s.cores → core_at s core ≡ Some task
    → place_of_call (instr_at app task (task_at s task).pc) ≡ Some (sort.Entry index) → IsFree s.objects task (task_at s task).entries
    → D task (Wait (sort.Entry index) deadline) → IsConsistent app D s
    → IsConsistent app D (stopped (with_entry s task index (entry_waiting entry)) core task (Wait (sort.Entry index) deadline))
IsConsistent-waiting_for_entry app D s core task index entry deadline has runs has_core e call free asked at =
    let was = at.each task has.0 in
    let x = task_at s task in
    let phase = Wait (sort.Entry index) deadline in
    let waiting = entry_waiting entry in
    let entries = set x.entries index waiting in
    let told_so = record x { entries = entries } in
    let now : TaskSnapshot = record x { entries = entries; phase = phase } in
    let p = stopped (with_entry s task index waiting) core task phase in
    let tasks : p.tasks ≡ set s.tasks task now =
    ap (λ (y : TaskSnapshot). set (set s.tasks task told_so) task (record y { phase = phase })) (task_now s task told_so has.0) ∙ set-set s.tasks task told_so now in
    let state : Entry → EntryState = λ e. e.state in
    let here : state_of_entry entries index ≡ Waiting = ap state (get_or-set_same x.entries index waiting idle_entry has.1) in
    let through : entry_of_call (instr_at app task x.pc) ≡ Some index = ap (option_and_then entry_of) call in
    IsConsistent-moves app D s p task now has.0 tasks
    (record {
      pc = was.pc;
      entry_count = length-set x.entries index waiting ∙ was.entry_count;
      call = call;
      deadline = asked;
      entries = record {
        in_call = λ i is. elim (cases_eq i index) [
          | inl same ↦ (through ∙ ap Some (sym same), refl)
          | inr differs ↦ absurd (free.idle i (sym (ap state (get_or-set_other x.entries index i waiting idle_entry differs)) ∙ is))
        ];
        while_waiting = λ i is. let same : index ≡ i = cc in ap (state_of_entry entries) (sym same) ∙ here;
      };
    })
    (record {
      named = λ held is. absurd (free.unnamed held is);
      names = λ held is. absurd (entry_is_held index held is);
    })
    (LineupGoes-off_core app D s core task phase has.0 runs has_core e refl at)
    (ObjectsGo-stay app D s task phase has.0 (λ list. sym (waits_nowhere list x.phase runs)) at) at

-- Once the entry through which its call waits was looked at, none is waiting.
pub idle_of_entry : (phase : Phase) (instr : Instr) (entries : List Entry) (index : ℕ) (entry : Entry) → index < length entries
    → entry_of_call instr ≡ Some index → entry.state ≢ Waiting → EntriesFitCall phase instr entries
    → (i : ℕ) → state_of_entry (set entries index entry) i ≢ Waiting
idle_of_entry phase instr entries index entry there through not_waiting fit i is =
    let state : Entry → EntryState = λ e. e.state in
    elim (cases_eq i index) [
      | inl same ↦ not_waiting (sym (ap state (get_or-set_same entries index entry idle_entry there)) ∙ ap (state_of_entry (set entries index entry)) (sym same) ∙ is)
      | inr differs ↦
          let was : state_of_entry entries i ≡ Waiting = sym (ap state (get_or-set_other entries index i entry idle_entry differs)) ∙ is in
          let found : Some index ≡ Some i = sym through ∙ (fit.in_call i was).0 in
          let same : i ≡ index = cc in
          differs same
    ]

-- Where that is an entry of its own, no place names the task.
pub free_of_entry : (o : ObjectsSnapshot) (task : ℕ) (phase : Phase) (instr : Instr) (entries : List Entry) (index : ℕ) (entry : Entry) → index < length entries
    → place_of_call instr ≡ Some (sort.Entry index) → entry.state ≢ Waiting → EntriesFitCall phase instr entries → HoldersFitCall o task phase instr
    → IsFree o task (set entries index entry)
free_of_entry o task phase instr entries index entry there at_entry not_waiting fit places = record {
  idle = idle_of_entry phase instr entries index entry there (ap (option_and_then entry_of) at_entry) not_waiting fit;
  unnamed = λ held is. entry_is_held index held (sym at_entry ∙ (places.named held is).0);
}

-- ---- what leaves tasks as they are, but for their phases

-- What is read of each task is what it was.
abbrev pub EachStays : {A : Type 0} → (TaskSnapshot → A) → Snapshot → Snapshot → Type 0
EachStays f s p = (t : ℕ) → f (task_at p t) ≡ f (task_at s t)

pub EachStays-task : {A : Type 0} (f : TaskSnapshot → A) (s : Snapshot) (task : ℕ) (x : TaskSnapshot) → f x ≡ f (task_at s task)
    → EachStays f s (with_task s task x)
EachStays-task f s task x same t = elim (cases_lt task (length s.tasks)) [
  | inl there ↦ read_same f s.tasks task t x no_task there same
  | inr past ↦ ap (λ (ts : List TaskSnapshot). f (get_or ts t no_task)) (set_past s.tasks task x past)
]

-- It is none of the phase.
abbrev pub IgnoresPhase : {A : Type 0} → (TaskSnapshot → A) → Type 0
IgnoresPhase f = (x : TaskSnapshot) (phase : Phase) → f (record x { phase = phase }) ≡ f x

EachStays-woken_at : {A : Type 0} (f : TaskSnapshot → A) → IgnoresPhase f → (priorities : List ℕ) (waking : Waking) (s : Snapshot) (task : ℕ) (o : Option Place)
    → EachStays f s (woken_at priorities waking s task o)
EachStays-woken_at f ignores priorities waking s task None t = refl
EachStays-woken_at f ignores priorities waking s task (Some place) t =
    let phase = phase_woken waking (task_at s task).phase in
    EachStays-task f s task (record (task_at s task) { phase = phase }) (ignores (task_at s task) phase) t

pub EachStays-woken_all : {A : Type 0} (f : TaskSnapshot → A) → IgnoresPhase f → (priorities : List ℕ) (waking : Waking) (s : Snapshot) (tasks : List ℕ)
    → EachStays f s (woken_all priorities waking s tasks)
EachStays-woken_all f ignores priorities waking s [] t = refl
EachStays-woken_all f ignores priorities waking s (first ∷ rest) t =
    EachStays-woken_all f ignores priorities waking (woken priorities waking s first) rest t
    ∙ EachStays-woken_at f ignores priorities waking s first (waits_at (task_at s first).phase) t

abbrev pub EntriesStay : Snapshot → Snapshot → Type 0
EntriesStay s p = EachStays (λ (x : TaskSnapshot). x.entries) s p

pub EntriesStay-task : (s : Snapshot) (task : ℕ) (x : TaskSnapshot) → x.entries ≡ (task_at s task).entries → EntriesStay s (with_task s task x)
EntriesStay-task s task x same = EachStays-task (λ (y : TaskSnapshot). y.entries) s task x same

pub EntriesStay-woken_all : (priorities : List ℕ) (waking : Waking) (s : Snapshot) (tasks : List ℕ) → EntriesStay s (woken_all priorities waking s tasks)
EntriesStay-woken_all priorities waking s tasks = EachStays-woken_all (λ (y : TaskSnapshot). y.entries) (λ x phase. refl) priorities waking s tasks

EntriesStay-returned : (s : Snapshot) (task value : ℕ) → EntriesStay s (returned s task value)
EntriesStay-returned s task value t =
    let one = with_register s task 0 value in
    let two = with_phase one task Run in
    EntriesStay-task two task (record (task_at two task) { pc = (task_at s task).pc + 1 }) refl t
    ∙ EntriesStay-task one task (record (task_at one task) { phase = Run }) refl t
    ∙ EntriesStay-task s task (record (task_at s task) { registers = set (task_at s task).registers 0 value }) refl t

-- what becomes of a caller
pub EntriesStay-concluded : (s : Snapshot) (outcome : Outcome) (core task : ℕ)
    → EntriesStay s (concluded (record { state = s; outcome = outcome }) core task)
EntriesStay-concluded s (Returns value) core task t = EntriesStay-returned s task value t
EntriesStay-concluded s (ReturnsBoth value second) core task t =
    EntriesStay-returned (with_register s task 1 second) task value t
    ∙ EntriesStay-task s task (record (task_at s task) { registers = set (task_at s task).registers 1 second }) refl t
EntriesStay-concluded s (Waits place deadline) core task t =
    EntriesStay-task s task (record (task_at s task) { phase = Wait place deadline }) refl t
EntriesStay-concluded s (Fails cause) core task t = EntriesStay-task s task (record (task_at s task) { phase = Failed cause }) refl t

-- What holds of an entry, once one was changed: of the one that it was changed to, or of what it was.
pub entry_after : (s : Snapshot) (task i target index : ℕ) (entry : Entry) (P : Entry → Type 0) → (task ≡ target → i ≡ index → P entry)
    → P (entry_at s target index) → P (entry_at (with_entry s task i entry) target index)
entry_after s task i target index entry P here was = elim (cases_eq target task) [
  | inl same ↦ elim (cases_lt task (length s.tasks)) [
    | inl there ↦
        let x = record (task_at s task) { entries = set (task_at s task).entries i entry } in
        let now : task_at (with_entry s task i entry) target ≡ x = ap (task_at (with_entry s task i entry)) same ∙ task_now s task x there in
        subst (λ (t : TaskSnapshot). P (get_or t.entries index idle_entry)) (sym now) (in_task same (cases_eq index i))
    | inr past ↦ subst (λ (ts : List TaskSnapshot). P (get_or (get_or ts target no_task).entries index idle_entry))
        (sym (set_past s.tasks task (record (task_at s task) { entries = set (task_at s task).entries i entry }) past)) was
  ]
  | inr differs ↦ subst (λ (t : TaskSnapshot). P (get_or t.entries index idle_entry))
      (sym (get_or-set_other s.tasks task target (record (task_at s task) { entries = set (task_at s task).entries i entry }) no_task differs)) was
]
  where
    entries : List Entry
    entries = (task_at s task).entries

    old : target ≡ task → P (get_or (task_at s task).entries index idle_entry)
    old same = subst (λ n. P (get_or (task_at s n).entries index idle_entry)) same was

    in_task : target ≡ task → (index ≡ i) ⊎ (index ≢ i) → P (get_or (set (task_at s task).entries i entry) index idle_entry)
    in_task same (inr differs) = subst P (sym (get_or-set_other (task_at s task).entries i index entry idle_entry differs)) (old same)
    in_task same (inl is) = elim (cases_lt i (length (task_at s task).entries)) [
      | inl there ↦ subst P
          (sym (ap (λ n. get_or (set (task_at s task).entries i entry) n idle_entry) is ∙ get_or-set_same (task_at s task).entries i entry idle_entry there))
          (here (sym same) (sym is))
      | inr past ↦ subst (λ (es : List Entry). P (get_or es index idle_entry)) (sym (set_past (task_at s task).entries i entry past)) (old same)
    ]
