-- The steps of a call of a buffer, and what each of them leaves as it was: instructions, the tick, entries that have received, and
-- what objects have besides.
use Rattle.std.proofs.Common.{◌∙◌, ◌≡◌, Bool, List, None, Option, Some, ap, arith, cond, false, length, refl, set, true, ℕ}
use Rattle.std.proofs.lemmas.List.{length-set}
use Rattle.rd_app.specs.declared.instr.Operand.{Operand}
use Rattle.rd_notify.specs.Entries.{entry_idle, entry_notified, entry_waiting, idle_entry}
use Rattle.std.specs.Prelude.{slice_index_or}
use Rattle.rd_notify.specs.declared.action.Action.TheVariants.{LeaveValue}
use Rattle.rd_notify.specs.declared.entries.Entry.{Entry}
use Rattle.rd_notify.specs.declared.entries.EntryState.TheVariants.{Received}
use Rattle.rd_state.specs.declared.phase.Held.{Held}
use Rattle.rd_state.specs.Objects.{ObjectsSnapshot}
use Rattle.rd_state.specs.Phases.{tries_again}
use Rattle.rd_state.specs.Snapshot.{Snapshot, TaskSnapshot, task_at, with_task}
use Rattle.rd_state.specs.Waiting.{holder_at, objects_naming, with_holder}
use Rattle.rd_kernel.specs.Holding.{CanComplete, come_back, completed, completed_for, is_named, name_gone, waits_held, waits_where}
use Rattle.rd_kernel.specs.Tasks.{entry_at, with_entry}
use Rattle.rd_kernel.specs.Telling.{if_waiting_for}
use Rattle.rd_kernel.specs.Waking.{woken_all}
use Rattle.rd_kernel.specs.declared.waking.Waking.TheVariants.{TriesAgain}
use Rattle.rd_kernel.proofs.EntryLaws.{EachStays, EachStays-task, EachStays-woken_all, EntriesStay-woken_all, entry_after}
use Rattle.rd_kernel.proofs.WakingLaws.{AfterWaking-woken_all}

-- ---- instructions

abbrev pub PcsStay : Snapshot → Snapshot → Type 0
PcsStay s p = EachStays (λ (x : TaskSnapshot). x.pc) s p

pub PcsStay-come_back : (s : Snapshot) (task : ℕ) (held : Held) → PcsStay s (come_back s task held)
PcsStay-come_back s task held t =
    elim (tries_again (task_at s task).phase) as (λ b.
    (task_at (cond b (with_entry (name_gone s held task) task 0 (entry_idle (entry_at s task 0))) s) t).pc ≡ (task_at s t).pc) [
      | true ↦ after (is_named task (holder_at s held))
      | false ↦ refl
    ]
  where
    after : (b : Bool) → (task_at (with_entry (cond b (with_holder s held None) s) task 0 (entry_idle (entry_at s task 0))) t).pc ≡ (task_at s t).pc
    after true =
        let p = with_holder s held None in
        EachStays-task (λ (x : TaskSnapshot). x.pc) p task (record (task_at p task) { entries = set (task_at p task).entries 0 (entry_idle (entry_at s task 0)) }) refl t
    after false =
        EachStays-task (λ (x : TaskSnapshot). x.pc) s task (record (task_at s task) { entries = set (task_at s task).entries 0 (entry_idle (entry_at s task 0)) }) refl t

pub PcsStay-waits_held : (s : Snapshot) (task : ℕ) (held : Held) (wait : Operand) → PcsStay s (waits_held s task held wait).state
PcsStay-waits_held s task held wait t = by_name (holder_at s held)
  where
    by_name : (o : Option ℕ) → (task_at (waits_where o s task held wait).state t).pc ≡ (task_at s t).pc
    by_name None =
        let p = with_holder s held (Some task) in
        EachStays-task (λ (x : TaskSnapshot). x.pc) p task
        (record (task_at p task) { entries = set (task_at p task).entries 0 (entry_waiting (entry_at s task 0)) }) refl t
    by_name (Some other) = refl

pub PcsStay-completed : (priorities : List ℕ) (s : Snapshot) (held : Held) → PcsStay s (completed priorities s held)
PcsStay-completed priorities s held t = by_name (holder_at s held)
  where
    by_name : (o : Option ℕ) → (task_at (completed_for o priorities s held) t).pc ≡ (task_at s t).pc
    by_name None = refl
    by_name (Some task) =
        let tasks = if_waiting_for s task 0 in
        let w = woken_all priorities TriesAgain s tasks in
        let entry = entry_notified LeaveValue 0 (entry_at s task 0) in
        EachStays-task (λ (x : TaskSnapshot). x.pc) w task (record (task_at w task) { entries = set (task_at w task).entries 0 entry }) refl t
        ∙ EachStays-woken_all (λ (x : TaskSnapshot). x.pc) (λ x phase. refl) priorities TriesAgain s tasks t

-- whether a wait can be completed then
pub CanComplete-task : (s : Snapshot) (task : ℕ) (x : TaskSnapshot) → length x.entries ≡ length (task_at s task).entries → CanComplete s
    → CanComplete (with_task s task x)
CanComplete-task s task x same can = record {
  room = omega (arith, can.room, length-set s.tasks task x);
  entries = λ t there.
      let few = EachStays-task (λ (y : TaskSnapshot). length y.entries) s task x same t in
      omega (arith, few, can.entries t (omega (arith, there, length-set s.tasks task x)));
}

pub CanComplete-with_entry : (s : Snapshot) (task index : ℕ) (entry : Entry) → CanComplete s → CanComplete (with_entry s task index entry)
CanComplete-with_entry s task index entry can =
    let x = task_at s task in
    CanComplete-task s task (record x { entries = set x.entries index entry }) (length-set x.entries index entry) can

pub CanComplete-come_back : (s : Snapshot) (task : ℕ) (held : Held) → CanComplete s → CanComplete (come_back s task held)
CanComplete-come_back s task held can =
    elim (tries_again (task_at s task).phase) as (λ b. CanComplete (cond b (with_entry (name_gone s held task) task 0 (entry_idle (entry_at s task 0))) s)) [
      | true ↦ CanComplete-with_entry (name_gone s held task) task 0 (entry_idle (entry_at s task 0)) (gone (is_named task (holder_at s held)))
      | false ↦ can
    ]
  where
    gone : (b : Bool) → CanComplete (cond b (with_holder s held None) s)
    gone true = record { room = can.room; entries = can.entries }
    gone false = can

-- ---- the tick

pub come_back-tick : (s : Snapshot) (task : ℕ) (held : Held) → (come_back s task held).tick ≡ s.tick
come_back-tick s task held =
    elim (tries_again (task_at s task).phase) as (λ b. (cond b (with_entry (name_gone s held task) task 0 (entry_idle (entry_at s task 0))) s).tick ≡ s.tick) [
      | true ↦ gone (is_named task (holder_at s held))
      | false ↦ refl
    ]
  where
    gone : (b : Bool) → (cond b (with_holder s held None) s).tick ≡ s.tick
    gone true = refl
    gone false = refl

pub waits_held-tick : (s : Snapshot) (task : ℕ) (held : Held) (wait : Operand) → (waits_held s task held wait).state.tick ≡ s.tick
waits_held-tick s task held wait = by_name (holder_at s held)
  where
    by_name : (o : Option ℕ) → (waits_where o s task held wait).state.tick ≡ s.tick
    by_name None = refl
    by_name (Some other) = refl

pub completed-tick : (priorities : List ℕ) (s : Snapshot) (held : Held) → (completed priorities s held).tick ≡ s.tick
completed-tick priorities s held = by_name (holder_at s held)
  where
    by_name : (o : Option ℕ) → (completed_for o priorities s held).tick ≡ s.tick
    by_name None = refl
    by_name (Some task) = (AfterWaking-woken_all priorities TriesAgain s (if_waiting_for s task 0)).tick

-- ---- what objects have besides

-- What is read of objects is none of whom a place names, nor of who waits in lists.
pub record IsBeside {A : Type 0} (f : ObjectsSnapshot → A) (priorities : List ℕ) : Type 0 where
  pub naming : (o : ObjectsSnapshot) (held : Held) (who : Option ℕ) → f (objects_naming o held who) ≡ f o
  pub waking : (s : Snapshot) (tasks : List ℕ) → f (woken_all priorities TriesAgain s tasks).objects ≡ f s.objects

pub come_back-beside : {A : Type 0} (f : ObjectsSnapshot → A) (priorities : List ℕ) (s : Snapshot) (task : ℕ) (held : Held) → IsBeside f priorities
    → f (come_back s task held).objects ≡ f s.objects
come_back-beside f priorities s task held beside =
    elim (tries_again (task_at s task).phase) as (λ b. f (cond b (with_entry (name_gone s held task) task 0 (entry_idle (entry_at s task 0))) s).objects ≡ f s.objects) [
      | true ↦ gone (is_named task (holder_at s held))
      | false ↦ refl
    ]
  where
    gone : (b : Bool) → f (cond b (with_holder s held None) s).objects ≡ f s.objects
    gone true = beside.naming s.objects held None
    gone false = refl

pub waits_held-beside : {A : Type 0} (f : ObjectsSnapshot → A) (priorities : List ℕ) (s : Snapshot) (task : ℕ) (held : Held) (wait : Operand) → IsBeside f priorities
    → f (waits_held s task held wait).state.objects ≡ f s.objects
waits_held-beside f priorities s task held wait beside = by_name (holder_at s held)
  where
    by_name : (o : Option ℕ) → f (waits_where o s task held wait).state.objects ≡ f s.objects
    by_name None = beside.naming s.objects held (Some task)
    by_name (Some other) = refl

pub completed-beside : {A : Type 0} (f : ObjectsSnapshot → A) (priorities : List ℕ) (s : Snapshot) (held : Held) → IsBeside f priorities
    → f (completed priorities s held).objects ≡ f s.objects
completed-beside f priorities s held beside = by_name (holder_at s held)
  where
    by_name : (o : Option ℕ) → f (completed_for o priorities s held).objects ≡ f s.objects
    by_name None = refl
    by_name (Some task) =
        let tasks = if_waiting_for s task 0 in
        beside.naming (woken_all priorities TriesAgain s tasks).objects held None ∙ beside.waking s tasks

-- ---- entries that have received

abbrev pub HasReceived : Snapshot → ℕ → ℕ → Type 0
HasReceived s target index = (entry_at s target index).state ≡ Received

-- An entry that isn't the first of the task stays as it was.
pub HasReceived-come_back : (s : Snapshot) (task target index : ℕ) (held : Held) → (task ≡ target → 0 ≡ index → ⊥) → HasReceived s target index
    → HasReceived (come_back s task held) target index
HasReceived-come_back s task target index held other has =
    elim (tries_again (task_at s task).phase) as (λ b. HasReceived (cond b (with_entry (name_gone s held task) task 0 (entry_idle (entry_at s task 0))) s) target index) [
      | true ↦ gone (is_named task (holder_at s held))
      | false ↦ has
    ]
  where
    gone : (b : Bool) → HasReceived (with_entry (cond b (with_holder s held None) s) task 0 (entry_idle (entry_at s task 0))) target index
    gone true =
        entry_after (with_holder s held None) task 0 target index (entry_idle (entry_at s task 0)) (λ (e : Entry). e.state ≡ Received)
        (λ same first. absurd (other same first)) has
    gone false =
        entry_after s task 0 target index (entry_idle (entry_at s task 0)) (λ (e : Entry). e.state ≡ Received) (λ same first. absurd (other same first)) has

pub HasReceived-waits_held : (s : Snapshot) (task target index : ℕ) (held : Held) (wait : Operand) → (task ≡ target → 0 ≡ index → ⊥) → HasReceived s target index
    → HasReceived (waits_held s task held wait).state target index
HasReceived-waits_held s task target index held wait other has = by_name (holder_at s held)
  where
    by_name : (o : Option ℕ) → HasReceived (waits_where o s task held wait).state target index
    by_name None =
        entry_after (with_holder s held (Some task)) task 0 target index (entry_waiting (entry_at s task 0)) (λ (e : Entry). e.state ≡ Received)
        (λ same first. absurd (other same first)) has
    by_name (Some another) = has

pub HasReceived-completed : (priorities : List ℕ) (s : Snapshot) (held : Held) (target index : ℕ) → HasReceived s target index
    → HasReceived (completed priorities s held) target index
HasReceived-completed priorities s held target index has = by_name (holder_at s held)
  where
    by_name : (o : Option ℕ) → HasReceived (completed_for o priorities s held) target index
    by_name None = has
    by_name (Some task) =
        let tasks = if_waiting_for s task 0 in
        let w = woken_all priorities TriesAgain s tasks in
        entry_after w task 0 target index (entry_notified LeaveValue 0 (entry_at s task 0)) (λ (e : Entry). e.state ≡ Received) (λ same first. refl)
        (ap (λ (entries : List Entry). (slice_index_or entries index idle_entry).state) (EntriesStay-woken_all priorities TriesAgain s tasks target) ∙ has)
