-- What is proved of each move that carries its operands, with a row for each.
use Rattle.std.proofs.Common.{◌≡◌, ◌≢◌, ◌∙◌, ◌≤◌, ◌+◌, ◌*◌, ℕ, Bool, true, false, cond, None, Some, Option, ap, length, refl, set, subst, sym, arith, List}
use Rattle.std.specs.Prelude.{Result, Ok, Err, OnErr, OnOk, nat_eq}
use Rattle.std.proofs.lemmas.Bool.{false≢true}
use Rattle.std.proofs.lemmas.Bool.Decides.{nat_tests}
use Rattle.rd_app.specs.Application.{Application, IsApplication, priorities_of}
use Rattle.rd_app.specs.Profiles.{has_interrupts}
use Rattle.rd_notify.specs.declared.entries.EntryState.TheVariants.{Received}
use Rattle.rd_refusal.specs.declared.refusal.Refusal.{Refusal}
use Rattle.rd_refusal.specs.declared.refusal.Refusal.TheVariants.{BadEdit, NoIsr, NoMemory}
use Rattle.rd_state.specs.declared.phase.Held.{Held}
use Rattle.rd_state.specs.Change.{Change}
use Rattle.rd_state.specs.EditingView.{Outset, EditingView, GivesUp, Reaches}
use Rattle.rd_state.specs.Settled.{IsSettled}
use Rattle.rd_state.specs.Sizes.{IsSized}
use Rattle.rd_state.specs.Snapshot.{Snapshot, task_at}
use Rattle.rd_state.specs.Valid.{IsValid}
use Rattle.rd_kernel.specs.Tasks.{entry_at}
use Rattle.rd_kernel.proofs.Offered.{IsSleeper, Sleeps, Sleeps-other, Sleeps-with_entry}
use Rattle.rd_queue_calls.specs.QueueSetLaws.{handles_in}
use Rattle.rd_moves.specs.Carried.{IsCarriedOf, PlainCarried}
use Rattle.rd_moves.specs.Edits.{IsEditOf, PlainEdit}
use Rattle.rd_moves.specs.Interrupts.{IsInterruptOf, PlainInterrupt}
use Rattle.rd_moves.specs.declared.carried.Carried.TheVariants.{Edit, Interrupt}
use Rattle.rd_moves.specs.declared.edit.Edit.TheVariants as edit
use Rattle.rd_moves.specs.Moves.{PlainMove}
use Rattle.rd_moves.specs.declared.moves.Move.TheVariants.{Carried, Core, Tick}
use Rattle.rd_edits.specs.Edits.{edit_cost, edited, is_good_edit}
use Rattle.rd_interrupts.specs.Interrupts.{after_interrupt, interrupt_cost}
use Rattle.rd_interrupts.proofs.Offered.{IsSettled-interrupt, IsValid-interrupt, interrupt-handles, interrupt-received, interrupt-sleeps}
use Rattle.rd_edits.proofs.Offered.{IsValid-edited, edited-entry_state, edited-handles, edited-settled}
use Rattle.rd_calls.specs.Carried.{CarriedLeavesSettled, carried_cost, carried_disturbs, carried_out, edits_task, handles_carried, step_of_carried, unless_refused}
use Rattle.rd_calls.specs.Carried.{why_refused}
use Rattle.rd_calls.specs.Step.{CanPlay, IsPlayed, LeavesSettled}
use Rattle.rd_calls.proofs.PlayLaws.{Leads, most_is_few}

-- ---- when it is refused

-- What was carried out gives the state after it.
made_by : (o : Option Refusal) (after s' : Snapshot) → unless_refused after o ≡ Ok s' → s' ≡ after
made_by None after s' made = cc
made_by (Some refusal) after s' none = cc

pub carried_out-is : (app : Application) (s s' : Snapshot) (carried : PlainCarried) → step_of_carried app s carried ≡ Ok s' → s' ≡ carried_out app s carried
carried_out-is app s s' carried made = made_by (why_refused app s carried) (carried_out app s carried) s' made

-- The rules never speak of memory.
never_if : (can : Bool) (refusal : Refusal) → refusal ≢ NoMemory → cond can None (Some refusal) ≢ Some NoMemory
never_if true refusal other is = grind (arith, is)
never_if false refusal other is = other (grind (arith, is))

never_why : (app : Application) (s : Snapshot) (carried : PlainCarried) → why_refused app s carried ≢ Some NoMemory
never_why app s (Edit edit) is = never_if (is_good_edit app s edit) BadEdit (λ same. grind (arith, same)) is
never_why app s (Interrupt interrupt) is = never_if (has_interrupts app.profile) NoIsr (λ same. grind (arith, same)) is

never_by : (o : Option Refusal) (after : Snapshot) → o ≢ Some NoMemory → unless_refused after o ≢ Err NoMemory
never_by None after other is = grind (arith, is)
never_by (Some refusal) after other is = other (grind (arith, is))

pub carried-no_memory : (app : Application) (s : Snapshot) (carried : PlainCarried) → step_of_carried app s carried ≢ Err NoMemory
carried-no_memory app s carried is = never_by (why_refused app s carried) (carried_out app s carried) (never_why app s carried) is

-- An interrupt is refused for the profile alone, and always then.
refused_if : (b : Bool) (after : Snapshot) (refusal : Refusal) → unless_refused after (cond b None (Some NoIsr)) ≡ Err refusal → (refusal ≡ NoIsr) × (b ≡ false)
refused_if true after refusal is = absurd cc
refused_if false after refusal is = (cc, refl)

pub interrupt-refused : (app : Application) (s : Snapshot) (interrupt : PlainInterrupt) (refusal : Refusal)
    → step_of_carried app s (Interrupt interrupt) ≡ Err refusal → (refusal ≡ NoIsr) × (has_interrupts app.profile ≡ false)
interrupt-refused app s interrupt refusal is =
    refused_if (has_interrupts app.profile) (after_interrupt (priorities_of app) s interrupt) refusal is

pub interrupt-no_isr : (app : Application) (s : Snapshot) (interrupt : PlainInterrupt) → has_interrupts app.profile ≡ false
    → step_of_carried app s (Interrupt interrupt) ≡ Err NoIsr
interrupt-no_isr app s interrupt none = ap (λ b. unless_refused (after_interrupt (priorities_of app) s interrupt) (cond b None (Some NoIsr))) none

-- ---- where it leads

edit_cost_few : (edit : PlainEdit) → edit_cost edit ≤ 300
edit_cost_few (edit.Register task register value) = omega arith
edit_cost_few (edit.Data task bytes) = omega arith
edit_cost_few (edit.Pc task pc) = omega arith
edit_cost_few (edit.Value task index value) = omega arith
edit_cost_few (edit.Bits group bits) = omega arith
edit_cost_few (edit.Item queue index bytes) = omega arith
edit_cost_few (edit.Byte stream index value) = omega arith

good_if : (is_good : Bool) → cond is_good None (Some BadEdit) ≡ None → is_good ≡ true
good_if true is = refl
good_if false is = grind (arith, is)

Leads-edit : (app : Application) (s : Snapshot) (edit : PlainEdit) → IsValid app s → IsEditOf app edit → why_refused app s (Edit edit) ≡ None
    → Leads app s (Carried (Edit edit)) (edited s edit) (edit_cost edit)
Leads-edit app s edit valid named good =
    let is_good = good_if (is_good_edit app s edit) good in
    record {
      step = rw is_good refl;
      few = omega (arith, edit_cost_few edit);
      most_few = most_is_few app s (Carried (Edit edit)) valid.in_limits.sized;
      valid = λ s' is sized. subst (λ (t : Snapshot). IsSized t → IsValid app t) (sym is) (IsValid-edited app s edit valid named is_good) sized;
      settled = λ s' is before. subst (IsSettled (priorities_of app)) (sym is) (edited-settled (priorities_of app) s edit before);
    }

Leads-interrupt : (app : Application) (s : Snapshot) (interrupt : PlainInterrupt) → IsApplication app → IsValid app s → IsInterruptOf app interrupt
    → why_refused app s (Interrupt interrupt) ≡ None
    → Leads app s (Carried (Interrupt interrupt)) (after_interrupt (priorities_of app) s interrupt) (interrupt_cost + 3 * length s.cores)
Leads-interrupt app s interrupt limits valid named good = record {
  step = ap (unless_refused (after_interrupt (priorities_of app) s interrupt)) good;
  few = omega arith;
  most_few = most_is_few app s (Carried (Interrupt interrupt)) valid.in_limits.sized;
  valid = λ s' is sized. IsValid-interrupt app s s' interrupt limits valid named is sized;
  settled = λ s' is. IsSettled-interrupt app s s' interrupt limits valid named is;
}

pub Leads-carried : (app : Application) (s : Snapshot) (carried : PlainCarried) → IsApplication app → IsValid app s → IsCarriedOf app carried
    → why_refused app s carried ≡ None → Leads app s (Carried carried) (carried_out app s carried) (carried_cost app s carried)
Leads-carried app s (Edit edit) limits valid named good = Leads-edit app s edit valid named good
Leads-carried app s (Interrupt interrupt) limits valid named good = Leads-interrupt app s interrupt limits valid named good

-- Nothing is left to schedule after it, where nothing was before.
pub carried-settled : (app : Application) (s : Snapshot) (carried : PlainCarried) (s' : Snapshot) → IsSettled (priorities_of app) s
    → CarriedLeavesSettled app s carried s' → IsSettled (priorities_of app) s'
carried-settled app s (Edit edit) s' before leaves = leaves before
carried-settled app s (Interrupt interrupt) s' before leaves = leaves

-- whichever move it is
settled-after : (app : Application) (s : Snapshot) (move : PlainMove) (s' : Snapshot) → IsSettled (priorities_of app) s → LeavesSettled app s move s'
    → IsSettled (priorities_of app) s'
settled-after app s (Core core) s' before leaves = leaves
settled-after app s Tick s' before leaves = leaves
settled-after app s (Carried carried) s' before leaves = carried-settled app s carried s' before leaves

-- A move that was made, or that gave up, began where it began.
outset-from : {T E : Type 0} (r : Result T E) (target : Snapshot) (cost : ℕ) (begun made : EditingView) → OnOk r (Reaches begun made target cost)
    → OnErr r (GivesUp begun made cost) → made.outset ≡ begun.outset
outset-from r target cost begun made =
    elim r as (λ q. OnOk q (Reaches begun made target cost) → OnErr q (GivesUp begun made cost) → made.outset ≡ begun.outset)
    [ Ok x ↦ λ f g. f.outset | Err y ↦ λ f g. g.outset ]

-- Behind a move, made or not, the next one can be made: where nothing calls for settling now, nothing did where it began.
pub CanPlay-from : {T E : Type 0} (r : Result T E) (app : Application) (s : Snapshot) (move : PlainMove) (target : Snapshot) (cost : ℕ) (begun made now : EditingView)
    (changes : List Change) → IsValid app s → (begun.outset.calm ≡ true → IsSettled (priorities_of app) s) → OnOk r (Reaches begun made target cost)
    → OnErr r (GivesUp begun made cost) → (now.calm ≡ true → made.outset.calm ≡ true) → OnOk r (IsPlayed app s move now.now changes) → OnErr r (now.now ≡ s)
    → CanPlay app now
CanPlay-from r app s move target cost begun made now changes valid calm reaches gives since =
    let outset = outset-from r target cost begun made reaches gives in
    let was : now.calm ≡ true → IsSettled (priorities_of app) s = λ is. calm (sym (ap (λ (b : Outset). b.calm) outset) ∙ since is) in
    elim r as (λ q. OnOk q (IsPlayed app s move now.now changes) → OnErr q (now.now ≡ s) → CanPlay app now) [
      | Ok x ↦ λ played same. record { valid = played.valid; calm = λ is. settled-after app s move now.now (was is) played.settled }
      | Err y ↦ λ played same. record {
        valid = subst (IsValid app) (sym same) valid;
        calm = λ is. subst (IsSettled (priorities_of app)) (sym same) (was is);
      }
    ]

-- ---- handles, entries and tasks that sleep

pub carried-handles : (app : Application) (s : Snapshot) (carried : PlainCarried) → handles_in (carried_out app s carried) ≡ handles_carried s carried
carried-handles app s (Edit edit) = edited-handles s edit
carried-handles app s (Interrupt interrupt) = interrupt-handles (priorities_of app) s interrupt

pub carried-come : (app : Application) (s : Snapshot) (carried : PlainCarried) (target index : ℕ) → (entry_at s target index).state ≡ Received
    → (entry_at (carried_out app s carried) target index).state ≡ Received
carried-come app s (Edit edit) target index come = edited-entry_state s edit target index ∙ come
carried-come app s (Interrupt interrupt) target index come = interrupt-received (priorities_of app) s interrupt target index come

-- An edit of another task, or of an entry, or of an object.
task_apart : (of task : ℕ) → nat_eq of task ≡ false → task ≢ of
task_apart of task apart same =
    let one : nat_eq of task ≡ true = grind (arith, nat_tests, same) in
    false≢true (sym apart ∙ one)

edited_sleeps : (s : Snapshot) (edit : PlainEdit) (task : ℕ) → edits_task edit task ≡ false → Sleeps task s (edited s edit)
edited_sleeps s (edit.Register of register value) task apart =
    Sleeps-other s task of (record (task_at s of) { registers = set (task_at s of).registers register value }) (task_apart of task apart)
edited_sleeps s (edit.Data of bytes) task apart = Sleeps-other s task of (record (task_at s of) { bytes = bytes }) (task_apart of task apart)
edited_sleeps s (edit.Pc of pc) task apart = Sleeps-other s task of (record (task_at s of) { pc = pc }) (task_apart of task apart)
edited_sleeps s (edit.Value of index value) task apart = Sleeps-with_entry s task of index (record (entry_at s of index) { value = value })
edited_sleeps s (edit.Bits group bits) task apart = refl
edited_sleeps s (edit.Item queue index bytes) task apart = refl
edited_sleeps s (edit.Byte stream index value) task apart = refl

pub carried-sleeps : (app : Application) (s : Snapshot) (carried : PlainCarried) (task : ℕ) (own : Held) → IsSleeper s task own
    → carried_disturbs carried task ≡ false → Sleeps task s (carried_out app s carried)
carried-sleeps app s (Edit edit) task own sleeper apart = edited_sleeps s edit task apart
carried-sleeps app s (Interrupt interrupt) task own sleeper apart = interrupt-sleeps (priorities_of app) s interrupt task own sleeper apart
