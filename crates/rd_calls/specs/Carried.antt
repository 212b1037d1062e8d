-- Moves that carry their operands: what each does, and what it has to do with handles and with
-- tasks that sleep.
use Rattle.std.specs.Prelude.{ℕ, ◌+◌, ◌*◌, if◌then◌else◌, Bool, false, List, length, nat_eq}
use Rattle.std.specs.Prelude.{Option, None, Some, Result, Ok, Err}
use Rattle.rd_app.specs.Application.{Application, priorities_of}
use Rattle.rd_app.specs.Profiles.{has_interrupts}
use Rattle.rd_refusal.specs.declared.refusal.Refusal.{Refusal}
use Rattle.rd_refusal.specs.declared.refusal.Refusal.TheVariants.{BadEdit, NoIsr}
use Rattle.rd_state.specs.Settled.{IsSettled}
use Rattle.rd_state.specs.Snapshot.{Snapshot}
use Rattle.rd_queue_calls.specs.QueueSetLaws.{handles_in}
use Rattle.rd_moves.specs.Carried.{PlainCarried}
use Rattle.rd_moves.specs.Edits.{PlainEdit}
use Rattle.rd_moves.specs.declared.carried.Carried.TheVariants.{Edit, Interrupt}
use Rattle.rd_moves.specs.declared.edit.Edit.TheVariants as edit
use Rattle.rd_edits.specs.Edits.{edit_cost, edited, is_good_edit}
use Rattle.rd_interrupts.specs.Interrupts.{after_interrupt, handles_interrupted, interrupt_cost}
use Rattle.rd_interrupts.specs.Interrupts.{interrupt_notifies_first, isr_answer}

-- ---- what each does

-- why it is refused, if it is: an edit, where it can't be made, and an interrupt, where the
-- application's profile has none
abbrev pub why_refused : Application → Snapshot → PlainCarried → Option Refusal
why_refused app s (Edit edit) = if is_good_edit app s edit then None else Some BadEdit
why_refused app s (Interrupt interrupt) =
    if has_interrupts app.profile then None else Some NoIsr

-- the state after it: an edit schedules nothing, after an interrupt the scheduler runs
abbrev pub carried_out : Application → Snapshot → PlainCarried → Snapshot
carried_out app s (Edit edit) = edited s edit
carried_out app s (Interrupt interrupt) = after_interrupt (priorities_of app) s interrupt

-- what it takes in a record at the most
abbrev pub carried_cost : Application → Snapshot → PlainCarried → ℕ
carried_cost app s (Edit edit) = edit_cost edit
carried_cost app s (Interrupt interrupt) = interrupt_cost + 3 * length s.cores

-- what it answers, if it answers something
abbrev pub carried_answer : Snapshot → PlainCarried → Option ℕ
carried_answer s (Edit edit) = None
carried_answer s (Interrupt interrupt) = Some (isr_answer s interrupt)

-- Nothing is left to schedule after it. An edit leaves nothing where nothing was.
abbrev pub CarriedLeavesSettled : Application → Snapshot → PlainCarried → Snapshot → Type 0
CarriedLeavesSettled app s (Edit edit) s' =
    IsSettled (priorities_of app) s → IsSettled (priorities_of app) s'
CarriedLeavesSettled app s (Interrupt interrupt) s' = IsSettled (priorities_of app) s'

-- the step, which a refusal is in place of
abbrev pub unless_refused : Snapshot → Option Refusal → Result Snapshot Refusal
unless_refused after None = Ok after
unless_refused after (Some refusal) = Err refusal

abbrev pub step_of_carried : Application → Snapshot → PlainCarried → Result Snapshot Refusal
step_of_carried app s carried =
    unless_refused (carried_out app s carried) (why_refused app s carried)

-- ---- what else is said of each

-- the handles after it: an edit changes none, an interrupt adds one at the most
abbrev pub handles_carried : Snapshot → PlainCarried → List (List ℕ)
handles_carried s (Edit edit) = handles_in s
handles_carried s (Interrupt interrupt) = handles_interrupted s interrupt

-- Does an edit change what a task has besides its entries?
abbrev pub edits_task : PlainEdit → ℕ → Bool
edits_task (edit.Register of register value) task = nat_eq of task
edits_task (edit.Data of bytes) task = nat_eq of task
edits_task (edit.Pc of pc) task = nat_eq of task
edits_task (edit.Value of index value) task = false
edits_task (edit.Bits group bits) task = false
edits_task (edit.Item queue index bytes) task = false
edits_task (edit.Byte stream index value) task = false

-- Does it disturb a task otherwise than through its buffer: does it edit the task, or notify its
-- entry 0?
abbrev pub carried_disturbs : PlainCarried → ℕ → Bool
carried_disturbs (Edit edit) task = edits_task edit task
carried_disturbs (Interrupt interrupt) task = interrupt_notifies_first interrupt task
