-- Laws of interrupts, in their own words.
use Rattle.std.specs.Prelude.{ℕ, ◌≡◌, ◌<◌, List, length, slice_get, None, Some}
use Rattle.rd_app.specs.Application.{Application, priorities_of}
use Rattle.rd_notify.specs.declared.action.Action.{Action}
use Rattle.rd_notify.specs.declared.entries.EntryState.TheVariants.{Received}
use Rattle.rd_queue.specs.declared.waiting_list.WaitingList.TheVariants.{Receiving}
use Rattle.rd_state.specs.declared.phase.Listed.TheVariants.{Queue}
use Rattle.rd_state.specs.Phases.{waits_at}
use Rattle.rd_state.specs.Settled.{IsSettled}
use Rattle.rd_state.specs.Snapshot.{Snapshot, task_at}
use Rattle.rd_state.specs.Valid.{IsValid}
use Rattle.rd_state.specs.Waiting.{waiting_at}
use Rattle.rd_kernel.specs.Tasks.{entry_at, HasEntry}
use Rattle.rd_moves.specs.Interrupts.{PlainInterrupt}
use Rattle.rd_moves.specs.declared.interrupt.Interrupt.TheVariants.{Send, Notify}
use Rattle.rd_queue_calls.specs.Posts.{membership_of}
use Rattle.rd_interrupts.specs.Interrupts.{after_interrupt, isr_answer}

-- One that answers 0 leaves the state, where nothing is left to schedule.
abbrev pub RefusedInterruptsChangeNothing : Type 0
RefusedInterruptsChangeNothing =
    (priorities : List ℕ) (s : Snapshot) (interrupt : PlainInterrupt) → 0 < length s.cores
    → IsSettled priorities s → isr_answer s interrupt ≡ 0
    → after_interrupt priorities s interrupt ≡ s

-- One that puts an item into a queue in no set wakes the first who waits to receive.
abbrev pub SendsWakeTheFirst : Type 0
SendsWakeTheFirst =
    (app : Application) (s : Snapshot) (queue task : ℕ) (bytes : List ℕ) → IsValid app s
    → queue < length s.objects.queues → membership_of s queue ≡ None
    → isr_answer s (Send queue bytes) ≡ 1
    → slice_get (waiting_at s (Queue queue Receiving)) 0 ≡ Some task
    → waits_at
    (task_at (after_interrupt (priorities_of app) s (Send queue bytes)) task).phase ≡ None

-- One that notifies an entry leaves it received.
abbrev pub NotificationsArriveByInterrupt : Type 0
NotificationsArriveByInterrupt =
    (priorities : List ℕ) (s : Snapshot) (task index value : ℕ) (action : Action)
    → HasEntry s task index
    → (entry_at (after_interrupt priorities s (Notify task index value action)) task index).state
    ≡ Received
