-- Interrupts: what each names of an application.
use Rattle.std.specs.Prelude.{ℕ, ◌<◌, List, length}
use Rattle.rd_app.specs.Application.{Application}
use Rattle.rd_moves.specs.declared.interrupt.Interrupt as interrupts
use Rattle.rd_moves.specs.declared.interrupt.Interrupt.TheVariants.{Send, Notify}

-- an interrupt with its bytes as a list, wherever they stand
abbrev pub PlainInterrupt : Type 0
PlainInterrupt = interrupts.Interrupt (List ℕ)

-- The application has the queue, or the task with its entry.
abbrev pub IsInterruptOf : Application → PlainInterrupt → Type 0
IsInterruptOf app (Send queue bytes) = queue < length app.objects.queues
IsInterruptOf app (Notify task index value action) =
    (task < length app.tasks) × (index < app.entries)
