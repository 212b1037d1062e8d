-- What moves carry: what each names of an application.
use Rattle.std.specs.Prelude.{ℕ, List}
use Rattle.rd_app.specs.Application.{Application}
use Rattle.rd_moves.specs.declared.carried.Carried as carried
use Rattle.rd_moves.specs.declared.carried.Carried.TheVariants.{Edit, Interrupt}
use Rattle.rd_moves.specs.Edits.{IsEditOf}
use Rattle.rd_moves.specs.Interrupts.{IsInterruptOf}

-- what a move carries, with its bytes as a list, wherever they stand
abbrev pub PlainCarried : Type 0
PlainCarried = carried.Carried (List ℕ)

-- It names what the application has.
abbrev pub IsCarriedOf : Application → PlainCarried → Type 0
IsCarriedOf app (Edit edit) = IsEditOf app edit
IsCarriedOf app (Interrupt interrupt) = IsInterruptOf app interrupt
