-- The goals of `refused_interrupts_change_nothing` that the check left open.
use Rattle.rd_interrupts.proofs.InterruptLaws.{refused_interrupts_change_nothing}
use Rattle.rd_interrupts.proofs.laws.refused_interrupts_change_nothing.Goals as goal

pub returns : goal.returns
returns c = refused_interrupts_change_nothing
