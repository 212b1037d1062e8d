-- The goals of `notifications_arrive_by_interrupt` that the check left open.
use Rattle.rd_interrupts.proofs.InterruptLaws.{notifications_arrive_by_interrupt}
use Rattle.rd_interrupts.proofs.laws.notifications_arrive_by_interrupt.Goals as goal

pub returns : goal.returns
returns c = notifications_arrive_by_interrupt
