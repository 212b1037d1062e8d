-- The goals of `sends_wake_the_first` that the check left open.
use Rattle.rd_interrupts.proofs.InterruptLaws.{sends_wake_the_first}
use Rattle.rd_interrupts.proofs.laws.sends_wake_the_first.Goals as goal

pub returns : goal.returns
returns c = sends_wake_the_first
