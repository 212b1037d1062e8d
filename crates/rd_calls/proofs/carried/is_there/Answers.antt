-- The goals of `is_there` that the check left open.
use Rattle.rd_interrupts.proofs.Offered.{IsInterruptAt-valid}
use Rattle.rd_calls.proofs.carried.is_there.Goals as goal

pub returns : goal.returns
returns c = IsInterruptAt-valid c.args.app.now c.args.state.now c.args.interrupt.now c.requires.valid c.requires.named
