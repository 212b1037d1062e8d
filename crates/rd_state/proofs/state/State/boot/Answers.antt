-- The goals of `State::boot` that the check left open.
use Rattle.std.proofs.Common.{rules}
use Rattle.rd_state.proofs.BootLaws.{IsValid-boot, IsSettled-boot}
use Rattle.rd_state.proofs.state.State.boot.Goals as goal

pub returns-clause-valid : goal.returns-clause-valid
returns-clause-valid c = IsValid-boot c.args.app.now c.end.new.state c.limits.ensures c.sizes.ensures (search rules)

pub returns-clause-settled : goal.returns-clause-settled
returns-clause-settled c = IsSettled-boot c.args.app.now c.end.new.state c.limits.ensures (search rules)
