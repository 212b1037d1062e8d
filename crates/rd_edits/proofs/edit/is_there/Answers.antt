-- The goals of `is_there` that the check left open.
use Rattle.rd_edits.proofs.ValidityLaws.{IsEditAt-valid}
use Rattle.rd_edits.proofs.edit.is_there.Goals as goal

pub returns : goal.returns
returns c = IsEditAt-valid c.args.app.now c.args.state.now c.args.edit.now c.requires.valid c.requires.named
