-- The goals of `edits_preserve_validity` that the check left open.
use Rattle.rd_edits.proofs.ValidityLaws.{IsValid-edited_whole}
use Rattle.rd_edits.proofs.laws.edits_preserve_validity.Goals as goal

pub returns : goal.returns
returns c =
    IsValid-edited_whole c.args.app.now c.args.state.now c.args.edit.now c.limits.ensures c.sizes.ensures c.requires.valid c.requires.named c.requires.good
