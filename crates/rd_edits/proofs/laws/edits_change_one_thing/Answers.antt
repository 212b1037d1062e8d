-- The goals of `edits_change_one_thing` that the check left open.
use Rattle.rd_edits.proofs.OneThingLaws.{edits_change_one_thing}
use Rattle.rd_edits.proofs.laws.edits_change_one_thing.Goals as goal

pub returns : goal.returns
returns c = edits_change_one_thing
