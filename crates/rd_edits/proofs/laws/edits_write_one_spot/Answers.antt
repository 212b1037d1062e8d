-- The goals of `edits_write_one_spot` that the check left open.
use Rattle.rd_edits.proofs.SpotLaws.{edits_write_one_spot}
use Rattle.rd_edits.proofs.laws.edits_write_one_spot.Goals as goal

pub returns : goal.returns
returns c = edits_write_one_spot
