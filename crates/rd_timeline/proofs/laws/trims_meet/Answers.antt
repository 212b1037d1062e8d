-- The goal of `trims_meet` that the check left open.
use Rattle.rd_timeline.proofs.TrimLaws.{trims_meet}
use Rattle.rd_timeline.proofs.laws.trims_meet.Goals as goal

pub returns : goal.returns
returns c = trims_meet
