-- The goal of `kept_goes_as_before` that the check left open.
use Rattle.rd_timeline.proofs.TrimLaws.{kept_goes_as_before}
use Rattle.rd_timeline.proofs.laws.kept_goes_as_before.Goals as goal

pub returns : goal.returns
returns c = kept_goes_as_before
