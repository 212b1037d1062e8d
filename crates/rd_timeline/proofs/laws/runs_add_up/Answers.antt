-- The goal of `runs_add_up` that the check left open.
use Rattle.rd_timeline.proofs.PolicyLaws.{runs_add_up}
use Rattle.rd_timeline.proofs.laws.runs_add_up.Goals as goal

pub returns : goal.returns
returns c = runs_add_up
