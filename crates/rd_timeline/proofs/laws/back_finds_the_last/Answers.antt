-- The goal of `back_finds_the_last` that the check left open.
use Rattle.rd_timeline.proofs.WalkLaws.{back_finds_the_last}
use Rattle.rd_timeline.proofs.laws.back_finds_the_last.Goals as goal

pub returns : goal.returns
returns c = back_finds_the_last
