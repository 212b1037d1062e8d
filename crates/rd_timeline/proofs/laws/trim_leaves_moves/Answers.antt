-- The goal of `trim_leaves_moves` that the check left open.
use Rattle.rd_timeline.proofs.TrimLaws.{trim_leaves_moves}
use Rattle.rd_timeline.proofs.laws.trim_leaves_moves.Goals as goal

pub returns : goal.returns
returns c = trim_leaves_moves
