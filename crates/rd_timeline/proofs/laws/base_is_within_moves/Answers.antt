-- The goal of `base_is_within_moves` that the check left open.
use Rattle.rd_timeline.proofs.TrimLaws.{base_is_within_moves}
use Rattle.rd_timeline.proofs.laws.base_is_within_moves.Goals as goal

pub returns : goal.returns
returns c = base_is_within_moves
