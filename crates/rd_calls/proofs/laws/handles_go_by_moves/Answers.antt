-- The goals of `handles_go_by_moves` that the check left open.
use Rattle.rd_calls.proofs.HandleMoveLaws.{handles_go_by_moves}
use Rattle.rd_calls.proofs.laws.handles_go_by_moves.Goals as goal

pub returns : goal.returns
returns c = handles_go_by_moves
