-- The goals of `handles_go_by_calls` that the check left open.
use Rattle.rd_queue_calls.proofs.HandleLaws.{handles_go_by_calls}
use Rattle.rd_queue_calls.proofs.laws.handles_go_by_calls.Goals as goal

pub returns : goal.returns
returns c = handles_go_by_calls
