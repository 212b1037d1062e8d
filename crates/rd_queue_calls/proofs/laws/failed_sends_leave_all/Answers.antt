-- The goals of `failed_sends_leave_all` that the check left open.
use Rattle.rd_queue_calls.proofs.HandleLaws.{failed_sends_leave_all}
use Rattle.rd_queue_calls.proofs.laws.failed_sends_leave_all.Goals as goal

pub returns : goal.returns
returns c = failed_sends_leave_all
