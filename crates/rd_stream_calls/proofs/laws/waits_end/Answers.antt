-- The goals of `waits_end` that the check left open.
use Rattle.rd_stream_calls.proofs.WaitLaws.{waits_end}
use Rattle.rd_stream_calls.proofs.laws.waits_end.Goals as goal

pub returns : goal.returns
returns c = waits_end
