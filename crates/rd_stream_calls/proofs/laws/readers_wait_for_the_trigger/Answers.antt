-- The goals of `readers_wait_for_the_trigger` that the check left open.
use Rattle.rd_stream_calls.proofs.WaitLaws.{readers_wait_for_the_trigger}
use Rattle.rd_stream_calls.proofs.laws.readers_wait_for_the_trigger.Goals as goal

pub returns : goal.returns
returns c = readers_wait_for_the_trigger
