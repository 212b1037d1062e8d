-- The goals of `long_messages_stay` that the check left open.
use Rattle.rd_stream_calls.proofs.WaitLaws.{long_messages_stay}
use Rattle.rd_stream_calls.proofs.laws.long_messages_stay.Goals as goal

pub returns : goal.returns
returns c = long_messages_stay
