-- The goals of `received_stays` that the check left open.
use Rattle.rd_calls.proofs.ReceivedLaws.{received_stays}
use Rattle.rd_calls.proofs.laws.received_stays.Goals as goal

pub returns : goal.returns
returns c = received_stays
