-- The goals of make_room that the check left open.
use Rattle.std.proofs.Common.{[], arith}
use Rattle.rd_session.proofs.AnsweringLaws.{on_ok}
use Rattle.rd_session.proofs.spot.Spot.make_room.Goals as goal

pub returns-clause-goes_on : goal.returns-clause-goes_on
returns-clause-goes_on g c = on_ok c.finish.result (λ flushed start heard who t. flushed start heard [] who (omega arith) t) c.finish.ensures.flushed
