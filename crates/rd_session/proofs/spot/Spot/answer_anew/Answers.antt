-- The goals of answer_anew that the check left open.
use Rattle.std.proofs.Common.{sym, arith}
use Rattle.rd_session.proofs.AnsweringLaws.{Answered-gathered}
use Rattle.rd_session.proofs.GatheringLaws.{answer_syntax}
use Rattle.rd_session.proofs.spot.Spot.answer_anew.Goals as goal

pub returns-in-Err-clause-answered : goal.returns-in-Err-clause-answered
returns-in-Err-clause-answered g c =
    Answered-gathered _ _ _ _ _ _ (answer_syntax c.args.line.now c.args.self.now.seat.now.session (sym (rw c.in-Err.is at c.parse_line.ensures.exact)))
    c.put_short.ensures.bytes c.put_short.ensures.begun c.put_short.ensures.out

pub returns-in-Err-clause-at_work : goal.returns-in-Err-clause-at_work
returns-in-Err-clause-at_work g c = record {
  out = omega (arith, c.put_short.ensures.begun, c.put_short.ensures.out, c.requires.ready.out);
  faults = c.requires.ready.faults;
}
