-- The goals of answer_line that the check left open.
use Rattle.std.proofs.lemmas.Result.{err_from_is_err_and}
use Rattle.rd_session.proofs.AnsweringLaws.{line_heard, line_lost}
use Rattle.rd_session.proofs.spot.Spot.answer_line.Goals as goal

pub returns-in_err-begin-clause-breaks : goal.returns-in_err-begin-clause-breaks
returns-in_err-begin-clause-breaks g c =
    let p = err_from_is_err_and c.from_residual.result c.from_residual.ensures.1 in
    rw p.1 (line_lost _ _ _ c.in_err-begin.ensures.lost)

pub returns-clause-more : goal.returns-clause-more
returns-clause-more g c = (line_heard _ _ _ _ c.answer.result c.begin.ensures.same.who c.in_ok-begin.ensures.begins c.answer.ensures.answered).0

pub returns-clause-breaks : goal.returns-clause-breaks
returns-clause-breaks g c = (line_heard _ _ _ _ c.answer.result c.begin.ensures.same.who c.in_ok-begin.ensures.begins c.answer.ensures.answered).1
