-- The goals of answer_long that the check left open.
use Rattle.std.proofs.Common.{[], ◌∷◌}
use Rattle.std.proofs.lemmas.Result.{err_from_is_err_and}
use Rattle.rd_session.specs.Lines.{Long}
use Rattle.rd_session.proofs.AnsweringLaws.{all_lost, all_said, line_lost, long_heard, on_both, on_err}
use Rattle.rd_session.proofs.spot.Spot.answer_long.Goals as goal

pub returns-in_err-begin-clause-breaks : goal.returns-in_err-begin-clause-breaks
returns-in_err-begin-clause-breaks g c =
    let p = err_from_is_err_and c.from_residual.result c.from_residual.ensures.1 in
    rw p.1 (line_lost Long _ _ c.in_err-begin.ensures.lost)

pub returns-clause-said : goal.returns-clause-said
returns-clause-said g c =
    let heard = long_heard _ _ _ c.in_ok-begin.ensures.begins c.put_short.ensures.bytes c.put_short.ensures.begun c.put_short.ensures.out in
    on_both c.finish.result (λ flushed now. all_said (Long ∷ []) _ _ _ c.begin.ensures.same.who heard flushed now) c.finish.ensures.flushed c.finish.ensures.pending

pub returns-clause-breaks : goal.returns-clause-breaks
returns-clause-breaks g c =
    let heard = long_heard _ _ _ c.in_ok-begin.ensures.begins c.put_short.ensures.bytes c.put_short.ensures.begun c.put_short.ensures.out in
    on_err c.finish.result (λ lost. all_lost (Long ∷ []) _ _ _ c.begin.ensures.same.who heard lost) c.finish.ensures.lost
