-- The goals of answer_rest that the check left open.
use Rattle.std.proofs.Common.{◌<◌, [], ◌∷◌, length, rules}
use Rattle.rd_session.specs.Lines.{Whole}
use Rattle.rd_session.proofs.AnsweringLaws.{all_lost, all_said, on_both, on_err, rest_breaks, rest_said}
use Rattle.rd_session.proofs.spot.Spot.answer_rest.Goals as goal

pub returns-clause-said : goal.returns-clause-said
returns-clause-said g c =
    let some : 0 < length c.args.rest.now = search rules in
    on_both c.finish.result (λ flushed now.
    rest_said c.args.rest.now _ _ some (all_said (Whole c.args.rest.now ∷ []) _ _ _ c.answer_line.ensures.same.who c.in_ok-answer_line.ensures.more flushed now))
    c.finish.ensures.flushed c.finish.ensures.pending

pub returns-clause-breaks : goal.returns-clause-breaks
returns-clause-breaks g c =
    let some : 0 < length c.args.rest.now = search rules in
    on_err c.finish.result (λ lost.
    rest_breaks c.args.rest.now _ _ some (all_lost (Whole c.args.rest.now ∷ []) _ _ _ c.answer_line.ensures.same.who c.in_ok-answer_line.ensures.more lost))
    c.finish.ensures.lost
