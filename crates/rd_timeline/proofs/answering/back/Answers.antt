-- The goals of `back` that the check left open.
use Rattle.std.proofs.Common.{ap, length, subst}
use Rattle.std.specs.Prelude.{Ok, is_ok}
use Rattle.rd_timeline.specs.Runs.{Plain}
use Rattle.rd_moves.specs.declared.answer.Answer.TheVariants.{Done, Refused}
use Rattle.rd_moves.specs.declared.request.Request.TheVariants.{Back}
use Rattle.rd_timeline.specs.Answers.{Obeys}
use Rattle.rd_timeline.specs.Course.{Course}
use Rattle.rd_timeline.proofs.AnswerLaws.{as_it_was, back_done, back_not_done, nothing_changed, obeyed, too_few}
use Rattle.rd_timeline.proofs.TimelineLaws.{HasGrown-same}
use Rattle.rd_timeline.proofs.answering.back.Goals as goal

pub returns-in-Ok : goal.returns-in-Ok
returns-in-Ok c =
    let old = c.args.timeline.now in
    let new = c.back.new.self in
    let made = c.in-Ok.ensures in
    let some = c.back.ensures.ok.0 (ap is_ok c.in-Ok.is) in
    subst (λ count. Obeys old (Back count) new (Ok (Done c.in-Ok.at))) c.get.ensures.number
    (obeyed old new (Back c.get.result) c.in-Ok.at Plain made.at
    (back_done old new c.get.result c.by_invariant.ensures.traced.records some made.moves (HasGrown-same old.room new.room made.room) made.app made.limit made.leads))

pub returns-in-Err : goal.returns-in-Err
returns-in-Err c =
    let old = c.args.timeline.now in
    let new = c.back.new.self in
    let refusal = c.in-Err.refusal in
    let few = rw c.in-Err.is at (too_few c.back.result c.get.result (length old.log) c.back.ensures.ok) in
    subst (λ count. Obeys old (Back count) new (Ok (Refused refusal))) c.get.ensures.number
    (nothing_changed old new (Back c.get.result) refusal (back_not_done old c.get.result refusal c.by_invariant.ensures.traced.records few c.in-Err.ensures.too_far)
    (as_it_was old new c.in-Err.ensures.err) (HasGrown-same old.room new.room (ap (λ (course : Course). course.room) c.in-Err.ensures.err))
    c.by_invariant.ensures.leads)
