-- The goal of `until` that the check left open.
use Rattle.std.proofs.Common.{subst}
use Rattle.std.specs.Prelude.{Some}
use Rattle.rd_moves.specs.declared.request.Request.TheVariants.{Until}
use Rattle.rd_timeline.specs.declared.running.FoundPlace.{FoundPlace}
use Rattle.rd_timeline.specs.Answers.{Obeys}
use Rattle.rd_timeline.proofs.AnswerLaws.{run_obeyed}
use Rattle.rd_timeline.proofs.answering.until.Goals as goal

pub returns : goal.returns
returns c =
    let old = c.args.timeline.now in
    let new = c.until.new.self in
    let condition = c.args.condition in
    let made = c.until.ensures in
    let told = c.ended.ensures in
    subst (λ count. Obeys old (Until condition count) new c.ended.result) c.get.ensures.number
    (run_obeyed old new (Some condition) c.get.result c.until.result c.ended.result (λ (found : FoundPlace). found.at) (λ (found : FoundPlace). found.met)
    told.no_memory told.ok told.err made.at made.ends made.refusals made.err made.grows c.by_invariant.ensures.leads made.app made.limit made.leads)
