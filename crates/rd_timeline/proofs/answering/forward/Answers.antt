-- The goal of `forward` that the check left open.
use Rattle.std.proofs.Common.{false, subst}
use Rattle.std.specs.Prelude.{None}
use Rattle.rd_moves.specs.declared.request.Request.TheVariants.{Forward}
use Rattle.rd_timeline.specs.Answers.{Obeys}
use Rattle.rd_timeline.proofs.AnswerLaws.{run_obeyed}
use Rattle.rd_timeline.proofs.answering.forward.Goals as goal

pub returns : goal.returns
returns c =
    let old = c.args.timeline.now in
    let new = c.forward.new.self in
    let made = c.forward.ensures in
    let told = c.told.ensures in
    subst (λ count. Obeys old (Forward count) new c.told.result) c.get.ensures.number
    (run_obeyed old new None c.get.result c.forward.result c.told.result (λ at. at) (λ at. false) told.no_memory told.ok told.err made.at made.ends
    made.refusals made.err made.grows c.by_invariant.ensures.leads made.app made.limit made.leads)
