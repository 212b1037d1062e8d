-- The goal of `redo` that the check left open.
use Rattle.std.proofs.Common.{subst}
use Rattle.rd_timeline.specs.Runs.{Plain}
use Rattle.rd_moves.specs.declared.request.Request.TheVariants.{Redo}
use Rattle.rd_timeline.specs.Answers.{Obeys}
use Rattle.rd_timeline.specs.Redoing.{IsWhyNoRedo}
use Rattle.rd_timeline.proofs.AnswerLaws.{AreRedone, are_redone, obeyed_if, redo_done, redo_not_done}
use Rattle.rd_timeline.proofs.RunsLaws.{redo_needs_memory}
use Rattle.rd_timeline.proofs.answering.redo.Goals as goal

pub returns : goal.returns
returns c =
    let old = c.args.timeline.now in
    let new = c.redo.new.self in
    let count = c.get.result in
    let made = c.redo.ensures in
    let told = c.told.ensures in
    subst (λ count. Obeys old (Redo count) new c.told.result) c.get.ensures.number
    (obeyed_if old new (Redo count) c.redo.result c.told.result (λ at. at) (λ at. Plain) (λ at. AreRedone old count new) (IsWhyNoRedo old count)
    told.no_memory told.ok told.err made.at (are_redone old count new c.redo.result made.nothing_undone made.moves made.app made.limit) made.refusals made.err made.grows c.by_invariant.ensures.leads
    (λ at has. redo_done old new count has.some has.moves made.grows has.app has.limit made.leads)
    (λ refusal other why. redo_not_done old count refusal other why)
    (redo_needs_memory old count))
