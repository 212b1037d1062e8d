-- The goal of `go` that the check left open.
use Rattle.std.proofs.Common.{◌≡◌, rules, subst, sym}
use Rattle.rd_calls.specs.Step.{move_answer}
use Rattle.rd_moves.specs.declared.request.Request.TheVariants.{Go}
use Rattle.rd_timeline.specs.Course.{IsWhyNot}
use Rattle.rd_timeline.specs.Runs.{ending_of}
use Rattle.rd_timeline.proofs.AnswerLaws.{IsRequestDone, IsMade, go_done, go_not_done, is_made, obeyed_if}
use Rattle.rd_timeline.proofs.RunsLaws.{go_needs_memory}
use Rattle.rd_timeline.proofs.answering.go.Goals as goal

pub returns : goal.returns
returns c =
    let old = c.args.timeline.now in
    let new = c.go.new.self in
    let move = c.args.action.now in
    let made = c.go.ensures in
    let told = c.told_of_move.ensures in
    let leads = c.by_invariant.ensures.leads in
    let its : c.move_answer-answer.result ≡ move_answer old.target move = search rules in
    obeyed_if old new (Go move) c.go.result c.told_of_move.result (λ at. at) (λ at. ending_of c.move_answer-answer.result) (λ at. IsMade old move new) (IsWhyNot old move)
    told.no_memory told.ok told.err made.at (is_made old move new c.go.result made.moves_full made.moves made.step made.app made.limit made.leads) made.refusals made.err made.grows leads
    (λ at is. subst (λ answer. IsRequestDone old (Go move) new (ending_of answer)) (sym its) (go_done old new move leads made.grows is))
    (λ refusal other why. go_not_done old move refusal leads other why)
    (go_needs_memory old move leads)
