-- The goals of `redo` that the check left open.
use Rattle.std.proofs.Common.{◌≡◌, ◌∙◌, ◌-◌, ◌++◌, ap, arith, drop, length, take}
use Rattle.rd_timeline.specs.Runs.{Moves}
use Rattle.rd_timeline.proofs.BackwardLaws.{undone_again}
use Rattle.rd_timeline.proofs.MovesLaws.{same_course, same_target}
use Rattle.rd_timeline.proofs.RecordedLaws.{each_has_more}
use Rattle.rd_timeline.proofs.timeline.Timeline.redo.Goals as goal

pub go_back-requires : goal.go_back-requires
go_back-requires c =
    let more = each_has_more c.args.self.now c.redo_each.new.self c.redo_each.ensures.part.has.stands in
    omega (arith, c.at.ensures, c.at-done.ensures, more.more, more.records)

pub returns-then-is_err-clause-err : goal.returns-then-is_err-clause-err
returns-then-is_err-clause-err c =
    let old = c.args.self.now in
    let part = c.redo_each.ensures.part in
    let stands = part.has.stands in
    let now = c.redo_each.new.self in
    let new = c.go_back.new.self in
    let back = c.go_back.ensures in
    let more = each_has_more old now stands in
    let before : length now.done - (c.at.result - c.at-done.result) ≡ length old.done =
    omega (arith, c.at.ensures, c.at-done.ensures, more.more) in
    let app = back.app ∙ stands.app in
    let done = ap (λ (moves : Moves). moves.done) back.moves ∙ ap (λ k. take k now.done) before ∙ stands.done in
    let undone = ap (λ (moves : Moves). moves.undone) back.moves ∙ ap (λ k. drop k now.done ++ now.undone) before ∙ undone_again old now part.made part.has in
    let records : length now.log - (c.at.result - c.at-done.result) ≡ length old.log =
    omega (arith, c.at.ensures, c.at-done.ensures, more.more, more.records) in
    let log = back.log ∙ ap (λ k. take k now.log) records ∙ stands.recorded.log in
    same_course old new app (back.limit ∙ stands.limit) (same_target old new app done c.by_invariant.ensures.leads back.leads) done log undone
    (back.read ∙ stands.read)
