-- The goal of `Run::back_to` that the check left open.
use Rattle.std.proofs.Common.{◌≡◌, ◌∙◌, ◌-◌, ◌≤◌, ap, arith, length}
use Rattle.rd_timeline.specs.Course.{base_of}
use Rattle.rd_origin.specs.RunView.{RunView}
use Rattle.rd_origin.proofs.RunLaws.{seen, went_back}
use Rattle.rd_origin.proofs.RunLists.{from_ok}
use Rattle.rd_origin.proofs.run.Run.back_to.Goals as goal

pub returns : goal.returns
returns c =
    let t = c.self.inside.timeline in
    let places = c.self.inside.places in
    let n = c.at-at.result - c.args.place in
    let at = ap (λ (run : RunView). run.at) c.self.view_is in
    let first : base_of t ≡ c.args.self.now.first = ap (λ (run : RunView). run.first) c.self.view_is in
    let records = c.by_invariant.ensures.traced.records in
    let kept : n ≤ length t.log = omega (arith, first, records, c.requires.first, c.at-at.ensures) in
    let there : length t.done - n ≡ c.args.place = omega (arith, c.requires.back, c.at-at.ensures, at) in
    let ok = c.back.ensures.ok.1 kept in
    went_back t c.back.new.self places n (from_ok c.back.result ok c.back.ensures.app) (from_ok c.back.result ok c.back.ensures.moves)
    ∙ ap (λ k. record (seen t places) { at = k }) there
    ∙ ap (λ (run : RunView). record run { at = c.args.place }) c.self.view_is
