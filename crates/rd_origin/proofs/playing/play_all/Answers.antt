-- The goals of play_all that the check left open.
use Rattle.std.proofs.Common.{◌∙◌, ◌+◌, List, ℕ, Bor, ap, arith, sym}
use Rattle.std.specs.Prelude.{Err}
use Rattle.std.proofs.lemmas.List.{at_drop_all}
use Rattle.std.proofs.lemmas.Result.{err_from_is_err_and}
use Rattle.rd_text.specs.Words.{texts}
use Rattle.rd_timeline.specs.Runs.{moves_of}
use Rattle.rd_origin.specs.Playing.{line_played, lines_played}
use Rattle.rd_origin.proofs.PlayingLaws.{line_goes_on, line_stops}
use Rattle.rd_origin.proofs.playing.play_all.Goals as goal

pub loop-index-preserved : goal.loop-index-preserved
loop-index-preserved c =
    let now = c.loop-index.timeline in
    let number = c.loop-index.index + 1 in
    let made = c.in_ok-play_line.ensures in
    let played = ap (line_played c.args.app.now (moves_of now) number) (sym c.as_bytes.ensures.value) ∙ made.ok in (
      made.app ∙ c.loop-index.invariant.0,
      made.same_limit ∙ c.loop-index.invariant.1,
      c.loop-index.invariant.2
          ∙ line_goes_on c.args.app.now (moves_of now) (moves_of c.play_line.new.timeline) number c.args.lines.now c.loop-index.index _ c.loop-index-test.true
          played,
    )

pub returns-in_err-play_line-clause-err : goal.returns-in_err-play_line-clause-err
returns-in_err-play_line-clause-err c =
    let now = c.loop-index.timeline in
    let number = c.loop-index.index + 1 in
    let p = err_from_is_err_and c.from_residual.result c.from_residual.ensures.1 in
    rw (p.1 ∙ ap Err p.2) (λ other.
    c.loop-index.invariant.2
    ∙ line_stops c.args.app.now (moves_of now) number c.args.lines.now c.loop-index.index _ _ c.loop-index-test.true
    (ap (line_played c.args.app.now (moves_of now) number) (sym c.as_bytes.ensures.value) ∙ c.in_err-play_line.ensures.err other))

pub returns-clause-ok : goal.returns-clause-ok
returns-clause-ok c =
    c.loop-index.invariant.2
    ∙ at_drop_all (λ (rest : List (Bor (List ℕ))). lines_played c.args.app.now (moves_of c.loop-index.timeline) (c.loop-index.index + 1) (texts rest))
    c.args.lines.now c.loop-index.index (omega (arith, c.loop-index-test.false))
