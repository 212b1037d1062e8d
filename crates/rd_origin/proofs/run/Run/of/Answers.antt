-- The goal of `Run::of` that the check left open.
use Rattle.std.proofs.Common.{◌∙◌, ◌++◌, ap, refl, sym, take}
use Rattle.std.specs.Str.Lines.{lines}
use Rattle.std.proofs.Math.Seq.{take-append_seam}
use Rattle.rd_timeline.specs.Runs.{moves_of}
use Rattle.rd_origin.specs.Playing.{lines_played}
use Rattle.rd_origin.proofs.run.Run.of.Goals as goal

pub returns-clause-run : goal.returns-clause-run
returns-clause-run c =
    let t = c.play_text.new.timeline in record {
      left = moves_of t;
      played =
          ap (λ moves. lines_played c.args.app.now moves 1 (lines c.args.text.now)) (sym c.in_ok-timeline.ensures.moves) ∙ c.in_default.ensures.ok;
      runs = c.in_default.ensures.app ∙ c.in_ok-timeline.ensures.app;
      moves = ap (λ k. take k (t.done ++ t.undone)) c.at-places.ensures ∙ take-append_seam t.done t.undone;
      first = refl;
      last = refl;
    }
