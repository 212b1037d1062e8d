-- The goals of answer_lines that the check left open.
use Rattle.std.proofs.Common.{◌∙◌, ◌+◌, [], length, refl, sym, arith, ap}
use Rattle.std.specs.Prelude.{Err}
use Rattle.std.proofs.lemmas.List.{length-drop}
use Rattle.std.proofs.lemmas.Result.{err_from_is_err_and}
use Rattle.rd_session.proofs.AnsweringLaws.{all_heard, all_lost}
use Rattle.rd_session.proofs.HearingLaws.{Answering-breaks, Answering-long, Answering-long_breaks, Answering-lost, Answering-more, Answering-new, Answering-part, Answering-rest, HearsMore-none}
use Rattle.rd_session.proofs.LineLaws.{line_cut}
use Rattle.rd_session.proofs.SpotLaws.{IsSameSpot-refl, IsSameSpot-then}
use Rattle.rd_session.proofs.spot.Spot.answer_lines.Goals as goal

pub loop-len-init : goal.loop-len-init
loop-len-init g c = record {
  answering = Answering-new c.args.lines.now _;
  at_work = c.requires.at_work;
  same = IsSameSpot-refl _;
  begun = omega arith;
}

pub loop-len-preserved : goal.loop-len-preserved
loop-len-preserved g c =
    let at = sym c.front.ensures ∙ c.in-Line.is in
    let heard = c.in_ok-answer_line-in-Line.ensures in
    let cut = line_cut c.loop-len.lines c.in-Line.len at in
    record {
      answering = Answering-more _ _ _ c.in-Line.len _ _ _ c.line-line.result.now c.loop-len.invariant.answering at c.line-line.ensures heard.more c.answer_line.ensures.same.who c.advance.ensures;
      at_work = heard.at_work;
      same = IsSameSpot-then _ _ _ c.loop-len.invariant.same c.answer_line.ensures.same;
      begun = omega (arith, heard.begun, c.loop-len.invariant.begun, ap length c.advance.ensures, length-drop (c.in-Line.len + 1) c.loop-len.lines, cut.2);
    }

pub returns-in_err-answer_line-in-Line-clause-stops : goal.returns-in_err-answer_line-in-Line-clause-stops
returns-in_err-answer_line-in-Line-clause-stops g c =
    let p = err_from_is_err_and c.from_residual.result c.from_residual.ensures.1 in
    rw (p.1 ∙ ap Err p.2)
    (Answering-breaks _ _ c.in-Line.len _ _ _ c.line-line.result.now c.loop-len.invariant.answering (sym c.front.ensures ∙ c.in-Line.is) c.line-line.ensures
    c.in_err-answer_line-in-Line.ensures.breaks)

pub returns-in-TooLong-clause-stops : goal.returns-in-TooLong-clause-stops
returns-in-TooLong-clause-stops g c =
    Answering-long _ _ _ _ _ c.loop-len.invariant.answering (sym c.front.ensures ∙ c.in-TooLong.is) c.in_ok-answer_long-in-TooLong.ensures.said

pub returns-in_err-answer_long-in-TooLong-clause-stops : goal.returns-in_err-answer_long-in-TooLong-clause-stops
returns-in_err-answer_long-in-TooLong-clause-stops g c =
    let p = err_from_is_err_and c.from_residual-in_err-answer_long-in-TooLong.result c.from_residual-in_err-answer_long-in-TooLong.ensures.1 in
    rw (p.1 ∙ ap Err p.2)
    (Answering-long_breaks _ _ _ _ _ c.loop-len.invariant.answering (sym c.front.ensures ∙ c.in-TooLong.is) c.in_err-answer_long-in-TooLong.ensures.breaks)

pub returns-in-Part-clause-more : goal.returns-in-Part-clause-more
returns-in-Part-clause-more g c =
    Answering-part _ _ _ _ _ c.loop-len.invariant.answering (sym c.front.ensures ∙ c.in-Part.is)
    (all_heard [] _ _ _ refl (HearsMore-none _) c.in_ok-finish-in-Part.ensures.flushed)

pub returns-in-Part-clause-rest : goal.returns-in-Part-clause-rest
returns-in-Part-clause-rest g c = Answering-rest _ _ _ _ c.loop-len.invariant.answering (sym c.front.ensures ∙ c.in-Part.is)

pub returns-in_err-finish-in-Part-clause-stops : goal.returns-in_err-finish-in-Part-clause-stops
returns-in_err-finish-in-Part-clause-stops g c =
    let p = err_from_is_err_and c.from_residual-in_err-finish-in-Part.result c.from_residual-in_err-finish-in-Part.ensures.1 in
    rw (p.1 ∙ ap Err p.2)
    (Answering-lost _ _ _ _ _ c.loop-len.invariant.answering (sym c.front.ensures ∙ c.in-Part.is)
    (all_lost [] _ _ _ refl (HearsMore-none _) c.in_err-finish-in-Part.ensures.lost))
