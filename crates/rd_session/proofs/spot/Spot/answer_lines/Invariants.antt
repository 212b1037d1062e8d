-- What holds in each turn of answer_lines's loop, and why it ends.
use Rattle.std.proofs.Common.{◌+◌, ◌≤◌, length}
use Rattle.rd_session.specs.Gathering.{IsAtWork}
use Rattle.rd_session.specs.Spots.{IsSameSpot, spot_of}
use Rattle.rd_session.proofs.HearingLaws.{Answering}
use Rattle.rd_session.proofs.spot.Spot.answer_lines.Given as goal

abbrev pub invariant-loop-len : goal.invariant-loop-len
invariant-loop-len g l = record {
  answering : Answering l.fn.lines l.lines (spot_of g.W.ByteSink.seen g.G.Gate.calls l.fn.self)
      (spot_of g.W.ByteSink.seen g.G.Gate.calls l.self);
  at_work : IsAtWork (spot_of g.W.ByteSink.seen g.G.Gate.calls l.self);
  same : IsSameSpot l.fn.self l.self;
  begun : l.self.pending.now.begun + length l.lines ≤ l.fn.self.pending.now.begun + length l.fn.lines;
}

abbrev pub decreases-loop-len : goal.decreases-loop-len
decreases-loop-len g l = length l.lines
