-- What holds at each turn of listen's loop.
use Rattle.std.proofs.Common.{◌≡◌, ◌*◌, ◌≤◌}
use Rattle.rd_session.specs.Gathering.{IsAtWork}
use Rattle.rd_session.specs.Spots.{IsSameSpot, spot_of}
use Rattle.rd_session.proofs.HearingLaws.{Hears}
use Rattle.rd_session.proofs.spot.Spot.listen.Given as goal

abbrev pub invariant-loop-turn : goal.invariant-loop-turn
invariant-loop-turn g l = record {
  hears : Hears (g.S.ByteSource.seen l.fn.source) (g.S.ByteSource.seen l.source)
      (spot_of g.W.ByteSink.seen g.G.Gate.calls l.fn.self).talk
      (spot_of g.W.ByteSink.seen g.G.Gate.calls l.self) l.lines;
  at_work : IsAtWork (spot_of g.W.ByteSink.seen g.G.Gate.calls l.self);
  same : IsSameSpot l.fn.self l.self;
  out : l.self.pending.now.out ≡ l.self.pending.now.begun;
  begun : l.self.pending.now.begun ≤ 65536 * l._turn;
  reads : (g.S.ByteSource.seen l.source).reads ≡ l._turn;
}
