-- The goals of listen that the check left open.
use Rattle.std.proofs.Common.{◌≡◌, ◌<◌, refl, arith, rules}
use Rattle.rd_session.proofs.GatheringLaws.{Talking-new}
use Rattle.rd_session.proofs.HearingLaws.{Heard-ended, Heard-failed, Heard-spent, Heard-stops, Hears-more, Hears-new, Read-of}
use Rattle.rd_session.proofs.SpotLaws.{IsSameSpot-refl, IsSameSpot-then}
use Rattle.rd_session.proofs.spot.Spot.listen.Goals as goal

pub loop-turn-init : goal.loop-turn-init
loop-turn-init g c = record {
  hears = Hears-new _ _ _ _ c.requires.unread c.requires.held (Talking-new _ c.args.self.now.pending.now c.requires.pending.0 c.requires.pending.1 c.requires.pending.2) refl;
  at_work = record { out = omega (arith, c.requires.pending.1, c.requires.pending.2); faults = c.requires.unwritten };
  same = IsSameSpot-refl _;
  out = omega (arith, c.requires.pending.1, c.requires.pending.2);
  begun = omega (arith, c.requires.pending.1);
  reads = c.requires.unread.reads;
}

pub returns-in_default-clause-heard : goal.returns-in_default-clause-heard
returns-in_default-clause-heard g c =
    Heard-failed _ _ _ _ _ _ c.loop-turn.invariant.hears c.loop-turn.invariant.out c.in_default.ensures.err_source c.in_default.ensures.reads c.in_default.ensures.ends c.in_default.ensures.faults

pub returns-then-count-eq0-clause-heard : goal.returns-then-count-eq0-clause-heard
returns-then-count-eq0-clause-heard g c =
    let none : c.in-Ok.count ≡ 0 = search rules in
    Heard-ended c.answer_rest.result _ _ _ _ _ _ _ _ _ c.in-Ok.count c.loop-turn.invariant.hears c.in-Ok.ensures.ok none c.in-Ok.ensures.reads c.in-Ok.ensures.ends c.in-Ok.ensures.faults
    (c.in-Ok.ensures.end none) c.rest.ensures c.answer_rest.ensures.said c.answer_rest.ensures.breaks

pub returns-in-Err-clause-heard : goal.returns-in-Err-clause-heard
returns-in-Err-clause-heard g c =
    let some : 0 < c.in-Ok.count = search rules in
    let read = Read-of _ _ _ _ _ _ _ c.in-Ok.count c.loop-turn.invariant.hears c.in-Ok.ensures.ok some c.in-Ok.ensures.reads c.in-Ok.ensures.ends c.in-Ok.ensures.faults in
    Heard-stops c.in-Err._why _ _ _ _ _ _ _ read (rw c.in-Err.is at c.answer_lines.ensures.stops)

pub loop-turn-preserved : goal.loop-turn-preserved
loop-turn-preserved g c =
    let some : 0 < c.in-Ok.count = search rules in
    let read = Read-of _ _ _ _ _ _ _ c.in-Ok.count c.loop-turn.invariant.hears c.in-Ok.ensures.ok some c.in-Ok.ensures.reads c.in-Ok.ensures.ends c.in-Ok.ensures.faults in
    let begun = rw c.in_default-answer_lines.is at c.answer_lines.ensures.begun in
    record {
      hears = Hears-more _ _ _ _ _ _ _ _ read (rw c.in_default-answer_lines.is at c.answer_lines.ensures.more) c.answer_lines.ensures.same.who (rw c.in_default-answer_lines.is at c.answer_lines.ensures.rest)
          (rw c.in_default-answer_lines.is at c.answer_lines.ensures.part);
      at_work = rw c.in_default-answer_lines.is at c.answer_lines.ensures.at_work;
      same = IsSameSpot-then _ _ _ c.loop-turn.invariant.same c.answer_lines.ensures.same;
      out = rw c.in_default-answer_lines.is at c.answer_lines.ensures.sent;
      begun = omega (arith, begun, c.loop-turn.invariant.begun, c.in-Ok.ensures.within);
      reads = omega (arith, c.in-Ok.ensures.reads, c.loop-turn.invariant.reads);
    }

pub returns-clause-heard : goal.returns-clause-heard
returns-clause-heard g c =
    let spent : (g.S.ByteSource.seen c.loop-turn.source).reads ≡ 16777216 = omega (arith, c.loop-turn-test.false, c.loop-turn.auto._turn-end, c.loop-turn.invariant.reads) in
    Heard-spent _ _ _ _ _ c.loop-turn.invariant.hears c.loop-turn.invariant.out spent
