-- The goals of begin that the check left open.
use Rattle.std.proofs.Common.{◌∙◌, ap, arith, length}
use Rattle.rd_session.specs.BuffersView.{PendingView}
use Rattle.rd_session.proofs.AnsweringLaws.{Begins-of}
use Rattle.rd_session.proofs.spot.Spot.begin.Goals as goal

pub returns-clause-begins : goal.returns-clause-begins
returns-clause-begins g c =
    Begins-of _ _ _ _ c.who.result _ c.in_ok-make_room.ensures.goes_on (c.who.ensures ∙ c.make_room.ensures.same.who) c.begin.ensures c.begun.ensures c.before-2.ensures

pub returns-clause-ready : goal.returns-clause-ready
returns-clause-ready g c =
    let room = c.in_ok-make_room.ensures in
    let now = c.begin.ensures in
    record {
      room = omega (arith, room.room, ap (λ (q : PendingView). length q.bytes) now, ap (λ (q : PendingView). q.capacity) now);
      out = omega (arith, room.at_work.out, ap (λ (q : PendingView). q.begun) now, ap (λ (q : PendingView). q.out) now);
      faults = room.at_work.faults;
    }
