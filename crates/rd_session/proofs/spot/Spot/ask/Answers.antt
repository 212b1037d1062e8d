-- The goals of ask that the check left open.
use Rattle.std.proofs.Common.{◌∙◌, ap, arith, refl}
use Rattle.rd_hall.specs.SeatView.{RoomedSeat, SeatView}
use Rattle.rd_session.proofs.AnsweringLaws.{Answered-gathered, Answered-told}
use Rattle.rd_session.proofs.GatheringLaws.{answer_refused, answer_served}
use Rattle.rd_session.proofs.spot.Spot.ask.Goals as goal

pub returns-in-Ok-clause-answered : goal.returns-in-Ok-clause-answered
returns-in-Ok-clause-answered g c =
    Answered-told _ _ _ _ _ c.tell.result (ap (λ (s : RoomedSeat). s.session) c.tell.ensures.seat)
    (answer_served c.args.order.now.line c.args.order.now.command c.args.self.now.seat.now.session _ c.line.ensures.says (rw c.in-Ok.is at c.serve.ensures.ok))
    c.tell.ensures.said c.tell.ensures.unsaid

pub returns-in-Err-clause-answered : goal.returns-in-Err-clause-answered
returns-in-Err-clause-answered g c =
    Answered-gathered _ _ _ _ _ _
    (answer_refused c.args.order.now.line c.args.order.now.command c.args.self.now.seat.now.session _ c.in-Err.error c.line.ensures.says (rw c.in-Err.is at c.serve.ensures.err))
    (rw c.refusal_of-refusal.ensures at c.put_short.ensures.bytes) c.put_short.ensures.begun c.put_short.ensures.out

pub returns-in-Ok-clause-same : goal.returns-in-Ok-clause-same
returns-in-Ok-clause-same g c =
    let gains = rw c.in-Ok.is at c.serve.ensures.ok in
    let told = c.tell.ensures.same in
    record { gate = told.gate; seat = told.seat; pending = told.pending; sink = told.sink; who = told.who ∙ ap (λ (s : SeatView). s.who) gains.1.after }

pub returns-in-Err-clause-same : goal.returns-in-Err-clause-same
returns-in-Err-clause-same g c =
    record { gate = refl; seat = refl; pending = refl; sink = refl; who = ap (λ (s : SeatView). s.who) (rw c.in-Err.is at c.serve.ensures.err) }

pub returns-in-Err-clause-at_work : goal.returns-in-Err-clause-at_work
returns-in-Err-clause-at_work g c = record {
  out = omega (arith, c.put_short.ensures.begun, c.put_short.ensures.out, c.requires.ready.out);
  faults = c.requires.ready.faults;
}
