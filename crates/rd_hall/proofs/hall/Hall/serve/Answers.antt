-- The goal of serve that the check left open.
use Rattle.std.proofs.Common.{◌∙◌, ◌<◌, ◌++◌, ◌∷◌, [], List, ap, arith, rules}
use Rattle.rd_desk.specs.declared.entry.Event.TheVariants.{Ask}
use Rattle.rd_desk.specs.declared.entry.Receipt.{Receipt}
use Rattle.rd_desk.specs.DeskView.{DeskView, Does, used}
use Rattle.rd_hall.specs.Seats.{Finds}
use Rattle.rd_hall.specs.SeatView.{RoomedSeat}
use Rattle.rd_hall.proofs.SharedLaws.{found_so, serves_seat}
use Rattle.rd_hall.proofs.hall.Hall.serve.Goals as goal

pub returns-clause-served : goal.returns-clause-served
returns-clause-served g c =
    let kept = c.seat.inside in
    let receipt = c.in_ok-receipt.receipt in
    let done = c.in_ok-receipt.ensures in
    let found : Finds g.L.Setup.app g.L.Setup.most_moves g.L.Setup.most_entries kept.share.amount
    (λ d. (used d < d.most_entries) × (new : DeskView) × Does d kept.receipts.who (Ask c.args.order.now.command) new receipt) = (
      c.deref_mut-2.result.now.desk,
      found_so c.deref_mut.result.now c.deref_mut-2.result.now _ _ _ _ (search rules) (search rules) (search rules) c.backs.ensures.backed,
      (done.place, c.serve.new.self.desk, done.ok),
    ) in
    serves_seat c.args.seat.now.session kept.receipts c.put.new.self kept.share.amount _ receipt _ _ _ _
    (ap (λ (seat : RoomedSeat). seat.session) c.seat.view_is ∙ c.make_room-made.ensures.session)
    (c.put.ensures.who ∙ done.stay.who) (c.put.ensures.receipts ∙ ap (λ (receipts : List Receipt). receipts ++ receipt ∷ []) done.stay.receipts)
    (omega (arith, done.amount, c.backs.ensures.amount)) found
