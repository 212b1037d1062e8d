-- The goal of leave that the check left open.
use Rattle.std.proofs.Common.{◌∙◌, ap, arith, length, sym}
use Rattle.std.proofs.lemmas.Grind.{common_steps}
use Rattle.rd_hall.specs.SeatView.{ReceiptsView}
use Rattle.rd_hall.proofs.SeatLaws.{IsSeat-of, IsSeat-push}
use Rattle.rd_hall.proofs.seat.Seat.leave.Goals as goal

pub invariant_of-result : goal.invariant_of-result
invariant_of-result g c =
    let before = IsSeat-of _ _ _ _ _ c.receipts.invariant.0 c.self.invariant.0 (c.self.invariant.1 ∙ ap (λ (kept : ReceiptsView). length kept.receipts) (sym c.receipts.view_is)) in
    IsSeat-push _ _ _ _ c.args.receipt _ _ _ _ before (grind (arith, common_steps)) (grind (arith, common_steps)) (grind (arith, common_steps)) (grind (arith, common_steps)) (grind (arith, common_steps)) (grind (arith, common_steps))
