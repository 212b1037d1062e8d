-- The goal of put that the check left open.
use Rattle.std.proofs.Common.{arith, refl}
use Rattle.std.proofs.lemmas.Grind.{common_steps}
use Rattle.rd_hall.proofs.SeatLaws.{receipts-push}
use Rattle.rd_hall.proofs.receipts.Receipts.put.Goals as goal

pub invariant_of-self : goal.invariant_of-self
invariant_of-self c =
    receipts-push _ _ _ _ _ c.args.receipt c.self.invariant.0 (grind (arith, common_steps)) (grind (arith, common_steps)) (grind (arith, common_steps)) refl
