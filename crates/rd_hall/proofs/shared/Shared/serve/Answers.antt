-- The goal of serve that the check left open.
use Rattle.std.proofs.Common.{arith}
use Rattle.rd_hall.proofs.SharedLaws.{IsOf-does, counted-does}
use Rattle.rd_hall.proofs.shared.Shared.serve.Goals as goal

pub invariant_of-self-2 : goal.invariant_of-self-2
invariant_of-self-2 g c = (
  omega (arith, counted-does _ _ _ _ _ c.in_ok-receipt.ensures.ok, c.self.invariant.0, c.add.ensures.total),
  IsOf-does _ _ _ _ _ _ _ _ c.in_ok-receipt.ensures.ok c.self.invariant.1,
  c.self.invariant.2,
)
