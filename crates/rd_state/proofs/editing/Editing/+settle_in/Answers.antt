-- The goals of `Editing::settle_in` that the check left open.
use Rattle.std.proofs.Common.{Bool, Ok, ap, arith}
use Rattle.rd_state.proofs.SettleLaws.{Reaches-still}
use Rattle.rd_state.proofs.editing.Editing.+settle_in.Goals as goal

pub returns-else-branch-clause-ok : goal.returns-else-branch-clause-ok
returns-else-branch-clause-ok t c =
    Reaches-still c.args.priorities.now c.args.rounds _ _ (omega arith)
    (c.in_ok-run_head.ensures.still (ap (λ (moved : Bool). Ok moved) c.if-branch.false)) c.in_ok-run_head.ensures.ok
