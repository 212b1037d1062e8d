-- The goal of `RecentRow::of` that the check left open.
use Rattle.std.proofs.Common.{rules}
use Rattle.rd_command.proofs.OrderLaws.{order_is}
use Rattle.rd_command.proofs.recent.RecentRow.of.Goals.{in-Ok+in_ok-lasting-in-Ok, in-Err}
use Rattle.rd_command.proofs.recent.RecentRow.of.Goals as goal

pub returns : goal.returns
returns c = λ known. λ is.
    order_is known c.line.result.now _ c.args.command.now _ _ (search rules) c.line.ensures c.needs_wheel.ensures
    (elim c.match-bound.branch [ in-Ok+in_ok-lasting-in-Ok w ↦ search rules | in-Err w ↦ search rules ])
