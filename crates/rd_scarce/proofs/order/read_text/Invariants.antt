use Rattle.std.proofs.Common.{◌≤◌}
use Rattle.rd_scarce.proofs.order.read_text.Given as goal

abbrev pub invariant-loop-turn : goal.invariant-loop-turn
invariant-loop-turn g l = l.end ≤ 256
