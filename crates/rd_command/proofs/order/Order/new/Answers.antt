-- The goals of `Order::new` that the check left open.
use Rattle.std.proofs.Common.{refl}
use Rattle.rd_command.proofs.OrderLaws.{command_is, order_is}
use Rattle.rd_command.proofs.order.Order.new.Goals as goal

pub invariant_of-result : goal.invariant_of-result
invariant_of-result c = order_is _ _ _ _ _ _ refl c.line.ensures c.needs_wheel.ensures c.requires.bound

pub returns-clause-command : goal.returns-clause-command
returns-clause-command c = command_is _ _ c.line.ensures
