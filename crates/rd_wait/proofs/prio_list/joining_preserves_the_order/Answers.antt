-- The goals of `joining_preserves_the_order` that the check left open.
use Rattle.rd_wait.proofs.JoinedLaws.{joining_preserves_the_order}
use Rattle.rd_wait.proofs.prio_list.joining_preserves_the_order.Goals as goal

pub returns : goal.returns
returns c = joining_preserves_the_order
