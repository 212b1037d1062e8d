-- The goals of append_task_names that the check left open.
use Rattle.std.proofs.Common.{arith}
use Rattle.rd_reply.proofs.TextLaws.{one_more}
use Rattle.rd_reply.specs.Names.{name_at}
use Rattle.rd_reply.proofs.parts.append_task_names.Goals as goal

pub loop-index-preserved : goal.loop-index-preserved
loop-index-preserved c =
    one_more (name_at c.args.names.now.tasks) c.args.tasks.now c.loop-index.index 0
    _ _ _ _ (omega arith) c.loop-index.invariant c.append_comma.ensures c.append_name.ensures
