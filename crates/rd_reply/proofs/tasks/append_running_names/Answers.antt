-- The goals of append_running_names that the check left open.
use Rattle.std.proofs.Common.{arith, None}
use Rattle.rd_reply.proofs.TextLaws.{one_more}
use Rattle.rd_reply.specs.Names.{name_or_dash}
use Rattle.rd_reply.proofs.tasks.append_running_names.Goals as goal

pub loop-index-preserved : goal.loop-index-preserved
loop-index-preserved c =
    one_more (name_or_dash c.args.names.now.tasks) c.args.cores.now c.loop-index.index None
    _ _ _ _ (omega arith) c.loop-index.invariant c.append_comma.ensures
    c.append_name_or_dash.ensures
