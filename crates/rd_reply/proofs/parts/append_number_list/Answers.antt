-- The goals of append_number_list that the check left open.
use Rattle.std.proofs.Common.{arith, decimal}
use Rattle.rd_reply.proofs.TextLaws.{one_more}
use Rattle.rd_reply.proofs.parts.append_number_list.Goals as goal

pub loop-index-preserved : goal.loop-index-preserved
loop-index-preserved c =
    one_more decimal c.args.numbers.now c.loop-index.index 0
    _ _ _ _ (omega arith) c.loop-index.invariant c.append_comma.ensures c.append_number.ensures
