-- The goals of append_watch_list that the check left open.
use Rattle.std.proofs.Common.{arith, false}
use Rattle.rd_reply.proofs.TextLaws.{one_more}
use Rattle.rd_reply.specs.Replies.{watch_shown_text}
use Rattle.rd_reply.proofs.watches.append_watch_list.Goals as goal

pub loop-index-preserved : goal.loop-index-preserved
loop-index-preserved c =
    one_more watch_shown_text c.args.watches.now c.loop-index.index
    (record { number = 0; holds = false })
    _ _ _ _ (omega arith) c.loop-index.invariant c.append_comma.ensures
    c.append_watch_shown.ensures
