-- The goals of append_entry_list that the check left open.
use Rattle.std.proofs.Common.{arith}
use Rattle.rd_notify.specs.declared.entries.EntryState.TheVariants.{Idle}
use Rattle.rd_reply.proofs.TextLaws.{one_more}
use Rattle.rd_reply.specs.Replies.{entry_text}
use Rattle.rd_reply.proofs.tasks.append_entry_list.Goals as goal

pub loop-index-preserved : goal.loop-index-preserved
loop-index-preserved c =
    one_more entry_text c.args.entries.now c.loop-index.index (record { value = 0; state = Idle })
    _ _ _ _ (omega arith) c.loop-index.invariant c.append_comma.ensures c.append_entry.ensures
