-- The goals of append_handle_names that the check left open.
use Rattle.std.proofs.Common.{ℕ, arith, subst}
use Rattle.rd_reply.proofs.TextLaws.{one_more}
use Rattle.rd_reply.specs.Pages.{Appends}
use Rattle.rd_reply.specs.Names.{name_at}
use Rattle.rd_reply.proofs.queues.append_handle_names.Goals as goal

pub loop-index-preserved : goal.loop-index-preserved
loop-index-preserved c =
    let names = c.args.names.now.queues in
    let name = λ (queue : ℕ). Appends c.append_comma.new.page c.append_name.new.page
    (name_at names queue) in
    one_more (name_at names) c.args.queue_set.now.handles c.loop-index.index 0
    _ _ _ _ (omega arith) c.loop-index.invariant c.append_comma.ensures
    (subst name c.handle.ensures.handle c.append_name.ensures)
