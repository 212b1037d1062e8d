-- The goals of append_items that the check left open.
use Rattle.std.proofs.Common.{ℕ, List, [], subst, arith}
use Rattle.rd_reply.proofs.TextLaws.{one_more, all_joined}
use Rattle.rd_reply.specs.Pages.{Appends}
use Rattle.rd_reply.specs.Replies.{bytes_text}
use Rattle.rd_reply.proofs.queues.append_items.Goals as goal

pub loop-index-preserved : goal.loop-index-preserved
loop-index-preserved c =
    let item = λ (bytes : List ℕ). Appends c.append_comma.new.page c.append_bytes.new.page
    (bytes_text bytes) in
    one_more bytes_text c.args.queue.now.items c.loop-index.index []
    _ _ _ _ (omega arith) c.loop-index.invariant c.append_comma.ensures
    (subst item c.item.ensures.item c.append_bytes.ensures)

pub returns : goal.returns
returns c =
    all_joined bytes_text c.args.queue.now.items c.loop-index.index _ _ (omega arith) (omega arith)
    c.loop-index.invariant
