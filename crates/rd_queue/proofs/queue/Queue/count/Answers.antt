-- The goals of `Queue::count` that the check left open.
use Rattle.std.proofs.Common.{◌∙◌, ◌/◌, length, sym, ap}
use Rattle.rd_queue.specs.QueueSnapshot.{QueueSnapshot}
use Rattle.rd_queue.proofs.ItemLaws.{length-items_in}
use Rattle.rd_queue.proofs.queue.Queue.count.Goals as goal

pub returns-clause-count : goal.returns-clause-count
returns-clause-count c =
    let queue = c.self.inside in
    ap (λ n. n / queue.item_size) c.len.ensures.len ∙ sym (length-items_in queue.item_size queue.ring.bytes)
    ∙ ap (λ (q : QueueSnapshot). length q.items) c.self.view_is
