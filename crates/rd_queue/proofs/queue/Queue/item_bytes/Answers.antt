-- The goal of `Queue::item_bytes` that the check left open.
use Rattle.std.proofs.Common.{◌∙◌, sym, ap}
use Rattle.std.specs.List.{concat}
use Rattle.rd_queue.specs.QueueSnapshot.{QueueSnapshot}
use Rattle.rd_queue.proofs.ItemLaws.{concat-items_in}
use Rattle.rd_queue.proofs.queue.Queue.item_bytes.Goals as goal

pub returns : goal.returns
returns c =
    let queue = c.self.inside in
    c.halves.ensures ∙ sym (concat-items_in queue.item_size queue.ring.bytes c.self.invariant.0.whole) ∙ ap (λ (q : QueueSnapshot). concat q.items) c.self.view_is
