-- The goals of `Queue::drop_last` that the check left open.
use Rattle.std.proofs.Common.{◌<◌, length, subst, sym}
use Rattle.rd_queue.specs.QueueSnapshot.{QueueSnapshot}
use Rattle.rd_queue.proofs.ItemRingLaws.{held_without_back, items_without_back}
use Rattle.rd_queue.proofs.queue.Queue.drop_last.Goals as goal

pub invariant_of-self : goal.invariant_of-self
invariant_of-self c =
    let holds = c.self.invariant in
    let queue = c.self.inside in
    let some = subst (λ (q : QueueSnapshot). 0 < length q.items) (sym c.self.view_is) c.requires in
    let held = (held_without_back queue.ring queue.capacity queue.item_size holds.0 some).1 in
    rw c.pop_back.ensures (assumption (held, holds))

pub returns : goal.returns
returns c =
    let queue = c.self.inside in
    let some = subst (λ (q : QueueSnapshot). 0 < length q.items) (sym c.self.view_is) c.requires in
    rw (c.pop_back.ensures, ← c.self.view_is, items_without_back queue.ring queue.capacity queue.item_size c.self.invariant.0 some)
