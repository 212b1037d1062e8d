-- The goals of `Queue::push_front` that the check left open.
use Rattle.std.proofs.Common.{◌≡◌, ◌∙◌, ◌<◌, length, subst, sym, ap}
use Rattle.rd_queue.specs.QueueSnapshot.{QueueSnapshot}
use Rattle.rd_queue.proofs.ItemRingLaws.{held_front, front_items}
use Rattle.rd_queue.proofs.queue.Queue.push_front.Goals as goal

pub push_front-requires : goal.push_front-requires
push_front-requires c =
    let queue = c.self.inside in
    let size : length c.args.item.now ≡ queue.item_size = c.requires.size ∙ sym (ap (λ (q : QueueSnapshot). q.item_size) c.self.view_is) in
    let space = subst (λ (q : QueueSnapshot). length q.items < q.capacity) (sym c.self.view_is) c.requires.space in
    (held_front queue.ring queue.capacity queue.item_size c.args.item.now c.self.invariant.0 size space).0

pub invariant_of-self : goal.invariant_of-self
invariant_of-self c =
    let holds = c.self.invariant in
    let queue = c.self.inside in
    let size : length c.args.item.now ≡ queue.item_size = c.requires.size ∙ sym (ap (λ (q : QueueSnapshot). q.item_size) c.self.view_is) in
    let space = subst (λ (q : QueueSnapshot). length q.items < q.capacity) (sym c.self.view_is) c.requires.space in
    let held = (held_front queue.ring queue.capacity queue.item_size c.args.item.now holds.0 size space).1 in
    rw c.push_front.ensures (assumption (held, holds))

pub returns : goal.returns
returns c =
    let queue = c.self.inside in
    let size : length c.args.item.now ≡ queue.item_size = c.requires.size ∙ sym (ap (λ (q : QueueSnapshot). q.item_size) c.self.view_is) in
    rw (c.push_front.ensures, ← c.self.view_is, front_items queue.ring queue.capacity queue.item_size c.args.item.now c.self.invariant.0 size)
