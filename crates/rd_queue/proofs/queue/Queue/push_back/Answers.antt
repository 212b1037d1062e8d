-- The goals of `Queue::push_back` that the check left open.
use Rattle.std.proofs.Common.{◌≡◌, ◌∙◌, ◌<◌, length, subst, sym, ap, arith}
use Rattle.rd_queue.specs.QueueSnapshot.{QueueSnapshot}
use Rattle.rd_queue.proofs.ItemRingLaws.{held_back, back_items}
use Rattle.rd_queue.proofs.queue.Queue.push_back.Goals as goal

pub push_back-requires : goal.push_back-requires
push_back-requires c =
    let queue = c.self.inside in
    let size = ap (λ (q : QueueSnapshot). q.item_size) c.self.view_is in
    let space = subst (λ (q : QueueSnapshot). length q.items < q.capacity) (sym c.self.view_is) c.requires.space in
    (held_back queue.ring queue.capacity queue.item_size 1 c.args.item.now c.self.invariant.0 (omega (arith, c.requires.size, size)) (omega (arith, space))).0

pub invariant_of-self : goal.invariant_of-self
invariant_of-self c =
    let holds = c.self.invariant in
    let queue = c.self.inside in
    let size = ap (λ (q : QueueSnapshot). q.item_size) c.self.view_is in
    let space = subst (λ (q : QueueSnapshot). length q.items < q.capacity) (sym c.self.view_is) c.requires.space in
    let held = (held_back queue.ring queue.capacity queue.item_size 1 c.args.item.now holds.0 (omega (arith, c.requires.size, size)) (omega (arith, space))).1 in
    rw c.push_back.ensures (assumption (held, holds))

pub returns : goal.returns
returns c =
    let queue = c.self.inside in
    let size : length c.args.item.now ≡ queue.item_size = c.requires.size ∙ sym (ap (λ (q : QueueSnapshot). q.item_size) c.self.view_is) in
    rw (c.push_back.ensures, ← c.self.view_is, back_items queue.ring queue.capacity queue.item_size c.args.item.now c.self.invariant.0 size)
