-- The goals of `Queue::set_item` that the check left open.
use Rattle.std.proofs.Common.{◌≡◌, ◌∙◌, ◌<◌, ◌≤◌, length, subst, sym, ap, arith}
use Rattle.std.proofs.lemmas.Nat.{mul-le}
use Rattle.rd_queue.specs.QueueSnapshot.{QueueSnapshot}
use Rattle.rd_queue.proofs.ItemLaws.{length-items_in}
use Rattle.rd_queue.proofs.ItemRingLaws.{held_replaced, replaced_items}
use Rattle.rd_queue.proofs.queue.Queue.set_item.Goals as goal

pub overflow_mul-index : goal.overflow_mul-index
overflow_mul-index c =
    let queue = c.self.inside in
    let holds = c.self.invariant in
    let there = subst (λ (q : QueueSnapshot). c.args.index < length q.items) (sym c.self.view_is) c.requires.there in
    let few : c.args.index ≤ 64 = omega (arith, there, length-items_in queue.item_size queue.ring.bytes, holds.0.room, holds.2) in
    omega (arith, mul-le c.args.index queue.item_size 64 64 few holds.3)

pub set_piece-requires : goal.set_piece-requires
set_piece-requires c =
    let queue = c.self.inside in
    let there = subst (λ (q : QueueSnapshot). c.args.index < length q.items) (sym c.self.view_is) c.requires.there in
    let size : length c.args.item.now ≡ queue.item_size = c.requires.size ∙ sym (ap (λ (q : QueueSnapshot). q.item_size) c.self.view_is) in
    (held_replaced queue.ring queue.capacity queue.item_size c.args.index c.args.item.now c.self.invariant.0 there size).0

pub invariant_of-self : goal.invariant_of-self
invariant_of-self c =
    let holds = c.self.invariant in
    let queue = c.self.inside in
    let there = subst (λ (q : QueueSnapshot). c.args.index < length q.items) (sym c.self.view_is) c.requires.there in
    let size : length c.args.item.now ≡ queue.item_size = c.requires.size ∙ sym (ap (λ (q : QueueSnapshot). q.item_size) c.self.view_is) in
    let held = (held_replaced queue.ring queue.capacity queue.item_size c.args.index c.args.item.now holds.0 there size).1 in
    rw c.set_piece.ensures (assumption (held, holds))

pub returns : goal.returns
returns c =
    let queue = c.self.inside in
    let there = subst (λ (q : QueueSnapshot). c.args.index < length q.items) (sym c.self.view_is) c.requires.there in
    let size : length c.args.item.now ≡ queue.item_size = c.requires.size ∙ sym (ap (λ (q : QueueSnapshot). q.item_size) c.self.view_is) in
    rw (c.set_piece.ensures, ← c.self.view_is, replaced_items queue.ring queue.capacity queue.item_size c.args.index c.args.item.now c.self.invariant.0 there size)
