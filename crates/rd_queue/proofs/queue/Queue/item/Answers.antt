-- The goals of `Queue::item` that the check left open.
use Rattle.std.proofs.Common.{◌∙◌, ◌<◌, ◌≤◌, [], get_or, length, subst, sym, ap, arith}
use Rattle.std.proofs.Math.Nat.{mul-mod_left}
use Rattle.std.proofs.lemmas.Nat.{mul-le}
use Rattle.rd_queue.specs.QueueSnapshot.{QueueSnapshot}
use Rattle.rd_queue.proofs.ItemLaws.{length-items_in}
use Rattle.rd_queue.proofs.ItemRingLaws.{item_of}
use Rattle.rd_queue.proofs.queue.Queue.item.Goals as goal

pub overflow_mul-index : goal.overflow_mul-index
overflow_mul-index c =
    let queue = c.self.inside in
    let holds = c.self.invariant in
    let there = subst (λ (q : QueueSnapshot). c.args.index < length q.items) (sym c.self.view_is) c.requires in
    let few : c.args.index ≤ 64 = omega (arith, there, length-items_in queue.item_size queue.ring.bytes, holds.0.room, holds.2) in
    omega (arith, mul-le c.args.index queue.item_size 64 64 few holds.3)

pub piece-requires-clause-there : goal.piece-requires-clause-there
piece-requires-clause-there c =
    let queue = c.self.inside in
    let there = subst (λ (q : QueueSnapshot). c.args.index < length q.items) (sym c.self.view_is) c.requires in
    (item_of queue.ring queue.capacity queue.item_size c.args.index c.self.invariant.0 there).0

pub piece-requires-clause-begins : goal.piece-requires-clause-begins
piece-requires-clause-begins c = mul-mod_left c.args.index c.self.inside.item_size

pub returns-clause-item : goal.returns-clause-item
returns-clause-item c =
    let queue = c.self.inside in
    let there = subst (λ (q : QueueSnapshot). c.args.index < length q.items) (sym c.self.view_is) c.requires in
    c.piece.ensures ∙ (item_of queue.ring queue.capacity queue.item_size c.args.index c.self.invariant.0 there).1
    ∙ ap (λ (q : QueueSnapshot). get_or q.items c.args.index []) c.self.view_is
