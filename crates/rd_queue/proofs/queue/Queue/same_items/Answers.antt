-- The goals of `Queue::same_items` that the check left open.
use Rattle.std.proofs.Common.{◌≡◌, ◌∙◌, ℕ, subst, sym, ap}
use Rattle.rd_queue.specs.ItemRings.{HoldsItems}
use Rattle.rd_queue.specs.QueueSnapshot.{QueueSnapshot}
use Rattle.rd_queue.proofs.ItemRingLaws.{same_ring_items}
use Rattle.rd_queue.proofs.queue.Queue.same_items.Goals as goal

pub returns : goal.returns
returns c =
    let queue = c.self.inside in
    let other = c.other.inside in
    let capacity : other.capacity ≡ queue.capacity =
    ap (λ (q : QueueSnapshot). q.capacity) c.other.view_is ∙ sym (ap (λ (q : QueueSnapshot). q.capacity) c.self.view_is ∙ c.requires.capacity) in
    let size : other.item_size ≡ queue.item_size =
    ap (λ (q : QueueSnapshot). q.item_size) c.other.view_is ∙ sym (ap (λ (q : QueueSnapshot). q.item_size) c.self.view_is ∙ c.requires.size) in
    let held =
    subst (λ (n : ℕ). HoldsItems other.ring queue.capacity n) size (subst (λ (n : ℕ). HoldsItems other.ring n other.item_size) capacity c.other.invariant.0) in
    let same = same_ring_items queue.ring other.ring queue.capacity queue.item_size c.self.invariant.0 held in
    rw (← c.self.view_is, ← c.other.view_is, size) ((λ it. same.0 (c.same.ensures.0 it)), (λ it. c.same.ensures.1 (same.1 it)))
