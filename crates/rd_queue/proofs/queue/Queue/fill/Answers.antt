-- The goals of `Queue::fill` that the check left open.
use Rattle.std.proofs.Common.{◌≡◌, ◌∙◌, ◌+◌, ◌≤◌, ◌++◌, length, subst, sym, ap, arith, append_assoc}
use Rattle.std.proofs.lemmas.List.{length-append}
use Rattle.rd_ring.specs.RingView.{RingView}
use Rattle.rd_ring.specs.Rings.{with_back}
use Rattle.rd_queue.specs.Changes.{HasSpaceForAll}
use Rattle.rd_queue.specs.QueueSnapshot.{QueueSnapshot}
use Rattle.rd_queue.specs.Queues.{count_in, items_in}
use Rattle.rd_queue.proofs.ItemRingLaws.{empty_bytes, held_back}
use Rattle.rd_queue.proofs.queue.Queue.fill.Goals as goal

pub push_back-requires : goal.push_back-requires
push_back-requires c =
    let queue = c.self.inside in
    let bytes = c.args.front.now ++ c.args.back.now in
    let space = subst (λ (q : QueueSnapshot). HasSpaceForAll q bytes) (sym c.self.view_is) c.requires in
    let fits : length (items_in queue.item_size queue.ring.bytes) + count_in queue.item_size bytes ≤ queue.capacity = rw space.empty (omega (arith, space.space)) in
    let held = (held_back queue.ring queue.capacity queue.item_size (count_in queue.item_size bytes) bytes c.self.invariant.0 space.whole fits).0 in
    omega (arith, held, length-append c.args.front.now c.args.back.now)

pub push_back-requires-2 : goal.push_back-requires-2
push_back-requires-2 c =
    let queue = c.self.inside in
    let bytes = c.args.front.now ++ c.args.back.now in
    let space = subst (λ (q : QueueSnapshot). HasSpaceForAll q bytes) (sym c.self.view_is) c.requires in
    let fits : length (items_in queue.item_size queue.ring.bytes) + count_in queue.item_size bytes ≤ queue.capacity = rw space.empty (omega (arith, space.space)) in
    let held = (held_back queue.ring queue.capacity queue.item_size (count_in queue.item_size bytes) bytes c.self.invariant.0 space.whole fits).0 in
    rw c.push_back.ensures
    (omega (arith, held, length-append c.args.front.now c.args.back.now, length-append queue.ring.bytes c.args.front.now))

pub invariant_of-self : goal.invariant_of-self
invariant_of-self c =
    let holds = c.self.invariant in
    let queue = c.self.inside in
    let size = queue.item_size in
    let bytes = c.args.front.now ++ c.args.back.now in
    let space = subst (λ (q : QueueSnapshot). HasSpaceForAll q bytes) (sym c.self.view_is) c.requires in
    let fits : length (items_in size queue.ring.bytes) + count_in size bytes ≤ queue.capacity = rw space.empty (omega (arith, space.space)) in
    let held = (held_back queue.ring queue.capacity size (count_in size bytes) bytes holds.0 space.whole fits).1 in
    let both : c.push_back-2.new.self ≡ with_back queue.ring bytes =
    c.push_back-2.ensures ∙ ap (λ (r : RingView). with_back r c.args.back.now) c.push_back.ensures
    ∙ ap (λ bs. record queue.ring { bytes = bs }) (append_assoc queue.ring.bytes c.args.front.now c.args.back.now) in
    rw both (assumption (held, holds))

pub returns : goal.returns
returns c =
    let queue = c.self.inside in
    let bytes = c.args.front.now ++ c.args.back.now in
    let space = subst (λ (q : QueueSnapshot). HasSpaceForAll q bytes) (sym c.self.view_is) c.requires in
    let both : c.push_back-2.new.self ≡ with_back queue.ring bytes =
    c.push_back-2.ensures ∙ ap (λ (r : RingView). with_back r c.args.back.now) c.push_back.ensures
    ∙ ap (λ bs. record queue.ring { bytes = bs }) (append_assoc queue.ring.bytes c.args.front.now c.args.back.now) in
    rw (both, ← c.self.view_is, empty_bytes queue.ring queue.capacity queue.item_size c.self.invariant.0 space.empty)
