-- The goals of `Queue::is_full` that the check left open.
use Rattle.std.proofs.Common.{arith}
use Rattle.std.proofs.lemmas.Grind.{common_steps}
use Rattle.rd_queue.proofs.ItemLaws.{length-items_in}
use Rattle.rd_queue.proofs.ItemRingLaws.{full_ring}
use Rattle.rd_queue.proofs.queue.Queue.is_full.Goals as goal

pub returns-clause-full : goal.returns-clause-full
returns-clause-full c =
    let queue = c.self.inside in
    let full = full_ring queue.ring queue.capacity queue.item_size c.self.invariant.0 in
    rw (← c.self.view_is, c.len.ensures.len, c.capacity.ensures) (grind (arith, common_steps, full.0, full.1))

pub returns-clause-room : goal.returns-clause-room
returns-clause-room c =
    let queue = c.self.inside in
    rw (← c.self.view_is) (omega (arith, length-items_in queue.item_size queue.ring.bytes, c.self.invariant.0.room))
