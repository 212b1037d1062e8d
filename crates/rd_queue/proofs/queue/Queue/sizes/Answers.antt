-- The goals of `Queue::sizes` that the check left open.
use Rattle.std.proofs.Common.{subst, arith}
use Rattle.rd_queue.specs.QueueSnapshot.{QueueSnapshot}
use Rattle.rd_queue.specs.Queues.{count_in}
use Rattle.rd_queue.specs.Sizes.{IsSizedQueue}
use Rattle.rd_queue.proofs.ItemLaws.{All-first_items, length-items_in}
use Rattle.rd_queue.proofs.queue.Queue.sizes.Goals as goal

pub returns : goal.returns
returns c =
    let holds = c.self.invariant in
    let queue = c.self.inside in
    let bytes = queue.ring.bytes in
    subst (λ (q : QueueSnapshot). IsSizedQueue q) c.self.view_is (record {
      room = omega (arith, length-items_in queue.item_size bytes, holds.0.room);
      items = All-first_items queue.item_size (count_in queue.item_size bytes) bytes holds.0.whole;
      some_capacity = holds.1;
      few = holds.2;
      some_bytes = holds.0.pieces.some_bytes;
      small = holds.3;
      receiving = (holds.5, c.as_slice.ensures.room);
      sending = (holds.6, omega (arith, c.as_slice-2.ensures.room, holds.4));
      queue_set = holds.7;
    })
