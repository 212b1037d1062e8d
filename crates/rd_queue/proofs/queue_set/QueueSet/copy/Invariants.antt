-- The handles before this one are copied, and the room is there.
use Rattle.std.proofs.Common.{◌≡◌, take}
use Rattle.std.specs.VecDeque.{deque_capacity}
use Rattle.rd_queue.proofs.queue_set.QueueSet.copy.Given as goal

abbrev pub invariant-loop-index : goal.invariant-loop-index
invariant-loop-index l = record {
  copied : l.handles.items ≡ take l.index l.self-inside.handles.items;
  reserved : deque_capacity l.handles ≡ l.self-inside.capacity;
}
