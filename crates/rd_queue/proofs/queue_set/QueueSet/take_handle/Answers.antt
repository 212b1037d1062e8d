-- The goals of `QueueSet::take_handle` that the check left open.
use Rattle.std.proofs.Common.{◌<◌, ◌≤◌, length, drop, arith}
use Rattle.std.proofs.lemmas.List.{length-drop}
use Rattle.std.proofs.lemmas.List.Elements.{All-drop}
use Rattle.rd_queue.proofs.queue_set.QueueSet.take_handle.Goals as goal

pub invariant_of-self : goal.invariant_of-self
invariant_of-self c =
    let holds = c.self.invariant in
    let handles = c.self.inside.handles.items in
    let fewer : length (drop 1 handles) ≤ c.self.inside.capacity = omega (arith, length-drop 1 handles, holds.0) in
    rw (c.pop_front.ensures.rest, c.pop_front.ensures.capacity)
    (assumption (fewer, All-drop (λ queue. queue < c.self.inside.queue_count) 1 handles holds.1, holds))
