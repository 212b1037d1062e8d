-- The goals of `QueueSet::remove` that the check left open.
use Rattle.std.proofs.Common.{◌<◌}
use Rattle.rd_wait.proofs.Offered.{All-remove}
use Rattle.rd_queue.proofs.queue_set.QueueSet.remove.Goals as goal

pub invariant_of-self : goal.invariant_of-self
invariant_of-self c =
    let holds = c.self.invariant in
    let list = c.self.inside.waiting in
    rw c.remove_at.ensures.rest (assumption (All-remove (λ task. task < list.capacity) list.tasks c.args.index holds.5, holds))
