-- The goals of `Queue::remove` that the check left open.
use Rattle.std.proofs.Common.{◌<◌}
use Rattle.rd_wait.proofs.Offered.{All-remove}
use Rattle.rd_queue.proofs.queue.Queue.remove.Goals as goal

pub invariant_of-self : goal.invariant_of-self
invariant_of-self c =
    let holds = c.self.invariant in
    let list = c.self.inside.receiving in
    rw c.remove_at.ensures.rest (assumption (All-remove (λ task. task < list.capacity) list.tasks c.args.index holds.5, holds))

pub invariant_of-self-in-Sending : goal.invariant_of-self-in-Sending
invariant_of-self-in-Sending c =
    let holds = c.self.invariant in
    let list = c.self.inside.sending in
    rw c.remove_at-in-Sending.ensures.rest
    (assumption (All-remove (λ task. task < c.self.inside.receiving.capacity) list.tasks c.args.index holds.6, holds))
