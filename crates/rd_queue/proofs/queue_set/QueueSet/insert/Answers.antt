-- The goals of `QueueSet::insert` that a search finds late.
use Rattle.std.proofs.Common.{◌<◌, ap, arith}
use Rattle.rd_wait.proofs.Offered.{All-insert}
use Rattle.rd_queue.specs.QueueSetSnapshot.{QueueSetSnapshot}
use Rattle.rd_queue.proofs.queue_set.QueueSet.insert.Goals as goal

pub invariant_of-self : goal.invariant_of-self
invariant_of-self c =
    let holds = c.self.invariant in
    let list = c.self.inside.waiting in
    let below : c.args.task < list.capacity = omega (arith, c.requires.task, ap (λ (s : QueueSetSnapshot). s.task_count) c.self.view_is) in
    rw c.insert_at.ensures (assumption (All-insert (λ task. task < list.capacity) list.tasks c.args.index c.args.task holds.5 below, holds))
