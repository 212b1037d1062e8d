-- The goals of `Queue::insert` that a search finds late.
use Rattle.std.proofs.Common.{◌<◌, ap, arith}
use Rattle.rd_wait.proofs.Offered.{All-insert}
use Rattle.rd_queue.specs.QueueSnapshot.{QueueSnapshot}
use Rattle.rd_queue.proofs.queue.Queue.insert.Goals as goal

pub invariant_of-self : goal.invariant_of-self
invariant_of-self c =
    let holds = c.self.invariant in
    let list = c.self.inside.receiving in
    let below : c.args.task < list.capacity = omega (arith, c.requires.task, ap (λ (q : QueueSnapshot). q.task_count) c.self.view_is) in
    rw c.insert_at.ensures (assumption (All-insert (λ task. task < list.capacity) list.tasks c.args.index c.args.task holds.5 below, holds))

pub invariant_of-self-in-Sending : goal.invariant_of-self-in-Sending
invariant_of-self-in-Sending c =
    let holds = c.self.invariant in
    let list = c.self.inside.sending in
    let room = c.self.inside.receiving.capacity in
    let below : c.args.task < room = omega (arith, c.requires.task, ap (λ (q : QueueSnapshot). q.task_count) c.self.view_is) in
    rw c.insert_at-in-Sending.ensures (assumption (All-insert (λ task. task < room) list.tasks c.args.index c.args.task holds.6 below, holds))
