-- The goals of `select` that the check left open.
use Rattle.std.proofs.Common.{◌<◌, length, ap, arith}
use Rattle.rd_state.specs.Snapshot.{Snapshot}
use Rattle.rd_state.proofs.Offered.{queue_count_shaped}
use Rattle.rd_queue_calls.proofs.selecting.select.Goals as goal

pub overflow_cast-result : goal.overflow_cast-result
overflow_cast-result c =
    let s = c.args.editing.now.now in
    let few : c.first_handle-queue.result < 33 =
    omega (
      arith,
      c.first_handle-queue.ensures.queue,
      c.queue_set-2.ensures.sized.2,
      ap (λ (t : Snapshot). length t.objects.queues) c.state-2.ensures.state,
      queue_count_shaped c.args.app.now s.objects c.requires.caller.valid.in_limits.objects,
      c.limits.ensures.objects.few_queues,
    ) in
    omega (arith, few)

pub overflow_add-result : goal.overflow_add-result
overflow_add-result c =
    let s = c.args.editing.now.now in
    let few : c.first_handle-queue.result < 33 =
    omega (
      arith,
      c.first_handle-queue.ensures.queue,
      c.queue_set-2.ensures.sized.2,
      ap (λ (t : Snapshot). length t.objects.queues) c.state-2.ensures.state,
      queue_count_shaped c.args.app.now s.objects c.requires.caller.valid.in_limits.objects,
      c.limits.ensures.objects.few_queues,
    ) in
    omega (arith, few)
