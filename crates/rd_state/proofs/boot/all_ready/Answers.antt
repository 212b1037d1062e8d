-- The goals of all_ready that the check left open.
use Rattle.std.proofs.Common.{arith, length, ◌<◌, ℕ}
use Rattle.std.proofs.lemmas.Grind.{common_steps}
use Rattle.std.proofs.lemmas.List.Edits.{length-insert}
use Rattle.rd_wait.proofs.Offered.{All-insert}
use Rattle.rd_state.proofs.boot.all_ready.Goals as goal

pub loop-task-preserved : goal.loop-task-preserved
loop-task-preserved c =
    let before = c.loop-task.invariant in
    let tasks = c.loop-task.ready.tasks in
    let index = c.index_for-index.result in
    let count = length-insert tasks index c.loop-task.task c.index_for-index.ensures.within in
    let among = λ (task : ℕ). task < length c.args.priorities.now in
    record {
      joined = grind (arith, common_steps);
      count = rw c.insert_at.ensures (omega (arith, count, before.count));
      tasks = rw c.insert_at.ensures (All-insert among tasks index c.loop-task.task before.tasks (omega arith));
      capacity = rw c.insert_at.ensures before.capacity;
    }
