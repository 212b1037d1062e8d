-- The tasks before this one are woken.
use Rattle.std.proofs.Common.{◌*◌, take}
use Rattle.rd_state.specs.EditingView.{Reaches}
use Rattle.rd_kernel.specs.Waking.{woken_all}
use Rattle.rd_kernel.proofs.waking.wake_all.Given as goal

abbrev pub invariant-loop-task : goal.invariant-loop-task
invariant-loop-task l = record {
  comes : Reaches l.fn.editing l.editing (woken_all l.priorities l.waking l.fn.editing.now (take l.task-index l.tasks)) (3 * l.task-index);
}
