-- The tasks before this one were looked at.
use Rattle.std.proofs.Common.{◌+◌, ◌*◌}
use Rattle.rd_app.specs.Application.{priorities_of}
use Rattle.rd_state.specs.EditingView.{Reaches}
use Rattle.rd_kernel.specs.Waking.{timed_out}
use Rattle.rd_calls.proofs.tick.begin_tick.Given as goal

abbrev pub invariant-loop-task : goal.invariant-loop-task
invariant-loop-task l = record {
  comes : Reaches l.fn.editing l.editing (timed_out (priorities_of l.app) l.task (record l.fn.editing.now { tick = l.fn.editing.now.tick + 1 }))
      (1 + 3 * l.task);
}
