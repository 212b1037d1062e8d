-- The goals of `begin_tick` that the check left open.
use Rattle.std.proofs.Common.{◌+◌, rules}
use Rattle.rd_app.specs.Application.{priorities_of}
use Rattle.rd_kernel.proofs.Offered.{timed_out-next}
use Rattle.rd_calls.proofs.StepLaws.{room_when_due}
use Rattle.rd_calls.proofs.tick.begin_tick.Goals as goal

pub wake_if_due-requires-clause-room : goal.wake_if_due-requires-clause-room
wake_if_due-requires-clause-room c =
    room_when_due c.args.app.now c.args.editing.now.now c.loop-task.editing.now c.loop-task.task c.requires.valid (search rules) c.loop-task.invariant.comes.now
    c.state-in-loop-task.ensures.sized

pub loop-task-preserved : goal.loop-task-preserved
loop-task-preserved c =
    let next = timed_out-next (priorities_of c.args.app.now) c.loop-task.task (record c.args.editing.now.now { tick = c.args.editing.now.now.tick + 1 }) in
    search (rules, next)
