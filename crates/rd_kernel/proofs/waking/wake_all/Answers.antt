-- The goals of `wake_all` that the check left open.
use Rattle.std.proofs.Common.{rules}
use Rattle.rd_kernel.proofs.WakingLaws.{room_for_next}
use Rattle.rd_kernel.proofs.waking.wake_all.Goals as goal

pub wake-requires-clause-room : goal.wake-requires-clause-room
wake-requires-clause-room c =
    room_for_next c.args.priorities.now c.args.waking c.args.editing.now.now c.loop-task.editing.now c.args.tasks.now c.loop-task.task-index c.requires.room (search rules)
    c.loop-task.invariant.comes.now
