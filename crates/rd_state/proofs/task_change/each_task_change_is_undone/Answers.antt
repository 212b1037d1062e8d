-- The goals of `each_task_change_is_undone` that the check left open.
use Rattle.rd_state.proofs.TaskLaws.{each_is_undone}
use Rattle.rd_state.proofs.task_change.each_task_change_is_undone.Goals as goal

pub returns : goal.returns
returns c = each_is_undone
