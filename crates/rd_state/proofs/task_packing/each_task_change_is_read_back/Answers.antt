-- The goal of `each_task_change_is_read_back`.
use Rattle.rd_state.proofs.TaskPackingLaws.{task_change_is_read_back}
use Rattle.rd_state.proofs.task_packing.each_task_change_is_read_back.Goals as goal

pub returns : goal.returns
returns c = task_change_is_read_back
