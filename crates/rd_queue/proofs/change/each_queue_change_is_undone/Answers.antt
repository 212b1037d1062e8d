-- The goals of `each_queue_change_is_undone` that the check left open.
use Rattle.rd_queue.proofs.QueueLaws.{queue_change_is_undone}
use Rattle.rd_queue.proofs.change.each_queue_change_is_undone.Goals as goal

pub returns : goal.returns
returns c = queue_change_is_undone
