-- The goals of `each_set_change_is_undone` that the check left open.
use Rattle.rd_queue.proofs.QueueSetLaws.{queue_set_change_is_undone}
use Rattle.rd_queue.proofs.queue_set_change.each_queue_set_change_is_undone.Goals as goal

pub returns : goal.returns
returns c = queue_set_change_is_undone
