-- The goal of `each_queue_set_change_is_read_back`.
use Rattle.rd_queue.proofs.QueueSetPackingLaws.{queue_set_change_is_read_back}
use Rattle.rd_queue.proofs.queue_set_packing.each_queue_set_change_is_read_back.Goals as goal

pub returns : goal.returns
returns c = queue_set_change_is_read_back
