-- The goal of `each_queue_change_is_read_back`.
use Rattle.rd_queue.proofs.PackingLaws.{queue_change_is_read_back}
use Rattle.rd_queue.proofs.packing.each_queue_change_is_read_back.Goals as goal

pub returns : goal.returns
returns c = queue_change_is_read_back
