-- The goal of `each_message_change_is_read_back`.
use Rattle.rd_stream.proofs.MessagePackingLaws.{message_change_is_read_back}
use Rattle.rd_stream.proofs.message_packing.each_message_change_is_read_back.Goals as goal

pub returns : goal.returns
returns c = message_change_is_read_back
