-- The goal of `each_stream_change_is_read_back`.
use Rattle.rd_stream.proofs.StreamPackingLaws.{stream_change_is_read_back}
use Rattle.rd_stream.proofs.stream_packing.each_stream_change_is_read_back.Goals as goal

pub returns : goal.returns
returns c = stream_change_is_read_back
