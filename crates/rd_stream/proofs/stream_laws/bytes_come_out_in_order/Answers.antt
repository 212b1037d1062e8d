-- The goal of `bytes_come_out_in_order`.
use Rattle.rd_stream.proofs.StreamLaws.{bytes_come_out_in_order}
use Rattle.rd_stream.proofs.stream_laws.bytes_come_out_in_order.Goals as goal

pub returns : goal.returns
returns c = bytes_come_out_in_order
