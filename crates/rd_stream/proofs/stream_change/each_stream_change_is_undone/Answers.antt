-- The goal of `each_stream_change_is_undone`.
use Rattle.rd_stream.proofs.StreamChangeLaws.{stream_change_is_undone}
use Rattle.rd_stream.proofs.stream_change.each_stream_change_is_undone.Goals as goal

pub returns : goal.returns
returns c = stream_change_is_undone
