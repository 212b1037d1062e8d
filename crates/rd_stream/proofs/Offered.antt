-- The laws of rd_stream that crates above stand on. No other of its proofs is used there.
pub use Rattle.rd_stream.proofs.StreamChangeLaws.{stream_change_is_undone}
pub use Rattle.rd_stream.proofs.StreamPackingLaws.{stream_change_is_read_back, stream_inverse_has_bytes}
pub use Rattle.rd_stream.proofs.MessageListLaws.{length-framed}
pub use Rattle.rd_stream.proofs.MessageChangeLaws.{message_change_is_undone}
pub use Rattle.rd_stream.proofs.MessagePackingLaws.{message_change_is_read_back, message_inverse_has_bytes}
