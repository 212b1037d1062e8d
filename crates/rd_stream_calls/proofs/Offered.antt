-- The laws of rd_stream_calls that crates above stand on. No other of its proofs is used there.
pub use Rattle.rd_stream_calls.proofs.BufferLaws.{IsBesideBuffers}
pub use Rattle.rd_stream_calls.proofs.StreamCallLaws.{IsConsistent-stream_call, stream_call-beside, stream_call-received, stream_call-tick}
pub use Rattle.rd_stream_calls.proofs.MessageCallLaws.{IsConsistent-message_call, message_call-beside, message_call-received, message_call-tick}
pub use Rattle.rd_stream_calls.proofs.SleepingLaws.{HasNoMore, IsBelow, message_call-sleeps, stream_call-sleeps}
