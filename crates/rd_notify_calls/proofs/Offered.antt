-- The laws of rd_notify_calls that crates above stand on. No other of its proofs is used there.
pub use Rattle.rd_notify_calls.proofs.NotifyCallLaws.{IsConsistent-notified, IsConsistent-notify_call, ByWaking, by_waking, notified-tick}
pub use Rattle.rd_notify_calls.proofs.NotifyLaws.{notified-has_received, notified-received}
