-- The laws of rd_calls that crates above stand on. No other of its proofs is used there.
pub use Rattle.rd_calls.proofs.PlayLaws.{dropped_few, played_few, record_has_room}
pub use Rattle.rd_calls.proofs.CarriedLaws.{carried-no_memory, carried-settled, interrupt-no_isr, interrupt-refused}
