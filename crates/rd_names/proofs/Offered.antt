-- The laws of rd_names that crates above stand on. No other of its proofs is used there.
pub use Rattle.rd_names.proofs.SetLaws.{names_among-distinct}
