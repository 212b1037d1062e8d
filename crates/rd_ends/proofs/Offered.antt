-- The laws of rd_ends that crates above stand on. No other of its proofs is used there.
pub use Rattle.rd_ends.proofs.KnownLaws.{Appends-append, Appends-none, Consumes-append}
pub use Rattle.rd_ends.proofs.KnownLaws.{Consumes-same, Consumes-none, Keeps-same}
