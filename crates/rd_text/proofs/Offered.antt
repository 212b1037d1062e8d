-- The laws of rd_text that crates above stand on. No other of its proofs is used there.
pub use Rattle.rd_text.proofs.WordLemmas.{and_left, and_right}
pub use Rattle.rd_text.proofs.NameLaws.{AreDistinctNames-push, IsNewName, IsNewName-in, not_true}
