-- The laws of rd_timeline that crates above stand on. No other of its proofs is used there.
pub use Rattle.rd_timeline.proofs.RefusedLaws.{refused_request, went_on}
pub use Rattle.rd_timeline.proofs.TrimLaws.{base_is_within_moves}
