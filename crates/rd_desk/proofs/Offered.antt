-- The laws of rd_desk that crates above stand on. No other of its proofs is used there.
pub use Rattle.rd_desk.proofs.DeskLaws.{presence_stays, same_served}
