-- The laws of rd_ring that crates above stand on. No other of its proofs is used there.
pub use Rattle.rd_ring.proofs.OffsetLaws.{whole_pieces_stay_whole}
pub use Rattle.rd_ring.proofs.UndoLaws.{ring_change_is_undone}
