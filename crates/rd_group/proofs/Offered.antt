-- The laws of rd_group that crates above stand on. No other of its proofs is used there.
pub use Rattle.rd_group.proofs.GroupLaws.{All-met_tasks, length-met_tasks, left_after-le}
pub use Rattle.rd_group.proofs.GroupChangeLaws.{group_change_is_undone}
pub use Rattle.rd_group.proofs.GroupPackingLaws.{group_change_is_read_back, group_inverse_has_bytes}
