-- The laws of rd_queue that crates above stand on. No other of its proofs is used there.
pub use Rattle.rd_queue.proofs.QueueLaws.{queue_change_is_undone}
pub use Rattle.rd_queue.proofs.QueueSetLaws.{queue_set_change_is_undone}
pub use Rattle.rd_queue.proofs.PackingLaws.{items_short, queue_change_is_read_back, queue_inverse_has_bytes}
pub use Rattle.rd_queue.proofs.QueueSetPackingLaws.{queue_set_change_is_read_back, queue_set_inverse_has_bytes}
