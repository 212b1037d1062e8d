-- The laws of rd_wait that crates above stand on. No other of its proofs is used there.
pub use Rattle.rd_wait.proofs.ListLaws.{All-insert, All-remove, AllByRecursion-insert, insert-remove, remove-insert, replaced_back, set_back}
pub use Rattle.rd_wait.proofs.JoinedLaws.{IsInOrder-joined, IsInOrder-remove, IsInOrder-rest}
pub use Rattle.rd_wait.proofs.SizedListLaws.{inserted_sized, removed_sized, room_after}
