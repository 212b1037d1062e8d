-- The laws of rd_group_calls that crates above stand on. No other of its proofs is used there.
pub use Rattle.rd_group_calls.proofs.GroupCallLaws.{EntriesStay-group_call, IsBesideGroups, IsConsistent-group_call, group_call-beside, group_call-sleeps}
pub use Rattle.rd_group_calls.proofs.GroupCallLaws.{group_call-tick}
