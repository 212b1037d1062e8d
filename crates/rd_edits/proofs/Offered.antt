-- The laws of rd_edits that crates above stand on. No other of its proofs is used there.
pub use Rattle.rd_edits.proofs.ValidityLaws.{IsConsistent-edited, IsEditAt-valid, IsValid-edited, IsValid-edited_whole, edited-tick}
pub use Rattle.rd_edits.proofs.OneThingLaws.{edited-entry_state, edited-handles, edited-other_task, edited-phase, edited-settled, edits_change_one_thing}
