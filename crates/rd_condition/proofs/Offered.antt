-- The law of rd_condition that crates above stand on. No other of its proofs is used there.
pub use Rattle.rd_condition.proofs.ConditionLaws.{HasCondition-valid}
