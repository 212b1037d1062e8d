-- The laws of rd_command that crates above stand on. No other of its proofs is used there.
pub use Rattle.rd_command.proofs.BindingLaws.{bound_is_there}
pub use Rattle.rd_command.proofs.EffectLaws.{wheel_as_said}
