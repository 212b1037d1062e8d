-- The laws of rd_interrupts that crates above stand on. No other of its proofs is used there.
pub use Rattle.rd_interrupts.proofs.InterruptLaws.{IsInterruptAt-valid, IsSettled-interrupt, IsValid-interrupt, notifications_arrive_by_interrupt}
pub use Rattle.rd_interrupts.proofs.InterruptLaws.{refused_interrupts_change_nothing}
pub use Rattle.rd_interrupts.proofs.SideLaws.{interrupt-handles, interrupt-received, interrupt-sleeps}
