-- The files of lemmas of rd_interrupts.
pub mod InterruptLaws
pub mod SideLaws
pub mod Offered
