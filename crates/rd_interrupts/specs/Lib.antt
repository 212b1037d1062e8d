-- The files of definitions of rd_interrupts.
pub mod Interrupts
pub mod InterruptLaws
