-- Lemmas about what is read and written.
pub mod KnownLaws
pub mod Offered
