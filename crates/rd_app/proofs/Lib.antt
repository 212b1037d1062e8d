-- The lemmas of this crate.
mod BuiltinLaws
mod ProfileLaws
pub mod Offered
