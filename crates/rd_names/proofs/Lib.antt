-- The lemmas of this crate.
pub mod CountLaws
pub mod SetLaws
pub mod Offered
