-- The lemmas of this crate.
pub mod WordLemmas
pub mod NameLemmas
pub mod NameLaws
pub mod Offered
