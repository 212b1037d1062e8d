-- The lemmas of this crate.
pub mod FaultLaws
pub mod WalkLaws
pub mod WordsLaws
