-- The lemmas of this crate.
pub mod PageLaws
pub mod TextLaws
