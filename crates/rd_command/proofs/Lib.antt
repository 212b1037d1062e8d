-- The lemmas of this crate.
pub mod BindingLaws
pub mod CommandLaws
pub mod EffectLaws
pub mod FormLaws
pub mod LengthLaws
pub mod OrderLaws
pub mod Steps
pub mod TableLaws
pub mod ThereLaws
pub mod Offered
