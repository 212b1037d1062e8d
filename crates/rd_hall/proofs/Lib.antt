-- The lemmas of this crate.
pub mod SeatLaws
pub mod SharedLaws
pub mod Totals
pub mod AccountLaws
