-- The lemmas of this crate.
pub mod SessionLaws
pub mod AskedLaws
pub mod RowLaws
pub mod MachineLaws
pub mod CommandedLaws
pub mod DeskLaws
pub mod ViewLaws
pub mod NameLaws
pub mod Counting
pub mod WheelLaws
pub mod WatchLaws
pub mod Offered
