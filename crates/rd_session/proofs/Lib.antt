-- The lemmas of this crate.
pub mod CallLaws
pub mod ReadLaws
pub mod SpotLaws
pub mod GatheringLaws
pub mod LineLaws
pub mod AnsweringLaws
pub mod HearingLaws
