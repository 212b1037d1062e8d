-- The files of lemmas of rd_goal.
pub mod GoalLaws
pub mod WordLaws
pub mod ClaimLaws
pub mod DraftLaws
pub mod TextLaws
