-- The files of lemmas of rd_condition.
pub mod ConditionLaws
pub mod Offered
