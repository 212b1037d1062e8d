-- The files of lemmas of rd_group_calls.
pub mod GroupCallLaws
pub mod SettingLaws
pub mod Offered
