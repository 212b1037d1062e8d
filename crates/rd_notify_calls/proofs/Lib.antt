-- The files of lemmas of rd_notify_calls.
pub mod NotifyCallLaws
pub mod NotifyLaws
pub mod Offered
