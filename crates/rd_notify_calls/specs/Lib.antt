-- The files of definitions of rd_notify_calls.
pub mod NotifyCalls
pub mod NotifyLaws
