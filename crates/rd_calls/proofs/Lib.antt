-- The files of lemmas of rd_calls.
pub mod CarriedLaws
pub mod InstrLaws
pub mod HandleMoveLaws
pub mod ReceivedLaws
pub mod SleepingLaws
pub mod StepLaws
pub mod PlayLaws
pub mod Offered
