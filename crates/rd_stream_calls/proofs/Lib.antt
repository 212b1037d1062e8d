-- The files of lemmas of rd_stream_calls.
pub mod BufferLaws
pub mod StreamCallLaws
pub mod MessageCallLaws
pub mod WaitLaws
pub mod SleepingLaws
pub mod Offered
