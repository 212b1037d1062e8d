-- The files of lemmas of rd_queue_calls.
pub mod ContentsLaws
pub mod QueueCallLaws
pub mod PostLaws
pub mod HandleLaws
pub mod EntryLaws
pub mod SleepingLaws
pub mod Offered
