-- The lemmas of this crate.
pub mod FileLemmas
pub mod Steps
pub mod KeywordLaws
pub mod SpellingLaws
pub mod ValueLaws
pub mod NamedLaws
pub mod QueueLaws
pub mod QueueSetLaws
pub mod StreamLaws
pub mod MessageLaws
pub mod GroupLaws
pub mod ObjectLaws
pub mod ScriptLaws
pub mod TaskLaws
pub mod LimitLaws
pub mod AppLaws
pub mod CheckLaws
