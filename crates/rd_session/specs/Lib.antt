-- What the contracts of a session speak of.
pub mod BuffersView
pub mod Calls
pub mod Lines
pub mod Replies
pub mod Answers
pub mod Gathering
pub mod Spots
pub mod Hearing
