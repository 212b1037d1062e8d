-- What the contracts of this crate cite.
pub mod Names
pub mod Pages
pub mod Replies
