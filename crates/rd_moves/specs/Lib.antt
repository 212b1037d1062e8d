-- What the contracts of this crate cite.
pub mod Carried
pub mod Counts
pub mod Edits
pub mod Interrupts
pub mod Moves
pub mod Requests
