-- What the contracts of this crate cite.
pub mod Attending
pub mod Refused
