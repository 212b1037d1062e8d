-- What the contracts of this crate cite.
pub mod TaskScript
pub mod QueueSetShapeView
pub mod Objects
pub mod Profiles
pub mod Application
pub mod Inside
pub mod Builtin
