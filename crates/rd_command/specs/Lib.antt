-- What the contracts of this crate cite.
pub mod Bindings
pub mod Commands
pub mod Demands
pub mod Digits
pub mod Forms
pub mod Keywords
pub mod Recents
pub mod Tables
