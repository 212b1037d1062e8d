-- What the contracts of this crate cite.
pub mod Keywords
pub mod Scope
pub mod Spelling
pub mod Named
pub mod Values
pub mod Objects
pub mod File
pub mod Draft
pub mod Says
