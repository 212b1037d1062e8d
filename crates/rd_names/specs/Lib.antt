-- What the contracts of this crate cite.
pub mod NameSets
pub mod Names
pub mod Apps
