-- The files of definitions of rd_group.
pub mod Wishes
pub mod GroupSnapshot
pub mod Groups
pub mod Sizes
pub mod GroupChanges
pub mod PackedGroupChanges
