-- The files of definitions of rd_wait.
pub mod TaskList
pub mod Sizes
pub mod Removals
pub mod Joined
