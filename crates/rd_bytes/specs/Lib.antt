-- The files of definitions of rd_bytes.
pub mod Ends
pub mod Layouts
pub mod StackView
pub mod Tags
