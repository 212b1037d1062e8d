-- The files of laws of rd_bytes.
pub mod EndLaws
pub mod LayoutLaws
pub mod Offered
