-- The files of definitions of rd_edits.
pub mod Edits
pub mod EditLaws
