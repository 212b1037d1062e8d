-- The files of definitions of rd_notify.
pub mod Entries
pub mod Words
