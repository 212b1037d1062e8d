-- The files of definitions of rd_packed.
pub mod TapeView
pub mod Reading
pub mod Records
pub mod ReadingAll
