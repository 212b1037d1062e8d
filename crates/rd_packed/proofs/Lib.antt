-- The files of lemmas of rd_packed.
pub mod RecordLaws
pub mod RecordRows
pub mod TrimLaws
