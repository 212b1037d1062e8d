-- The files of lemmas of rd_part_rows.
pub mod RecordLaws
