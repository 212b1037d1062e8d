-- The files of lemmas of rd_group.
pub mod GroupLaws
pub mod GroupChangeLaws
pub mod GroupPackingLaws
pub mod Offered
