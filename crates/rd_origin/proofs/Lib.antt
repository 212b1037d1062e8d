-- The files of lemmas of rd_origin.
pub mod PlayingLaws
pub mod RunLists
pub mod RunLaws
