-- The files of lemmas of rd_edits.
pub mod ContentLaws
pub mod SizedLaws
pub mod ValidityLaws
pub mod OneThingLaws
pub mod SpotLaws
pub mod Offered
