-- The files of lemmas of rd_stream.
pub mod StreamChangeLaws
pub mod StreamPackingLaws
pub mod StreamLaws
pub mod MessageListLaws
pub mod MessageRingLaws
pub mod MessageChangeLaws
pub mod MessagePackingLaws
pub mod MessageOrderLaws
pub mod Offered
