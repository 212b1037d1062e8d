-- The files of lemmas of rd_queue.
pub mod SharedLaws
pub mod ItemLaws
pub mod ItemRingLaws
pub mod QueueLaws
pub mod QueueSetLaws
pub mod PackingLaws
pub mod QueueSetPackingLaws
pub mod Offered
