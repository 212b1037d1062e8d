-- The files of lemmas of rd_ring.
pub mod OffsetLaws
pub mod MemoryLaws
pub mod RingLaws
pub mod UndoLaws
pub mod Offered
