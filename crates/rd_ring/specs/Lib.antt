-- The files of definitions of rd_ring.
pub mod Memory
pub mod RingView
pub mod Rings
