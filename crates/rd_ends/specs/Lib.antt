-- What the contracts of sources and sinks speak of.
pub mod Ends
