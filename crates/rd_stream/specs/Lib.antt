-- The files of definitions of rd_stream.
pub mod Holders
pub mod Sides
pub mod StreamSnapshot
pub mod Streams
pub mod MessageSnapshot
pub mod Messages
pub mod MessageRings
pub mod Sizes
pub mod StreamChanges
pub mod MessageChanges
pub mod PackedStreamChanges
pub mod PackedMessageChanges
pub mod StreamLaws
pub mod MessageLaws
