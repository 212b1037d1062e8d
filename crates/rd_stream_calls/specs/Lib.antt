-- The files of definitions of rd_stream_calls.
pub mod StreamCalls
pub mod MessageCalls
pub mod BufferWaits
