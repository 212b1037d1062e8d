-- The files of definitions of rd_queue_calls.
pub mod Posts
pub mod QueueCalls
pub mod QueueSetCalls
pub mod QueueSetLaws
