-- The files of definitions of rd_queue.
pub mod QueueSnapshot
pub mod Queues
pub mod ItemRings
pub mod QueueSetSnapshot
pub mod QueueSets
pub mod Sizes
pub mod Changes
pub mod QueueSetChanges
pub mod PackedChanges
pub mod PackedQueueSetChanges
