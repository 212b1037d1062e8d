-- The files of definitions of rd_group_calls.
pub mod GroupCalls
pub mod GroupLaws
