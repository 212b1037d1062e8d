-- The files of definitions of rd_goal.
pub mod Claims
pub mod Goals
pub mod OnTick
pub mod OnRegisters
pub mod Written
pub mod Reading
