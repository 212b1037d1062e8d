-- The files of definitions of rd_question.
pub mod Asked
pub mod CommandLine
pub mod EngineView
pub mod Handlers
pub mod IsrWords
pub mod Numbers
pub mod Paces
pub mod Parts
pub mod Questions
pub mod Said
pub mod Statuses
