-- The files of definitions of rd_condition.
pub mod Conditions
pub use Rattle.rd_app.specs.Application
pub use Rattle.rd_state.specs.Snapshot
pub use Rattle.rd_state.specs.Valid
