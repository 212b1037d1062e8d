-- The files of definitions of rd_kernel.
pub mod Costs
pub mod Tasks
pub mod Waking
pub mod Outcomes
pub mod Telling
pub mod Holding
pub use Rattle.rd_state.specs.Snapshot
pub use Rattle.rd_state.specs.Waiting
pub use Rattle.rd_state.specs.Change
pub use Rattle.rd_state.specs.Undoing
pub use Rattle.rd_state.specs.EditingView
pub use Rattle.rd_state.specs.Settled
pub use Rattle.rd_state.specs.Boot
pub use Rattle.rd_state.specs.Valid
pub use Rattle.rd_app.specs.Application
