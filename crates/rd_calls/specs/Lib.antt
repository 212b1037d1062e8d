-- The files of definitions of rd_calls.
pub mod Carried
pub mod HandleMoves
pub mod Local
pub mod Received
pub mod Sleeping
pub mod Step
pub use Rattle.rd_state.specs.Snapshot
pub use Rattle.rd_state.specs.Waiting
pub use Rattle.rd_state.specs.Change
pub use Rattle.rd_state.specs.Undoing
pub use Rattle.rd_state.specs.EditingView
pub use Rattle.rd_state.specs.Settled
pub use Rattle.rd_state.specs.Boot
pub use Rattle.rd_state.specs.Valid
pub use Rattle.rd_app.specs.Application
