-- The goals of `scheduling_settles` that the check left open.
use Rattle.rd_state.proofs.EndLaws.{scheduling_settles}
use Rattle.rd_state.proofs.scheduling.scheduling_settles.Goals as goal

pub returns : goal.returns
returns c = scheduling_settles
