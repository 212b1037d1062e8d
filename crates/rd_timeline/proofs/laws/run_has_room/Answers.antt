-- The goal of `run_has_room` that the check left open.
use Rattle.rd_timeline.proofs.RecordedLaws.{run_has_room}
use Rattle.rd_timeline.proofs.laws.run_has_room.Goals as goal

pub returns : goal.returns
returns c = run_has_room
