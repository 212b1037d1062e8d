-- The goal of `redo_has_room` that the check left open.
use Rattle.rd_timeline.proofs.RecordedLaws.{redo_has_room}
use Rattle.rd_timeline.proofs.laws.redo_has_room.Goals as goal

pub returns : goal.returns
returns c = redo_has_room
