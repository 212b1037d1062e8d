-- The goal of `redo_undoes_back` that the check left open.
use Rattle.rd_timeline.proofs.TrimLaws.{redo_undoes_back}
use Rattle.rd_timeline.proofs.laws.redo_undoes_back.Goals as goal

pub returns : goal.returns
returns c = redo_undoes_back
