-- The goal of `only_trims_move_the_base` that the check left open.
use Rattle.rd_timeline.proofs.TrimLaws.{only_trims_move_the_base}
use Rattle.rd_timeline.proofs.laws.only_trims_move_the_base.Goals as goal

pub returns : goal.returns
returns c = only_trims_move_the_base
