-- The goal of back_gives_the_target_back that the check left open.
use Rattle.rd_desk.proofs.Counting.{back_gives_the_target_back}
use Rattle.rd_desk.proofs.laws.back_gives_the_target_back.Goals as goal

pub returns : goal.returns
returns c = back_gives_the_target_back
