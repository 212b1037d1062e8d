-- The goal of `each_removal_is_undone`.
use Rattle.rd_wait.proofs.RemovalLaws.{each_removal_is_undone}
use Rattle.rd_wait.proofs.fifo_list.each_removal_is_undone.Goals as goal

pub returns : goal.returns
returns c = each_removal_is_undone
