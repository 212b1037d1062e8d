-- The goal of `each_group_change_is_undone`.
use Rattle.rd_group.proofs.GroupChangeLaws.{group_change_is_undone}
use Rattle.rd_group.proofs.group_change.each_group_change_is_undone.Goals as goal

pub returns : goal.returns
returns c = group_change_is_undone
