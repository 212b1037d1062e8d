-- The goal of `each_group_change_is_read_back`.
use Rattle.rd_group.proofs.GroupPackingLaws.{group_change_is_read_back}
use Rattle.rd_group.proofs.group_packing.each_group_change_is_read_back.Goals as goal

pub returns : goal.returns
returns c = group_change_is_read_back
