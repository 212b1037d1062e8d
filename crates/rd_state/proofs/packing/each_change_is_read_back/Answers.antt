-- The goal of `each_change_is_read_back`.
use Rattle.rd_state.proofs.PackingLaws.{change_is_read_back}
use Rattle.rd_state.proofs.packing.each_change_is_read_back.Goals as goal

pub returns : goal.returns
returns c = change_is_read_back
