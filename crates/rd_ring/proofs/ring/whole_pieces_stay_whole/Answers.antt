-- The goals of `whole_pieces_stay_whole` that the check left open.
use Rattle.rd_ring.proofs.OffsetLaws.{whole_pieces_stay_whole}
use Rattle.rd_ring.proofs.ring.whole_pieces_stay_whole.Goals as goal

pub returns : goal.returns
returns c = whole_pieces_stay_whole
