-- The goals of `each_ring_change_is_undone` that the check left open.
use Rattle.rd_ring.proofs.UndoLaws.{ring_change_is_undone}
use Rattle.rd_ring.proofs.ring.each_ring_change_is_undone.Goals as goal

pub returns : goal.returns
returns c = ring_change_is_undone
