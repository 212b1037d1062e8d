-- A spot that stays the same.
use Rattle.std.proofs.Common.{◌∙◌, refl}
use Rattle.rd_session.specs.Spots.{IsSameSpot}
use Rattle.rd_session.specs.declared.spot.Spot.{Spot as BorrowedSpot}

pub IsSameSpot-refl : {L G W : Type 0} (s : BorrowedSpot L G W) → IsSameSpot s s
IsSameSpot-refl s = record { gate = refl; seat = refl; pending = refl; sink = refl; who = refl }

pub IsSameSpot-then : {L G W : Type 0} (old mid new : BorrowedSpot L G W) → IsSameSpot old mid → IsSameSpot mid new → IsSameSpot old new
IsSameSpot-then old mid new one two = record {
  gate = two.gate ∙ one.gate;
  seat = two.seat ∙ one.seat;
  pending = two.pending ∙ one.pending;
  sink = two.sink ∙ one.sink;
  who = two.who ∙ one.who;
}
