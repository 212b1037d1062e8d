-- What a contract says of the spot of a session, by what is seen of its sink and of its gate.
use Rattle.std.specs.Prelude.{◌≡◌, List, Option}
use Rattle.std.specs.Borrow.{MutBor}
use Rattle.rd_ends.specs.Ends.{SinkView}
use Rattle.rd_session.specs.Calls.{GateCall}
use Rattle.rd_session.specs.Answers.{Talk}
use Rattle.rd_session.specs.Gathering.{Spot, spot}
use Rattle.rd_session.specs.declared.spot.Spot.{Spot as BorrowedSpot}

-- It borrows the same, with the same value.
abbrev pub IsLent : {T : Type 0} → MutBor T → MutBor T → Type 0
IsLent held lent = (held.now ≡ lent.now) × (held.ghost_name ≡ lent.ghost_name)

-- It is borrowed of the same as before, and the session is the same.
pub record IsSameSpot {L G W : Type 0} (old new : BorrowedSpot L G W) : Type 0 where
  pub gate : new.gate.ghost_name ≡ old.gate.ghost_name
  pub seat : new.seat.ghost_name ≡ old.seat.ghost_name
  pub pending : new.pending.ghost_name ≡ old.pending.ghost_name
  pub sink : new.sink.ghost_name ≡ old.sink.ghost_name
  pub who : new.seat.now.session.who ≡ old.seat.now.session.who

module _ {L G W : Type 0} (seen : W → SinkView) (calls : G → Option (List GateCall)) where
  -- what is seen of a spot
  abbrev pub spot_of : BorrowedSpot L G W → Spot
  spot_of s = spot s.seat.now.session (seen s.sink.now) (calls s.gate.now) s.pending.now

  -- This is so of what is seen of it.
  abbrev pub At : (Spot → Type 0) → BorrowedSpot L G W → Type 0
  At fact s = fact (spot_of s)

  -- This is so of what was seen of it and what is.
  abbrev pub Between : (Spot → Spot → Type 0) → BorrowedSpot L G W → BorrowedSpot L G W → Type 0
  Between fact old new = fact (spot_of old) (spot_of new)

  -- This is so of what was seen of it and of what is, but for its answers: a write may have failed.
  abbrev pub Leaves : (Spot → Talk → Type 0) → BorrowedSpot L G W → BorrowedSpot L G W → Type 0
  Leaves fact old new = fact (spot_of old) (spot_of new).talk
