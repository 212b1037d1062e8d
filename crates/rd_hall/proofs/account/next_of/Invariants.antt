use Rattle.std.proofs.Common.{◌≡◌, take}
use Rattle.rd_hall.specs.SeatView.{next_place}
use Rattle.rd_hall.specs.Account.{receipts_of}
use Rattle.rd_hall.proofs.account.next_of.Given as goal

abbrev pub invariant-loop-gone : goal.invariant-loop-gone
invariant-loop-gone g l = l.next ≡ next_place 0 (receipts_of l.who (take l.gone-index l.gones))
