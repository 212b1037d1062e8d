-- The goal of first that the check left open.
use Rattle.rd_hall.proofs.SeatLaws.{first_is}
use Rattle.rd_hall.proofs.seat.Gone.first.Goals as goal

pub returns : goal.returns
returns g c = first_is c.self.inside.who c.self.inside.receipts.noted c.number.result _ c.args.self.now c.self.view_is c.number.ensures
