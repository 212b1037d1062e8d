-- What the session of a connection was.
use Rattle.std.specs.Prelude.{List, Option}
use Rattle.rd_ends.specs.Ends.{SinkView, SourceView}
use Rattle.rd_hall.specs.SeatView.{SeatView}
use Rattle.rd_session.specs.Calls.{GateCall}
use Rattle.rd_session.specs.Hearing.{Attended}

-- It was answered each line that was read. What a connection has still to give, what it was given,
-- and whether its reads and writes fail, nobody can say of it.
pub record AttendedOver (gone : SeatView) : Type 0 where
  pub had : SourceView
  pub has : SourceView
  pub old : SinkView
  pub new : SinkView
  pub before : Option (List GateCall)
  pub after : Option (List GateCall)
  pub attended : Attended had has old new before after gone
