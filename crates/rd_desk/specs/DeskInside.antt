-- The value that the fields of a `Desk` stand for.
use Rattle.std.specs.Prelude.{◌≤◌, length}
use Rattle.rd_desk.specs.declared.desk.Desk.TheInside.{Inside}
use Rattle.rd_desk.specs.declared.sessions.TheConstants.{MAX_JOINS}
use Rattle.rd_desk.specs.DeskView.{DeskView, RoomedDesk, used}
use Rattle.rd_desk.specs.Legal.{IsLegal}
use Rattle.rd_desk.specs.Sessions.{present_count}

abbrev pub desk_of : Inside → DeskView
desk_of d = record {
  debugger = d.machine.debugger;
  log = d.machine.log;
  most_entries = d.limit;
  history = d.history.entries;
}

abbrev pub roomed_desk_of : Inside → RoomedDesk
roomed_desk_of d = record {
  desk = desk_of d;
  row_room = d.history.row_room;
  byte_room = d.history.byte_room;
}

-- The history is legal, and has room for each session's departure.
pub record IsLegalDesk (d : Inside) : Type 0 where
  pub legal : IsLegal d.history.entries d.machine.debugger
  pub within : used (desk_of d) ≤ d.limit
  pub joins : length d.machine.debugger.sessions ≤ MAX_JOINS
  pub room : present_count d.machine.debugger.sessions ≤ d.history.row_room
