-- The debugger that the fields of a `DeskMachine` stand for, and its records.
use Rattle.rd_names.specs.Apps.{AreAsMany}
use Rattle.rd_timeline.specs.Runs.{moves_of}
use Rattle.rd_desk.specs.declared.machine.DeskMachine.TheInside.{Inside}
use Rattle.rd_desk.specs.Debugger.{Debugger, MachineView}
use Rattle.rd_desk.specs.Kept.{IsShort}
use Rattle.rd_desk.specs.Sessions.{AreSessionsOf}

abbrev pub debugger_of : Inside → Debugger
debugger_of m = record {
  app = record { runs = m.timeline.app; names = m.names };
  most_moves = m.timeline.limit;
  moves = moves_of m.timeline;
  wheel = m.wheel;
  sessions = m.sessions;
}

abbrev pub machine_of : Inside → MachineView
machine_of m = record { debugger = debugger_of m; log = m.timeline.log }

-- Each kind has as many names as things, each watch is of what the application has, and so many
-- moves may be done that a number of 32 bits tells how many are.
pub record IsMachine (m : Inside) : Type 0 where
  pub named : AreAsMany m.timeline.app m.names
  pub watches : AreSessionsOf m.timeline.app m.sessions
  pub few : IsShort m.timeline.limit
