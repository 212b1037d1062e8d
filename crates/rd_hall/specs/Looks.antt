-- What is told of a debugger at one moment.
use Rattle.std.specs.Prelude.{length}
use Rattle.rd_timeline.specs.Runs.{kept}
use Rattle.rd_desk.specs.DeskView.{DeskView}
use Rattle.rd_desk.specs.Sessions.{watch_count}
use Rattle.rd_hall.specs.declared.look.Look.{Look}

-- what stands in the desk, beside the target itself
abbrev pub look_of : DeskView → Look
look_of d = record {
  done = length d.debugger.moves.done;
  undone = length d.debugger.moves.undone;
  kept = kept d.debugger.moves;
  wheel = d.debugger.wheel;
  watches = watch_count d.debugger.sessions;
  entries = length d.history;
}
