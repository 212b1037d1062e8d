-- So many moves were made, and the goal wasn't met after any of them.
use Rattle.std.proofs.Common.{◌≡◌, ◌<◌}
use Rattle.rd_timeline.specs.Course.{IsAhead}
use Rattle.rd_timeline.specs.Recorded.{StandsOn}
use Rattle.rd_timeline.specs.Running.{run_from}
use Rattle.rd_timeline.specs.Runs.{Going, moves_of}
use Rattle.rd_timeline.proofs.timeline.Timeline.go_on.Given as goal

abbrev pub invariant-loop : goal.invariant-loop
invariant-loop l = record {
  going : run_from l.fn.self l.goal l.counter ≡ Going (moves_of l.self);
  stands : StandsOn l.fn.self l.self;
  ahead : 0 < l.counter → IsAhead l.self;
}
