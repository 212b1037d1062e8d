-- What the fields of a `Run` stand for.
use Rattle.std.specs.Prelude.{◌≤◌, ◌++◌, length, take}
use Rattle.rd_timeline.specs.Course.{base_of}
use Rattle.rd_origin.specs.declared.run.Run.TheInside.{Inside}
use Rattle.rd_origin.specs.RunView.{RunView}

abbrev pub run_of : Inside → RunView
run_of r = record {
  app = r.timeline.app;
  moves = take r.places (r.timeline.done ++ r.timeline.undone);
  first = base_of r.timeline;
  at = length r.timeline.done;
}

-- The timeline has that many moves, and stands at one of the run.
pub record IsWithinMoves (r : Inside) : Type 0 where
  pub at : length r.timeline.done ≤ r.places
  pub within : r.places ≤ length (r.timeline.done ++ r.timeline.undone)
