-- So many kept moves were taken back, and the condition held after none of those before them.
use Rattle.std.proofs.Common.{◌≡◌, ◌-◌, length}
use Rattle.rd_timeline.specs.Backward.{last_met}
use Rattle.rd_timeline.specs.Course.{base_of}
use Rattle.rd_timeline.specs.Runs.{last_place, moves_of}
use Rattle.rd_timeline.proofs.BackwardLaws.{IsBack}
use Rattle.rd_timeline.proofs.timeline.Timeline.back_until.Given as goal

abbrev pub invariant-loop : goal.invariant-loop
invariant-loop l = record {
  place : last_met l.fn.self.app l.condition (base_of l.fn.self) l.fn.self.done (length l.fn.self.log - l.counter)
      ≡ last_place l.fn.self.app l.condition (moves_of l.fn.self);
  back : IsBack l.fn.self l.counter l.self;
}
