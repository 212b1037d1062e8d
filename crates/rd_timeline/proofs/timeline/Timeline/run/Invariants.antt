-- The requests before this one are answered.
use Rattle.std.proofs.Common.{◌≡◌, take, Ok}
use Rattle.rd_timeline.specs.History.{state_after}
use Rattle.rd_timeline.specs.Runs.{moves_of, all_answered}
use Rattle.rd_timeline.proofs.timeline.Timeline.run.Given as goal

abbrev pub invariant-loop-request : goal.invariant-loop-request
invariant-loop-request l = record {
  answered : moves_of l.self ≡ all_answered l.fn.self.app l.fn.self.limit (moves_of l.fn.self) (take l.request-index l.requests);
  app : l.self.app ≡ l.fn.self.app;
  limit : l.self.limit ≡ l.fn.self.limit;
  leads : state_after l.self.app l.self.done ≡ Ok l.self.target;
}
