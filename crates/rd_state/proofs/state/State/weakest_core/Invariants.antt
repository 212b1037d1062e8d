-- the weakest of those before this one, and its rank
use Rattle.std.proofs.Common.{◌≡◌, ◌<◌, ◌-◌, length}
use Rattle.rd_state.specs.Settled.{rank_of, running_on, weakest_up_to}
use Rattle.rd_state.proofs.state.State.weakest_core.Given as goal

abbrev pub invariant-loop-core : goal.invariant-loop-core
invariant-loop-core l = record {
  within : l.weakest < length l.self.cores;
  weakest : l.weakest ≡ weakest_up_to l.priorities l.self.cores (l.core - 1);
  lowest : l.lowest ≡ rank_of l.priorities (running_on l.self.cores l.weakest);
}
