-- the changes so far, and those that are left
use Rattle.std.proofs.Common.{◌≡◌, ◌+◌, ◌<◌, ◌^◌}
use Rattle.rd_state.specs.Change.{weight_of}
use Rattle.rd_state.specs.PackedChanges.{changes_in, AreChanges}
use Rattle.rd_state.proofs.change_list.ChangeList.weight.Given as goal

abbrev pub invariant-loop-left : goal.invariant-loop-left
invariant-loop-left l = record {
  are : AreChanges l.left l.rest;
  sum : l.weight + weight_of (changes_in l.left l.rest) ≡ weight_of l.self.changes;
  few : weight_of l.self.changes < 2 ^ 64;
}

abbrev pub decreases-loop-left : goal.decreases-loop-left
decreases-loop-left l = l.left
