-- The change is one of those that are left.
use Rattle.std.proofs.Common.{◌≡◌, ◌<◌}
use Rattle.std.specs.Prelude.{slice_index_or}
use Rattle.rd_state.specs.Change.{no_change}
use Rattle.rd_state.specs.PackedChanges.{changes_in, AreChanges}
use Rattle.rd_state.proofs.change_list.ChangeList.get.Given as goal

abbrev pub invariant-loop-left : goal.invariant-loop-left
invariant-loop-left l = record {
  are : AreChanges l.left l.rest;
  within : l.index < l.left;
  same : slice_index_or (changes_in l.left l.rest) l.index no_change ≡ slice_index_or l.self.changes l.index no_change;
}

abbrev pub decreases-loop-left : goal.decreases-loop-left
decreases-loop-left l = l.left
