-- What is left of the changes leads where all of them led, and those before them stay.
use Rattle.std.proofs.Common.{◌≡◌, ◌≤◌, length, drop, take}
use Rattle.rd_state.specs.PackedChanges.{changes_in, AreChanges}
use Rattle.rd_state.specs.Undoing.{undone, CanUndo}
use Rattle.rd_state.proofs.change_list.go_back.Given as goal

abbrev pub invariant-loop-left : goal.invariant-loop-left
invariant-loop-left l = record {
  are : AreChanges l.left l.rest;
  within : l.len ≤ l.left;
  first : take (length l.rest) l.bytes ≡ l.rest;
  leads : undone l.state (drop l.len (changes_in l.left l.rest)) ≡ undone l.fn.state (drop l.len (changes_in l.count l.bytes));
  fits : CanUndo l.state (drop l.len (changes_in l.left l.rest));
  before : take l.len (changes_in l.left l.rest) ≡ take l.len (changes_in l.count l.bytes);
}

abbrev pub decreases-loop-left : goal.decreases-loop-left
decreases-loop-left l = l.left
