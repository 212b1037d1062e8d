-- The things before this one are equal.
use Rattle.std.proofs.Common.{◌≡◌, take}
use Rattle.rd_state.proofs.whole.all_same.Given as goal

abbrev pub invariant-loop-number : goal.invariant-loop-number
invariant-loop-number g l = take l.number l.things ≡ take l.number l.others
