-- What holds in each turn of copy_all's loop.
use Rattle.std.proofs.Common.{◌≡◌, take}
use Rattle.rd_state.proofs.whole.copy_all.Given as goal

abbrev pub invariant-loop-thing : goal.invariant-loop-thing
invariant-loop-thing g l = l.copies.items ≡ take l.thing-index l.things
