-- What the wishes so far have left.
use Rattle.std.proofs.Common.{◌≡◌, take}
use Rattle.rd_group.specs.Groups.{left_after}
use Rattle.rd_group.proofs.group.Group.bits_left.Given as goal

abbrev pub invariant-loop-wish : goal.invariant-loop-wish
invariant-loop-wish l = l.left ≡ left_after l.bits (take l.wish-index l.self.wishes) l.bits
