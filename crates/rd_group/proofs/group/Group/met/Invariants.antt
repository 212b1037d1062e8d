-- The tasks so far whose wishes are met.
use Rattle.std.proofs.Common.{◌≡◌, take}
use Rattle.rd_group.specs.Groups.{met_tasks}
use Rattle.rd_group.proofs.group.Group.met.Given as goal

abbrev pub invariant-loop-index : goal.invariant-loop-index
invariant-loop-index l = l.met.items ≡ met_tasks l.bits (take l.index l.self.waiting) (take l.index l.self.wishes)
