-- The queues before this one are made.
use Rattle.std.proofs.Common.{◌≡◌}
use Rattle.rd_state.specs.Objects.{first_queues}
use Rattle.rd_state.proofs.new_objects.new_queues.Given as goal

abbrev pub invariant-loop-number : goal.invariant-loop-number
invariant-loop-number l = l.queues.items ≡ first_queues l.app l.number
