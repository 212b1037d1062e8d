-- The event groups before this one are made.
use Rattle.std.proofs.Common.{◌≡◌, replicate}
use Rattle.rd_group.specs.Groups.{empty_group}
use Rattle.rd_state.proofs.new_objects.new_groups.Given as goal

abbrev pub invariant-loop : goal.invariant-loop
invariant-loop l = l.groups.items ≡ replicate l.counter (empty_group l.task_count)
