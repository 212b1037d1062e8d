-- The sets before this one are made.
use Rattle.std.proofs.Common.{◌≡◌, map, take}
use Rattle.rd_state.specs.Objects.{new_queue_set}
use Rattle.rd_state.proofs.new_objects.new_queue_sets.Given as goal

abbrev pub invariant-loop-shape : goal.invariant-loop-shape
invariant-loop-shape l = l.queue_sets.items ≡ map (new_queue_set l.task_count l.queue_count) (take l.shape-index l.shapes)
