-- The buffers before this one are made.
use Rattle.std.proofs.Common.{◌≡◌, map, take}
use Rattle.rd_state.specs.Objects.{new_stream}
use Rattle.rd_state.proofs.new_objects.new_streams.Given as goal

abbrev pub invariant-loop-shape : goal.invariant-loop-shape
invariant-loop-shape l = l.streams.items ≡ map (new_stream l.task_count) (take l.shape-index l.shapes)
