-- The buffers before this one are made.
use Rattle.std.proofs.Common.{◌≡◌, map, take}
use Rattle.rd_state.specs.Objects.{new_message_buffer}
use Rattle.rd_state.proofs.new_objects.new_message_buffers.Given as goal

abbrev pub invariant-loop-shape : goal.invariant-loop-shape
invariant-loop-shape l = l.messages.items ≡ map (new_message_buffer l.task_count) (take l.shape-index l.shapes)
