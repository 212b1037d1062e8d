-- So many bytes are written.
use Rattle.std.proofs.Common.{◌≡◌, ◌+◌, ◌++◌, length, take}
use Rattle.rd_bytes.proofs.byte_stack.write_each.Given as goal

abbrev pub invariant-loop-index : goal.invariant-loop-index
invariant-loop-index g l = record {
  written : take (l.at + l.index) l.slots ≡ take l.at l.fn.slots ++ take l.index l.bytes;
  length : length l.slots ≡ length l.fn.slots;
}
