use Rattle.std.proofs.Common.{◌≤◌, length, take}
use Rattle.std.specs.Io.KnownBytes.{Appends}
use Rattle.rd_ends.proofs.over.write_all.Given as goal

abbrev pub invariant-loop-try : goal.invariant-loop-try
invariant-loop-try g l = record {
  within : l.sent ≤ length l.bytes;
  taken : Appends (g.W.Write.contents l.fn.writer) (g.W.Write.contents l.writer) (take l.sent l.bytes);
}
