use Rattle.std.proofs.Common.{◌<◌, length}
use Rattle.std.specs.Io.KnownBytes.{Keeps}
use Rattle.rd_ends.proofs.over.read_once.Given as goal

abbrev pub invariant-loop-try : goal.invariant-loop-try
invariant-loop-try g l = record {
  room : 0 < length l.room;
  same : Keeps (g.R.Read.remaining l.fn.reader) (g.R.Read.remaining l.reader);
}
