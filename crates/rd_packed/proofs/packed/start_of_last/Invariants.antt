-- So many of the last records are still before the start, and a trailer was read for each other.
use Rattle.std.proofs.Common.{◌≡◌, ◌+◌, ◌-◌, ◌*◌, ◌≤◌, length, take}
use Rattle.rd_packed.specs.Records.{start_of_last, HasLast}
use Rattle.rd_packed.proofs.packed.start_of_last.Given as goal

abbrev pub invariant-loop-left : goal.invariant-loop-left
invariant-loop-left l = record {
  within : l.start ≤ length l.fn.tape.bytes;
  most : l.left ≤ l.n;
  has : HasLast l.left (take l.start l.fn.tape.bytes);
  leads : start_of_last l.left (take l.start l.fn.tape.bytes) ≡ start_of_last l.n l.fn.tape.bytes;
  tape : l.tape ≡ record l.fn.tape { read = l.fn.tape.read + 8 * (l.n - l.left) };
}

abbrev pub decreases-loop-left : goal.decreases-loop-left
decreases-loop-left l = l.left
