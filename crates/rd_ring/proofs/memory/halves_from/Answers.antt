-- The goals of `halves_from` that the check left open.
use Rattle.std.proofs.Common.{◌≡◌, ◌+◌, ◌-◌, arith}
use Rattle.rd_ring.proofs.MemoryLaws.{take-seen_from}
use Rattle.rd_ring.proofs.memory.halves_from.Goals as goal

pub returns : goal.returns
returns c =
    let first = c.min-first.result in
    let size : c.args.offset + first - c.args.offset ≡ first = omega arith in
    rw size (take-seen_from c.args.memory.now c.args.offset c.args.count first c.requires.offset c.requires.count c.min-first.ensures)
