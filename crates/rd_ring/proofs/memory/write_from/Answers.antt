-- The goals of `write_from` that the check left open.
use Rattle.std.proofs.Common.{◌≡◌, ◌∙◌, ◌+◌, ◌-◌, take, drop, arith}
use Rattle.std.proofs.lemmas.List.{take_rest}
use Rattle.rd_ring.proofs.MemoryLaws.{written_in_pieces}
use Rattle.rd_ring.proofs.memory.write_from.Goals as goal

pub returns-then-first-bytes-clause-written : goal.returns-then-first-bytes-clause-written
returns-then-first-bytes-clause-written c =
    let bytes = c.args.bytes.now in
    let first = c.min-first.result in
    let size : c.args.offset + first - c.args.offset ≡ first = omega arith in
    let one : c.copy_from_slice.new.self ≡ take first bytes = c.copy_from_slice.ensures.after in
    let two : c.copy_from_slice-then-first-bytes.new.self ≡ drop first bytes =
    c.copy_from_slice-then-first-bytes.ensures.after ∙ take_rest bytes first in
    rw (size, one, two) (written_in_pieces c.args.memory.now bytes c.args.offset first c.requires.offset c.requires.count c.min-first.ensures)
