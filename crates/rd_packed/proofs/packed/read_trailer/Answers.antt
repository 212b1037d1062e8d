-- The goals of `read_trailer` that the check left open.
use Rattle.std.proofs.Common.{◌-◌, ◌∙◌, arith, drop}
use Rattle.std.proofs.lemmas.List.{length-take-le, length-drop}
use Rattle.rd_packed.proofs.RecordLaws.{trailer_at}
use Rattle.rd_packed.proofs.packed.read_trailer.Goals as goal

pub numbers_of-requires : goal.numbers_of-requires
numbers_of-requires c =
    let bytes = c.args.tape.now.bytes in
    rw c.read.ensures.bytes
    (length-take-le 8 (drop (c.args.end - 8) bytes) (omega (arith, length-drop (c.args.end - 8) bytes, c.requires.trailer, c.requires.there)))

pub returns-clause-size : goal.returns-clause-size
returns-clause-size c =
    c.numbers_of.ensures.size
    ∙ (trailer_at c.args.tape.now.bytes c.read.result.now c.args.end c.requires.trailer c.requires.there c.read.ensures.bytes).size

pub returns-clause-count : goal.returns-clause-count
returns-clause-count c =
    c.numbers_of.ensures.count
    ∙ (trailer_at c.args.tape.now.bytes c.read.result.now c.args.end c.requires.trailer c.requires.there c.read.ensures.bytes).count
