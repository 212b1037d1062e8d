-- What holds in each turn of the loop.
use Rattle.std.proofs.Common.{◌≡◌, ◌≤◌, length, take}
use Rattle.std.specs.Prelude.{vec_capacity, vec_len}
use Rattle.rd_origin.proofs.copying.copies_of_code.Given as goal

abbrev pub invariant-loop-instr : goal.invariant-loop-instr
invariant-loop-instr l =
    (l.copies.items ≡ take l.instr-index l.code) × (vec_len l.copies ≡ l.instr-index)
    × (length l.code ≤ vec_capacity l.copies)
