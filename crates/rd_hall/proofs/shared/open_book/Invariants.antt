use Rattle.std.proofs.Common.{◌≡◌, ◌+◌, ◌≤◌}
use Rattle.std.specs.Prelude.{vec_len, vec_capacity}
use Rattle.rd_hall.proofs.shared.open_book.Given as goal

abbrev pub invariant-loop-i : goal.invariant-loop-i
invariant-loop-i g l =
    (l.all.parts + l._i ≡ 65) × (l.all.amount ≡ 0) × (vec_len l.passes ≡ l._i)
    × (64 ≤ vec_capacity l.passes)
