use Rattle.std.proofs.Common.{◌+◌, ◌≤◌, ◌≡◌}
use Rattle.std.specs.Prelude.{vec_len, vec_capacity}
use Rattle.rd_rows.proofs.hall.leave_all.Given as goal

abbrev pub invariant-loop-turn : goal.invariant-loop-turn
invariant-loop-turn g l =
    (vec_len l.left + l._turn ≡ vec_len l.fn.seats)
    × (vec_len l.gones + vec_len l.left ≤ vec_capacity l.gones)
