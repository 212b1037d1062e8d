use Rattle.std.proofs.Common.{◌≤◌, ◌≡◌}
use Rattle.std.specs.Prelude.{vec_len, vec_capacity}
use Rattle.rd_rows.proofs.hall.join_others.Given as goal

abbrev pub invariant-loop-turn : goal.invariant-loop-turn
invariant-loop-turn g l = (vec_len l.seats ≡ l._turn) × (l.count ≤ vec_capacity l.seats)
