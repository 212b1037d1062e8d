-- What holds in each turn of the loop.
use Rattle.std.proofs.Common.{◌≡◌, ◌≤◌, take}
use Rattle.std.specs.Prelude.{vec_capacity, vec_len}
use Rattle.rd_origin.proofs.copying.copies_of_scripts.Given as goal

abbrev pub invariant-loop-task : goal.invariant-loop-task
invariant-loop-task l =
    (l.copies.items ≡ take l.task l.program.tasks) × (vec_len l.copies ≡ l.task)
    × (l.count ≤ vec_capacity l.copies)
