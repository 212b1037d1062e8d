-- What holds in each turn of the loop.
use Rattle.std.proofs.Common.{◌≡◌, ◌≤◌, length, take}
use Rattle.std.specs.Prelude.{vec_capacity, vec_len}
use Rattle.rd_origin.proofs.copying.copies_of_sets.Given as goal

abbrev pub invariant-loop-queue_set : goal.invariant-loop-queue_set
invariant-loop-queue_set l =
    (l.copies.items ≡ take l.queue_set-index l.queue_sets) × (vec_len l.copies ≡ l.queue_set-index)
    × (length l.queue_sets ≤ vec_capacity l.copies)
