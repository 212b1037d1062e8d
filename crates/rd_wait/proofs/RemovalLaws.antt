-- A task that was taken out of a list, put in again.
use Rattle.std.proofs.Common.{◌≡◌, ℕ, zero, suc, List, [], ◌∷◌, Some, ap, arith}
use Rattle.std.specs.Prelude.{insert, remove, slice_get}
use Rattle.rd_wait.specs.Removals.{EachRemovalIsUndone}

removal_is_undone : (tasks : List ℕ) (index task : ℕ) → slice_get tasks index ≡ Some task → insert (remove tasks index) index task ≡ tasks
removal_is_undone [] index task there = grind (arith, there)
removal_is_undone (first ∷ rest) zero task there = grind (arith, there)
removal_is_undone (first ∷ rest) (suc index) task there = ap (λ tasks. first ∷ tasks) (removal_is_undone rest index task there)

pub each_removal_is_undone : EachRemovalIsUndone
each_removal_is_undone = removal_is_undone
