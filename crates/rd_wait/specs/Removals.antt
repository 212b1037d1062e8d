-- A task that leaves a list of waiting tasks, and stands there again.
use Rattle.std.specs.Prelude.{ℕ, ◌≡◌, List, Some, insert, remove, slice_get}

-- Put in again where it stood, it gives back the list.
abbrev pub EachRemovalIsUndone : Type 0
EachRemovalIsUndone = (tasks : List ℕ) (index task : ℕ) → slice_get tasks index ≡ Some task
    → insert (remove tasks index) index task ≡ tasks
