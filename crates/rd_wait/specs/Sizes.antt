-- What holds of the tasks that wait at an object.
use Rattle.std.specs.Prelude.{ℕ, ◌<◌, ◌≤◌, List, length, All}

-- Those that wait are tasks, of which there are so many, and no more than there are.
abbrev pub IsSizedList : ℕ → List ℕ → Type 0
IsSizedList task_count waiting =
    All (λ task. task < task_count) waiting × (length waiting ≤ task_count)
