-- Priority order: the highest priority first, and among equals the longest waiting first
-- (FreeRTOS API reference, "Task Priorities" and the waiting order of queues).
use Rattle.std.specs.Prelude.{ℕ, ◌≡◌, ◌<◌, ◌≤◌, ◌++◌, Bool, List, [], ◌∷◌, length}
use Rattle.std.specs.Prelude.{All, filter, nat_le, nat_lt, slice_index, insert}
use Rattle.std.specs.List.{prefix_len, AllByRecursion}

-- Each member is a task that has a priority.
abbrev pub HavePriorities : List ℕ → List ℕ → Type 0
HavePriorities priorities tasks = All (λ task. task < length priorities) tasks

-- does the task have at least that priority?
abbrev pub is_at_least : List ℕ → ℕ → ℕ → Bool
is_at_least priorities priority task = nat_le priority (slice_index priorities task)

-- the index at which a task of that priority joins: after those at the front that have at least its
-- priority
abbrev pub index_for : List ℕ → List ℕ → ℕ → ℕ
index_for priorities tasks priority = prefix_len (is_at_least priorities priority) tasks

-- the list with the task joined to it
abbrev pub joined : List ℕ → List ℕ → ℕ → List ℕ
joined priorities tasks task =
    insert tasks (index_for priorities tasks (slice_index priorities task)) task

-- Nowhere does a priority rise from front to back.
abbrev pub IsInOrder : List ℕ → List ℕ → Type 0
IsInOrder priorities [] = Unit {0}
IsInOrder priorities (task ∷ tasks) =
    AllByRecursion (λ later. slice_index priorities later ≤ slice_index priorities task) tasks
    × IsInOrder priorities tasks

-- the list with the task sorted in: those of at least its priority, then the task, then the rest
abbrev pub sorted_in : List ℕ → List ℕ → ℕ → List ℕ
sorted_in priorities tasks task =
    filter (λ member. is_at_least priorities (slice_index priorities task) member) tasks
    ++ task
    ∷ filter (λ member. nat_lt (slice_index priorities member) (slice_index priorities task)) tasks

-- To join a list in order is to be sorted in, and the list stays in order.
abbrev pub JoiningPreservesTheOrder : Type 0
JoiningPreservesTheOrder = (priorities tasks : List ℕ) (task : ℕ) → IsInOrder priorities tasks
    → (joined priorities tasks task ≡ sorted_in priorities tasks task)
    × IsInOrder priorities (joined priorities tasks task)
