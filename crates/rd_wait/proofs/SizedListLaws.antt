-- A list of waiting tasks stays one of tasks, and has room for whom it had.
use Rattle.std.proofs.Common.{ℕ, ◌<◌, ◌≤◌, List, length, get_or, arith}
use Rattle.std.proofs.lemmas.List.Edits.{length-remove, length-insert}
use Rattle.std.proofs.lemmas.List.Elements.{All-get_or}
use Rattle.std.specs.Prelude.{insert, remove}
use Rattle.rd_wait.specs.Sizes.{IsSizedList}
use Rattle.rd_wait.proofs.ListLaws.{All-insert, All-remove}

-- one task more waits, or one less
pub inserted_sized : (task_count : ℕ) (waiting : List ℕ) (index task : ℕ) → IsSizedList task_count waiting → index ≤ length waiting
    → length waiting < task_count → task < task_count → IsSizedList task_count (insert waiting index task)
inserted_sized task_count waiting index task sized within room is_task =
    (All-insert (λ t. t < task_count) waiting index task sized.0 is_task, omega (arith, length-insert waiting index task within, room))

pub removed_sized : (task_count : ℕ) (waiting : List ℕ) (index : ℕ) → IsSizedList task_count waiting → index < length waiting
    → IsSizedList task_count (remove waiting index)
removed_sized task_count waiting index sized there =
    (All-remove (λ t. t < task_count) waiting index sized.0, omega (arith, length-remove waiting index there, sized.1))

-- a task that has left a list finds room there
pub room_after : (task_count : ℕ) (waiting : List ℕ) (index : ℕ) → IsSizedList task_count waiting → index < length waiting
    → (index ≤ length (remove waiting index)) × (length (remove waiting index) < task_count) × (get_or waiting index 0 < task_count)
room_after task_count waiting index sized there =
    let shorter = length-remove waiting index there in
    (omega (arith, shorter, there), omega (arith, shorter, there, sized.1), All-get_or (λ task. task < task_count) waiting index 0 there sized.0)
