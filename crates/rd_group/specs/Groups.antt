-- Event groups as bits and lists of waiting tasks and of their wishes.
use Rattle.std.specs.Prelude.{ℕ, if◌then◌else◌, List, [], ◌∷◌, insert, remove}
use Rattle.rd_group.specs.declared.wish.Wish.{Wish}
use Rattle.rd_group.specs.GroupSnapshot.{GroupSnapshot}
use Rattle.rd_group.specs.Wishes.{is_met, left_of}

-- a new group without bits, at which that many tasks can wait
abbrev pub empty_group : ℕ → GroupSnapshot
empty_group task_count =
    record { bits = 0; waiting = []; wishes = []; task_count = task_count }

-- the group with these bits, and with these tasks and wishes, in place of its own
abbrev pub with_bits : GroupSnapshot → ℕ → GroupSnapshot
with_bits group bits = record group { bits = bits }

abbrev pub with_waiters : GroupSnapshot → List ℕ → List Wish → GroupSnapshot
with_waiters group tasks wishes = record group { waiting = tasks; wishes = wishes }

-- the group with one waiting task more, at that index, and with one less
abbrev pub with_waiter_at : GroupSnapshot → ℕ → ℕ → Wish → GroupSnapshot
with_waiter_at group index task wish =
    with_waiters group (insert group.waiting index task) (insert group.wishes index wish)

abbrev pub without_waiter_at : GroupSnapshot → ℕ → GroupSnapshot
without_waiter_at group index =
    with_waiters group (remove group.waiting index) (remove group.wishes index)

-- the tasks whose wishes these bits meet, in their order; each task has the wish at its index
abbrev pub met_tasks : ℕ → List ℕ → List Wish → List ℕ
met_tasks bits [] wishes = []
met_tasks bits (task ∷ tasks) [] = []
met_tasks bits (task ∷ tasks) (wish ∷ wishes) =
    if is_met bits wish then task ∷ met_tasks bits tasks wishes else met_tasks bits tasks wishes

abbrev pub met_by : GroupSnapshot → ℕ → List ℕ
met_by group bits = met_tasks bits group.waiting group.wishes

-- what is still left, without the bits of each wish that the bits meet and that clears them: the
-- bits that meet the wishes are the same for all
abbrev pub left_after : ℕ → List Wish → ℕ → ℕ
left_after bits [] left = left
left_after bits (wish ∷ wishes) left =
    left_after bits wishes (if is_met bits wish then left_of left wish else left)

abbrev pub bits_left : GroupSnapshot → ℕ → ℕ
bits_left group bits = left_after bits group.wishes bits
