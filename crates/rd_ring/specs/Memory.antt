-- A memory that is read and written around its end: its first byte comes after its last.
use Rattle.std.specs.Prelude.{ℕ, ◌+◌, ◌-◌, ◌%◌, ◌≤◌, List, ◌++◌, take, drop}

-- The offset lies in a memory of so many bytes, the first being 0; in an empty memory it is 0.
abbrev pub IsOffset : ℕ → ℕ → Type 0
IsOffset capacity offset = offset ≤ capacity - 1

-- the memory as it is read from an offset on: up to its end, and then from its beginning
abbrev pub seen_from : ℕ → List ℕ → List ℕ
seen_from offset memory = drop offset memory ++ take offset memory

-- the offset so many bytes after another, and before it, around the end of a memory of that size
abbrev pub offset_after : ℕ → ℕ → ℕ → ℕ
offset_after capacity offset count = (offset + count) % capacity

abbrev pub offset_before : ℕ → ℕ → ℕ → ℕ
offset_before capacity offset count = offset_after capacity offset (capacity - count)
