-- A state with one thing of a task changed.
use Rattle.std.specs.Prelude.{ℕ, ◌≡◌, ◌+◌, ◌<◌, List, None, length, slice_index, slice_index_or}
use Rattle.std.specs.Prelude.{slice_set}
use Rattle.rd_notify.specs.declared.entries.Entry.{Entry}
use Rattle.rd_notify.specs.Entries.{idle_entry}
use Rattle.rd_state.specs.declared.phase.Phase.{Phase}
use Rattle.rd_state.specs.Snapshot.{Snapshot, task_at, with_task}

abbrev pub register_at : Snapshot → ℕ → ℕ → ℕ
register_at s task register = slice_index (task_at s task).registers register

abbrev pub with_register : Snapshot → ℕ → ℕ → ℕ → Snapshot
with_register s task register value =
    with_task s task
    (record (task_at s task) { registers = slice_set (task_at s task).registers register value })

abbrev pub with_pc : Snapshot → ℕ → ℕ → Snapshot
with_pc s task pc = with_task s task (record (task_at s task) { pc = pc })

abbrev pub with_bytes : Snapshot → ℕ → List ℕ → Snapshot
with_bytes s task bytes = with_task s task (record (task_at s task) { bytes = bytes })

abbrev pub with_phase : Snapshot → ℕ → Phase → Snapshot
with_phase s task phase = with_task s task (record (task_at s task) { phase = phase })

-- a notification entry of a task
abbrev pub entry_at : Snapshot → ℕ → ℕ → Entry
entry_at s task index = slice_index_or (task_at s task).entries index idle_entry

abbrev pub with_entry : Snapshot → ℕ → ℕ → Entry → Snapshot
with_entry s task index entry =
    with_task s task
    (record (task_at s task) { entries = slice_set (task_at s task).entries index entry })

-- The task has an entry of that index.
abbrev pub HasEntry : Snapshot → ℕ → ℕ → Type 0
HasEntry s task index = (task < length s.tasks) × (index < length (task_at s task).entries)

-- The task stands at the same instruction.
abbrev pub PcStays : Snapshot → Snapshot → ℕ → Type 0
PcStays old new task = (task_at new task).pc ≡ (task_at old task).pc

-- the task stands at its next instruction
abbrev pub advanced : Snapshot → ℕ → Snapshot
advanced s task = with_pc s task ((task_at s task).pc + 1)

-- the task leaves its core
abbrev pub with_idle_core : Snapshot → ℕ → Snapshot
with_idle_core s core = record s { cores = slice_set s.cores core None }
