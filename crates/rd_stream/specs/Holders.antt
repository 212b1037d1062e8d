-- The two places of a buffer, each for one task: its reader's and its writer's.
use Rattle.std.specs.Prelude.{ℕ, ◌<◌, Option, None, IfSome}
use Rattle.rd_stream.specs.declared.side.Side.{Side}
use Rattle.rd_stream.specs.declared.side.Side.TheVariants.{Reader, Writer}

-- the task that each place names, if any; how many tasks there are
pub record HoldersView : Type 0 where
  pub reader : Option ℕ
  pub writer : Option ℕ
  pub task_count : ℕ

-- two places that name nobody
abbrev pub no_holders : ℕ → HoldersView
no_holders task_count = record { reader = None; writer = None; task_count = task_count }

-- whom the place at a side names
abbrev pub holder_of : Side → HoldersView → Option ℕ
holder_of Reader holders = holders.reader
holder_of Writer holders = holders.writer

-- the same places, once the one at that side names this task, or nobody
abbrev pub with_holder_of : Side → Option ℕ → HoldersView → HoldersView
with_holder_of Reader task holders = record holders { reader = task }
with_holder_of Writer task holders = record holders { writer = task }

-- Whoever is named is a task.
pub record IsSizedHolders (holders : HoldersView) : Type 0 where
  pub reader : IfSome holders.reader (λ task. task < holders.task_count)
  pub writer : IfSome holders.writer (λ task. task < holders.task_count)
