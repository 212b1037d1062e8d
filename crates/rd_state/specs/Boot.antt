-- The state at boot: every task is ready at its first instruction, every object is empty, and
-- then the scheduler runs.
use Rattle.std.specs.Prelude.{ℕ, zero, suc, List, [], length, replicate, None}
use Rattle.rd_notify.specs.Entries.{idle_entry}
use Rattle.rd_app.specs.declared.instr.TheConstants.{REGISTERS}
use Rattle.rd_state.specs.declared.phase.Phase.TheVariants.{Run}
use Rattle.rd_app.specs.Application.{Application, priorities_of}
use Rattle.rd_wait.specs.Joined.{joined}
use Rattle.rd_state.specs.Objects.{new_objects}
use Rattle.rd_state.specs.Snapshot.{Snapshot, TaskSnapshot}
use Rattle.rd_state.specs.Settled.{settled}

-- a task at its first instruction, with that many notification entries
abbrev pub fresh_task : ℕ → TaskSnapshot
fresh_task entries = record {
  pc = 0;
  registers = replicate REGISTERS 0;
  bytes = [];
  phase = Run;
  entries = replicate entries idle_entry;
}

-- the first n tasks, joined by rising number
abbrev pub all_joined : List ℕ → ℕ → List ℕ
all_joined priorities zero = []
all_joined priorities (suc n) = joined priorities (all_joined priorities n) n

abbrev pub before_scheduling : Application → Snapshot
before_scheduling app = record {
  tick = app.tick;
  turn = 0;
  cores = replicate app.cores None;
  ready = all_joined (priorities_of app) (length app.tasks);
  tasks = replicate (length app.tasks) (fresh_task app.entries);
  objects = new_objects app;
}

abbrev pub boot_of : Application → Snapshot
boot_of app = settled (priorities_of app) (before_scheduling app)
