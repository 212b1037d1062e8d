-- What a contract sees of a task's script.
use Rattle.std.specs.Prelude.{ℕ, List}
use Rattle.rd_app.specs.declared.instr.Instr.{Instr}

-- the task's priority, and its instructions in order
pub record TaskScript : Type 0 where
  pub priority : ℕ
  pub code : List Instr
