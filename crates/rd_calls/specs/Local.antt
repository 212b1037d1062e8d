-- The instructions that touch nothing but their own task.
use Rattle.std.specs.Prelude.{ℕ, ◌+◌, ◌%◌, ◌^◌, ◌<◌, ◌≤◌, length, nat_eq}
use Rattle.std.specs.Prelude.{if◌then◌else◌}
use Rattle.std.specs.Int.{w32, to_le_bytes, from_le_bytes}
use Rattle.rd_bytes.specs.declared.bytes.TheConstants.{MAX_BYTES}
use Rattle.rd_app.specs.declared.app.TheConstants.{MAX_CODE}
use Rattle.rd_app.specs.declared.instr.TheConstants.{REGISTERS}
use Rattle.rd_app.specs.declared.instr.LocalInstr.{LocalInstr}
use Rattle.rd_app.specs.declared.instr.LocalInstr.TheVariants.{Set, Add, Move, Data, Pack}
use Rattle.rd_app.specs.declared.instr.LocalInstr.TheVariants.{Unpack, Jump, JumpZero, End}
use Rattle.rd_state.specs.declared.phase.Phase.TheVariants.{Ended}
use Rattle.rd_state.specs.Snapshot.{Snapshot, task_at}
use Rattle.rd_kernel.specs.Costs.{data_cost}
use Rattle.rd_kernel.specs.Tasks.{register_at, with_register, with_pc}
use Rattle.rd_kernel.specs.Tasks.{with_bytes, with_idle_core, with_phase, advanced}

-- the first four bytes of a task's data, lowest first, missing ones 0, as a number
abbrev pub unpacked : Snapshot → ℕ → ℕ
unpacked s task = from_le_bytes w32 (task_at s task).bytes

-- the state after a local instruction of the task on a core
abbrev pub local_step : Snapshot → ℕ → ℕ → LocalInstr → Snapshot
local_step s core task (Set register value) = advanced (with_register s task register value) task
local_step s core task (Add register value) =
    advanced (with_register s task register ((register_at s task register + value) % 2 ^ 32)) task
local_step s core task (Move into from) =
    advanced (with_register s task into (register_at s task from)) task
local_step s core task (Data bytes) = advanced (with_bytes s task bytes) task
local_step s core task (Pack register) =
    advanced (with_bytes s task (to_le_bytes w32 (register_at s task register))) task
local_step s core task (Unpack register) =
    advanced (with_register s task register (unpacked s task)) task
local_step s core task (Jump target) = with_pc s task target
local_step s core task (JumpZero register target) =
    with_pc s task
    (if nat_eq (register_at s task register) 0 then target else (task_at s task).pc + 1)
local_step s core task End = with_idle_core (with_phase s task Ended) core

-- The registers that a local instruction names are there, its bytes fit a task's data, and an
-- instruction can have the number of its target.
abbrev pub NamesLocalParts : LocalInstr → Type 0
NamesLocalParts (Set register value) = register < REGISTERS
NamesLocalParts (Add register value) = register < REGISTERS
NamesLocalParts (Move into from) = (into < REGISTERS) × (from < REGISTERS)
NamesLocalParts (Data bytes) = length bytes ≤ MAX_BYTES
NamesLocalParts (Pack register) = register < REGISTERS
NamesLocalParts (Unpack register) = register < REGISTERS
NamesLocalParts (Jump target) = target ≤ MAX_CODE
NamesLocalParts (JumpZero register target) = (register < REGISTERS) × (target ≤ MAX_CODE)
NamesLocalParts End = Unit {0}

-- what a local instruction takes in a record at the most: the data, and the next instruction
abbrev pub local_cost : ℕ
local_cost = data_cost + 1
