-- Why moves are refused.
use Rattle.std.proofs.Common.{◌≢◌, ℕ, true, false, cond, arith}
use Rattle.std.specs.Prelude.{Bool, nat_lt, Option, None, Some, Ok, Err}
use Rattle.rd_app.specs.Application.{Application}
use Rattle.rd_refusal.specs.declared.refusal.Refusal.{Refusal}
use Rattle.rd_refusal.specs.declared.refusal.Refusal.TheVariants.{NoMemory, TickLimit}
use Rattle.rd_state.specs.Snapshot.{Snapshot, core_at}
use Rattle.rd_moves.specs.Moves.{PlainMove}
use Rattle.rd_moves.specs.declared.moves.Move.TheVariants.{Carried, Core, Tick}
use Rattle.rd_calls.specs.Step.{last_tick, step, step_of_core, tick_step}
use Rattle.rd_calls.proofs.Offered.{carried-no_memory}

-- The kernel's rules never speak of memory.
never_of_core : (app : Application) (s : Snapshot) (core : ℕ) (task : Option ℕ) → step_of_core app s core task ≢ Err NoMemory
never_of_core app s core None is = grind (arith, is)
never_of_core app s core (Some task) is = grind (arith, is)

never_if : (b : Bool) (s : Snapshot) (refusal : Refusal) → refusal ≢ NoMemory → cond b (Ok s) (Err refusal) ≢ Err NoMemory
never_if true s refusal other is = grind (arith, is)
never_if false s refusal other is = other (grind (arith, is))

pub never_no_memory : (app : Application) (s : Snapshot) (move : PlainMove) → step app s move ≢ Err NoMemory
never_no_memory app s (Core core) is = never_of_core app s core (core_at s core) is
never_no_memory app s Tick is = never_if (nat_lt s.tick last_tick) (tick_step app s) TickLimit (λ same. grind (arith, same)) is
never_no_memory app s (Carried carried) is = carried-no_memory app s carried is
