-- Handles change by calls alone.
use Rattle.std.proofs.Common.{◌≡◌, ◌∙◌, ℕ, true, false, cond, length, ap}
use Rattle.std.specs.Prelude.{◌+◌, Option, None, Some, Ok, Err, nat_lt}
use Rattle.rd_app.specs.Application.{Application, priorities_of}
use Rattle.rd_refusal.specs.declared.refusal.Refusal.TheVariants.{TickLimit}
use Rattle.rd_state.specs.Snapshot.{Snapshot, core_at}
use Rattle.rd_kernel.specs.declared.waking.Waking.TheVariants.{TriesAgain}
use Rattle.rd_kernel.specs.Waking.{due_below}
use Rattle.rd_queue_calls.specs.QueueSetLaws.{handles_in}
use Rattle.rd_queue_calls.proofs.Offered.{handles_woken_all}
use Rattle.rd_moves.specs.declared.moves.Move.TheVariants as move
use Rattle.rd_calls.specs.HandleMoves.{HandlesGoByMoves, handles_run}
use Rattle.rd_calls.proofs.CarriedLaws.{carried-handles, carried_out-is}
use Rattle.rd_calls.proofs.InstrLaws.{handles_performed-is}
use Rattle.rd_calls.specs.Step.{core_step, last_tick, next_instr, step_of_core, tick_step}

of_task : (app : Application) (s s' : Snapshot) (core : ℕ) (o : Option ℕ) → step_of_core app s core o ≡ Ok s' → handles_in s' ≡ handles_run app s o
of_task app s s' core None e = cc
of_task app s s' core (Some task) e =
    let same : s' ≡ core_step app s core task = cc in
    ap handles_in same ∙ handles_performed-is (priorities_of app) s core task (next_instr app s task)

pub handles_go_by_moves : HandlesGoByMoves
handles_go_by_moves app s s' (move.Core core) e = of_task app s s' core (core_at s core) e
handles_go_by_moves app s s' move.Tick e =
    elim (nat_lt s.tick last_tick) as (λ b. cond b (Ok (tick_step app s)) (Err TickLimit) ≡ Ok s' → handles_in s' ≡ handles_in s) [
      | true ↦ λ made. let same : s' ≡ tick_step app s = cc in
          let now = record s { tick = s.tick + 1 } in
          ap handles_in same ∙ handles_woken_all (priorities_of app) TriesAgain now (due_below now (length s.tasks))
      | false ↦ λ none. cc
    ] e
handles_go_by_moves app s s' (move.Carried carried) e = ap handles_in (carried_out-is app s s' carried e) ∙ carried-handles app s carried
