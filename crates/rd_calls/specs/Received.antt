-- What has come to an entry stays until somebody looks.
use Rattle.std.specs.Prelude.{ℕ, ◌≡◌, ◌&&◌, Bool, false, is_some, nat_eq, Ok}
use Rattle.std.specs.Option.{option_map_or}
use Rattle.rd_notify.specs.declared.entries.EntryState.TheVariants.{Received}
use Rattle.rd_app.specs.declared.instr.Instr.{Instr}
use Rattle.rd_app.specs.declared.instr.Instr.TheVariants as instr
use Rattle.rd_app.specs.declared.instr.NotifyCall.{NotifyCall}
use Rattle.rd_app.specs.declared.instr.NotifyCall.TheVariants.{Notify, Query, Take, Wait}
use Rattle.rd_app.specs.declared.instr.NotifyCall.TheVariants.{ClearState, ClearValue}
use Rattle.rd_app.specs.Application.{Application, side_of_message_call, side_of_stream_call}
use Rattle.rd_state.specs.Snapshot.{Snapshot, core_at}
use Rattle.rd_kernel.specs.Tasks.{entry_at}
use Rattle.rd_moves.specs.Moves.{PlainMove}
use Rattle.rd_moves.specs.declared.moves.Move.TheVariants.{Carried, Core, Tick}
use Rattle.rd_calls.specs.Step.{next_instr, step}

-- Is it that entry of that task?
abbrev pub is_entry : ℕ → ℕ → ℕ → ℕ → Bool
is_entry task other target index = nat_eq task target && nat_eq other index

-- Does a call of a task look at an entry of a task? It takes its own, or waits for it, or clears
-- the state of anybody's.
abbrev pub call_looks_at : ℕ → NotifyCall → ℕ → ℕ → Bool
call_looks_at task (Notify to entry value action) target index = false
call_looks_at task (Query to entry value action) target index = false
call_looks_at task (Take entry exit wait) target index = is_entry task entry target index
call_looks_at task (Wait entry entry_bits exit_bits wait) target index =
    is_entry task entry target index
call_looks_at task (ClearState of entry) target index = is_entry of entry target index
call_looks_at task (ClearValue of entry bits) target index = false

-- An instruction does it by such a call, or by one of a buffer that may wait, which its task does
-- through its entry 0.
abbrev pub looks_at : ℕ → Instr → ℕ → ℕ → Bool
looks_at task (instr.Local instr) target index = false
looks_at task (instr.Queue queue call) target index = false
looks_at task (instr.QueueSet queue_set call) target index = false
looks_at task (instr.Stream stream call) target index =
    is_some (side_of_stream_call call) && is_entry task 0 target index
looks_at task (instr.Message message call) target index =
    is_some (side_of_message_call call) && is_entry task 0 target index
looks_at task (instr.Group group call) target index = false
looks_at task (instr.Notify call) target index = call_looks_at task call target index

-- a move, by the instruction of its core's task; ticks look at none, nor does what moves carry
abbrev pub move_looks_at : Application → Snapshot → PlainMove → ℕ → ℕ → Bool
move_looks_at app s (Core core) target index =
    option_map_or (λ task. looks_at task (next_instr app s task) target index) (core_at s core)
    false
move_looks_at app s Tick target index = false
move_looks_at app s (Carried carried) target index = false

-- Whatever move is made: an entry that has received still has, unless the move looks at it.
abbrev pub ReceivedStays : Type 0
ReceivedStays =
    (app : Application) (s s' : Snapshot) (move : PlainMove) (target index : ℕ)
    → step app s move ≡ Ok s' → (entry_at s target index).state ≡ Received
    → move_looks_at app s move target index ≡ false
    → (entry_at s' target index).state ≡ Received
