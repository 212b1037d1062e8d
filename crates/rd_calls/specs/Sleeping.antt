-- Readers of buffers sleep on: a stream buffer's below its trigger level, a message buffer's as
-- long as no message comes.
use Rattle.std.specs.Prelude.{ℕ, ◌≡◌, ◌+◌, ◌<◌, ◌≤◌, Bool, false, length, Some, Ok}
use Rattle.std.specs.Option.{option_map_or}
use Rattle.rd_stream.specs.declared.side.Side.TheVariants.{Reader}
use Rattle.rd_app.specs.declared.instr.Instr.{Instr}
use Rattle.rd_app.specs.declared.instr.Instr.TheVariants as instr
use Rattle.rd_app.specs.declared.instr.NotifyCall.{NotifyCall}
use Rattle.rd_app.specs.declared.instr.NotifyCall.TheVariants.{Notify, Query, Take, Wait}
use Rattle.rd_app.specs.declared.instr.NotifyCall.TheVariants.{ClearState, ClearValue}
use Rattle.rd_app.specs.Application.{Application}
use Rattle.rd_state.specs.declared.phase.Held.TheVariants.{Stream, Message}
use Rattle.rd_state.specs.declared.phase.Place.TheVariants as sort
use Rattle.rd_state.specs.Phases.{waits_at}
use Rattle.rd_state.specs.Snapshot.{Snapshot, core_at, message_at, stream_at, task_at}
use Rattle.rd_state.specs.Valid.{IsValid}
use Rattle.rd_kernel.specs.Waking.{is_due}
use Rattle.rd_moves.specs.Moves.{PlainMove}
use Rattle.rd_moves.specs.declared.moves.Move.TheVariants as move
use Rattle.rd_calls.specs.Carried.{carried_disturbs}
use Rattle.rd_calls.specs.Received.{is_entry}
use Rattle.rd_calls.specs.Step.{next_instr, step}

-- Does a call notify that task through its entry 0?
abbrev pub call_notifies_first : NotifyCall → ℕ → Bool
call_notifies_first (Notify to entry value action) task = is_entry to entry task 0
call_notifies_first (Query to entry value action) task = is_entry to entry task 0
call_notifies_first (Take entry exit wait) task = false
call_notifies_first (Wait entry entry_bits exit_bits wait) task = false
call_notifies_first (ClearState of entry) task = false
call_notifies_first (ClearValue of entry bits) task = false

-- An instruction does it by such a call alone.
abbrev pub notifies_first : Instr → ℕ → Bool
notifies_first (instr.Local instr) task = false
notifies_first (instr.Queue queue call) task = false
notifies_first (instr.QueueSet queue_set call) task = false
notifies_first (instr.Stream stream call) task = false
notifies_first (instr.Message message call) task = false
notifies_first (instr.Group group call) task = false
notifies_first (instr.Notify call) task = call_notifies_first call task

-- Does a move disturb a task otherwise than through its buffer: by a notification of its entry 0,
-- by the tick at which its time is up, or by what the move carries?
abbrev pub is_disturbed : Application → Snapshot → PlainMove → ℕ → Bool
is_disturbed app s (move.Core core) task =
    option_map_or (λ running. notifies_first (next_instr app s running) task) (core_at s core) false
is_disturbed app s move.Tick task = is_due (s.tick + 1) (task_at s task).phase
is_disturbed app s (move.Carried carried) task = carried_disturbs carried task

-- A task sleeps on: whatever has become of its entries, it is as it was else, and so waits where it
-- waited, until the same deadline.
abbrev pub SleepsOn : Snapshot → Snapshot → ℕ → Type 0
SleepsOn s s' task =
    task_at s' task ≡ record (task_at s task) { entries = (task_at s' task).entries }

-- Unless it is disturbed otherwise, a task sleeps on that waits as the reader of a stream buffer,
-- through each move after which fewer bytes than the trigger level are there. One that waits as the
-- reader of a message buffer does, through each move after which there are no more messages.
pub record ReadersSleep : Type 0 where
  pub of_streams : (app : Application) (s s' : Snapshot) (move : PlainMove) (task stream : ℕ)
      → IsValid app s → step app s move ≡ Ok s' → task < length s.tasks
      → waits_at (task_at s task).phase ≡ Some (sort.Held (Stream stream Reader))
      → length (stream_at s' stream).bytes < (stream_at s' stream).trigger
      → is_disturbed app s move task ≡ false → SleepsOn s s' task
  pub of_messages : (app : Application) (s s' : Snapshot) (move : PlainMove) (task message : ℕ)
      → IsValid app s → step app s move ≡ Ok s' → task < length s.tasks
      → waits_at (task_at s task).phase ≡ Some (sort.Held (Message message Reader))
      → length (message_at s' message).messages ≤ length (message_at s message).messages
      → is_disturbed app s move task ≡ false → SleepsOn s s' task
