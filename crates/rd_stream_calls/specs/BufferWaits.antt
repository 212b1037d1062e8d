-- Laws of buffers, in their own words: how the waits of readers and writers end.
use Rattle.std.specs.Prelude.{ℕ, ◌≡◌, ◌+◌, ◌<◌, ◌≤◌, Bool, true, false, List, length}
use Rattle.rd_notify.specs.declared.entries.EntryState.TheVariants.{Idle}
use Rattle.rd_stream.specs.declared.side.Side.TheVariants.{Reader, Writer}
use Rattle.rd_app.specs.declared.instr.MessageCall.TheVariants as of_messages
use Rattle.rd_app.specs.declared.instr.Operand.{Operand}
use Rattle.rd_app.specs.declared.instr.StreamCall.TheVariants as of_streams
use Rattle.rd_state.specs.declared.phase.Held.{Held}
use Rattle.rd_state.specs.declared.phase.Held.TheVariants.{Stream, Message}
use Rattle.rd_state.specs.Phases.{tries_again}
use Rattle.rd_state.specs.Snapshot.{Snapshot, message_at, stream_at, task_at}
use Rattle.rd_state.specs.Waiting.{holder_at, HasHeld}
use Rattle.rd_kernel.specs.declared.outcome.Outcome.{Outcome}
use Rattle.rd_kernel.specs.declared.outcome.Outcome.TheVariants.{Returns, ReturnsBoth, Waits, Fails}
use Rattle.rd_kernel.specs.Holding.{come_back, completed, is_named}
use Rattle.rd_kernel.specs.Outcomes.{call_fails}
use Rattle.rd_kernel.specs.Tasks.{entry_at, HasEntry}
use Rattle.rd_stream_calls.specs.MessageCalls.{message_outcome, next_length}
use Rattle.rd_stream_calls.specs.StreamCalls.{bytes_written, stream_outcome, with_bytes_written}

-- Does the caller wait?
abbrev pub is_to_wait : Outcome → Bool
is_to_wait (Returns value) = false
is_to_wait (ReturnsBoth value second) = false
is_to_wait (Waits place deadline) = true
is_to_wait (Fails cause) = false

-- A task tries its call again that may have waited at the first place. The other place, that of the
-- buffer's other side, doesn't name it.
pub record TriesAgainAt (s : Snapshot) (task : ℕ) (held other : Held) : Type 0 where
  pub again : tries_again (task_at s task).phase ≡ true
  pub entry : HasEntry s task 0
  pub there : HasHeld s held
  pub apart : is_named task (holder_at s other) ≡ false

-- Its wait is over: its entry 0 is idle, and the place doesn't name it.
pub record WaitIsOver (s : Snapshot) (task : ℕ) (held : Held) : Type 0 where
  pub idle : (entry_at s task 0).state ≡ Idle
  pub unnamed : is_named task (holder_at s held) ≡ false

-- The wait of whoever tries again ends as the call begins. It is over after a read, which never
-- waits again, and after a write that doesn't.
pub record WaitsEnd : Type 0 where
  pub beginnings : (s : Snapshot) (task : ℕ) (held other : Held) → TriesAgainAt s task held other
      → WaitIsOver (come_back s task held) task held
  pub stream_reads : (priorities : List ℕ) (s : Snapshot) (task stream room : ℕ) (wait : Operand)
      → TriesAgainAt s task (Stream stream Reader) (Stream stream Writer)
      → WaitIsOver (stream_outcome priorities s task stream (of_streams.Read room wait)).state task
      (Stream stream Reader)
  pub stream_writes : (priorities : List ℕ) (s : Snapshot) (task stream : ℕ) (wait : Operand)
      → TriesAgainAt s task (Stream stream Writer) (Stream stream Reader)
      → is_to_wait (stream_outcome priorities s task stream (of_streams.Write wait)).outcome ≡ false
      → WaitIsOver (stream_outcome priorities s task stream (of_streams.Write wait)).state task
      (Stream stream Writer)
  pub message_reads : (priorities : List ℕ) (s : Snapshot) (task message room : ℕ) (wait : Operand)
      → TriesAgainAt s task (Message message Reader) (Message message Writer)
      → WaitIsOver (message_outcome priorities s task message (of_messages.Read room wait)).state
      task (Message message Reader)
  pub message_writes : (priorities : List ℕ) (s : Snapshot) (task message : ℕ) (wait : Operand)
      → TriesAgainAt s task (Message message Writer) (Message message Reader)
      → is_to_wait (message_outcome priorities s task message (of_messages.Write wait)).outcome
      ≡ false
      → WaitIsOver (message_outcome priorities s task message (of_messages.Write wait)).state task
      (Message message Writer)

-- No reader is woken below the trigger level: a write that leaves fewer bytes changes those bytes
-- and nothing else, so that each task is as it was. One that reaches the level completes the
-- reader's wait.
pub record ReadersWaitForTheTrigger : Type 0 where
  pub below : (priorities : List ℕ) (s : Snapshot) (task stream count : ℕ) → 0 < count
      → length (stream_at s stream).bytes + count < (stream_at s stream).trigger
      → bytes_written priorities s task stream count ≡ with_bytes_written s task stream count
  pub tasks : (priorities : List ℕ) (s : Snapshot) (task stream count : ℕ)
      → length (stream_at s stream).bytes + count < (stream_at s stream).trigger
      → (bytes_written priorities s task stream count).tasks ≡ s.tasks
  pub reached : (priorities : List ℕ) (s : Snapshot) (task stream count : ℕ) → 0 < count
      → (stream_at s stream).trigger ≤ length (stream_at s stream).bytes + count
      → bytes_written priorities s task stream count
      ≡ completed priorities (with_bytes_written s task stream count) (Stream stream Reader)

-- A message that is longer than the reader's room stays: the call returns 0, without waiting, and
-- does no more than begin.
abbrev pub LongMessagesStay : Type 0
LongMessagesStay =
    (priorities : List ℕ) (s : Snapshot) (task message room : ℕ) (wait : Operand)
    → room < next_length (message_at s message)
    → message_outcome priorities s task message (of_messages.Read room wait)
    ≡ call_fails (come_back s task (Message message Reader))
