-- What the calls of message buffers do.
use Rattle.std.specs.Prelude.{ℕ, ◌≡◌, ◌+◌, ◌-◌, ◌∷◌, ◌++◌, ◌&&◌, ◌||◌, true, false, List, []}
use Rattle.std.specs.Prelude.{drop, if◌then◌else◌, length, nat_eq, nat_lt, slice_index_or}
use Rattle.rd_stream.specs.MessageSnapshot.{MessageSnapshot}
use Rattle.rd_stream.specs.Messages.{bytes_held, framed, with_messages}
use Rattle.rd_stream.specs.declared.side.Side.TheVariants.{Reader, Writer}
use Rattle.rd_app.specs.declared.instr.Operand.{Operand}
use Rattle.rd_app.specs.declared.instr.MessageCall.{MessageCall}
use Rattle.rd_app.specs.declared.instr.MessageCall.TheVariants.{Write, Read, Reset, Spaces}
use Rattle.rd_app.specs.declared.instr.MessageCall.TheVariants.{NextLength}
use Rattle.rd_state.specs.declared.phase.Cause.TheVariants.{EmptyData}
use Rattle.rd_state.specs.declared.phase.Held.TheVariants.{Message}
use Rattle.rd_state.specs.Phases.{tries_again}
use Rattle.rd_state.specs.Snapshot.{Snapshot, message_at, task_at, with_message}
use Rattle.rd_kernel.specs.declared.outcome.Outcome.TheVariants.{Fails}
use Rattle.rd_kernel.specs.Costs.{coming_back_cost, completing_cost, data_cost}
use Rattle.rd_kernel.specs.Holding.{come_back, completed, waits_held}
use Rattle.rd_kernel.specs.Outcomes.{Called, call_fails, call_passes, call_returns}
use Rattle.rd_kernel.specs.Tasks.{with_bytes}
use Rattle.rd_kernel.specs.Telling.{waits_once}
use Rattle.rd_kernel.specs.Waking.{may_wait}
use Rattle.rd_stream_calls.specs.StreamCalls.{is_held, piece_cost}

-- for how many more bytes a buffer has space
abbrev pub message_space : MessageSnapshot → ℕ
message_space buffer = buffer.capacity - bytes_held buffer.messages

-- the first message, and how long it is: 0 where there is none
abbrev pub first_message : MessageSnapshot → List ℕ
first_message buffer = slice_index_or buffer.messages 0 []

abbrev pub next_length : MessageSnapshot → ℕ
next_length buffer = length (first_message buffer)

-- ---- reading

-- the first message as the task's data, and the buffer without it
abbrev pub with_message_read : Snapshot → ℕ → ℕ → Snapshot
with_message_read s task message =
    with_message (with_bytes s task (first_message (message_at s message))) message
    (with_messages (message_at s message) (drop 1 (message_at s message).messages))

-- A message that is longer than the task's room stays; any other comes out whole, and completes the
-- writer's wait.
abbrev pub message_taken : List ℕ → Snapshot → ℕ → ℕ → ℕ → Called
message_taken priorities s task message room =
    if nat_eq (length (message_at s message).messages) 0
    || nat_lt room (next_length (message_at s message))
    then call_fails s
    else call_returns
    (completed priorities (with_message_read s task message) (Message message Writer))
    (next_length (message_at s message))

-- For an empty buffer the task waits once.
abbrev pub message_read : List ℕ → Snapshot → ℕ → ℕ → ℕ → Operand → Called
message_read priorities s task message room wait =
    if nat_eq (length (message_at s message).messages) 0 && waits_once s task wait
    then waits_held s task (Message message Reader) wait
    else message_taken priorities s task message room

-- xMessageBufferReceive
abbrev pub message_read_outcome : List ℕ → Snapshot → ℕ → ℕ → ℕ → Operand → Called
message_read_outcome priorities s task message room wait =
    message_read priorities (come_back s task (Message message Reader)) task message room wait

-- ---- writing

-- the task's data at the buffer's back, as one message
abbrev pub with_message_written : Snapshot → ℕ → ℕ → Snapshot
with_message_written s task message =
    with_message s message
    (with_messages (message_at s message)
    ((message_at s message).messages ++ (task_at s task).bytes ∷ []))

-- how many bytes the task's data takes as a message, those of its length among them
abbrev pub message_size : Snapshot → ℕ → ℕ
message_size s task = length (framed (task_at s task).bytes)

-- Where space is lacking, the task waits as long as its time lasts, and else nothing is written. A
-- message goes in whole, and completes the reader's wait.
abbrev pub message_written : List ℕ → Snapshot → ℕ → ℕ → Operand → Called
message_written priorities s task message wait =
    if nat_lt (message_space (message_at s message)) (message_size s task)
    then (if may_wait s task wait then waits_held s task (Message message Writer) wait
    else call_fails s)
    else call_returns
    (completed priorities (with_message_written s task message) (Message message Reader))
    (length (task_at s task).bytes)

-- Data of no bytes fails, and a message that is larger than the buffer is never written.
abbrev pub message_write : List ℕ → Snapshot → ℕ → ℕ → Operand → Called
message_write priorities s task message wait =
    if nat_eq (length (task_at s task).bytes) 0
    then record { state = s; outcome = Fails EmptyData }
    else (if nat_lt (message_at s message).capacity (message_size s task) then call_fails s
    else message_written priorities s task message wait)

-- xMessageBufferSend
abbrev pub message_write_outcome : List ℕ → Snapshot → ℕ → ℕ → Operand → Called
message_write_outcome priorities s task message wait =
    message_write priorities (come_back s task (Message message Writer)) task message wait

-- ---- the other calls

-- xMessageBufferReset: nothing is dropped while a task is named.
abbrev pub message_reset_outcome : Snapshot → ℕ → Called
message_reset_outcome s message =
    if is_held (message_at s message).holders then call_fails s
    else call_passes (with_message s message (with_messages (message_at s message) []))

-- what a call of a message buffer does
abbrev pub message_outcome : List ℕ → Snapshot → ℕ → ℕ → MessageCall → Called
message_outcome priorities s task message (Write wait) =
    message_write_outcome priorities s task message wait
message_outcome priorities s task message (Read room wait) =
    message_read_outcome priorities s task message room wait
message_outcome priorities s task message Reset = message_reset_outcome s message
message_outcome priorities s task message Spaces =
    call_returns s (message_space (message_at s message))
message_outcome priorities s task message NextLength =
    call_returns s (next_length (message_at s message))

-- ---- costs

-- the bytes that a call drops, those of lengths among them, which are saved in the record
abbrev pub dropped_by_message_call : Snapshot → ℕ → MessageCall → ℕ
dropped_by_message_call s message (Write wait) = 0
dropped_by_message_call s message (Read room wait) = 0
dropped_by_message_call s message Reset = bytes_held (message_at s message).messages
dropped_by_message_call s message Spaces = 0
dropped_by_message_call s message NextLength = 0

-- What a call takes in a record at the most.
abbrev pub message_read_cost : ℕ
message_read_cost = data_cost + piece_cost + completing_cost

abbrev pub message_write_cost : ℕ
message_write_cost = 1 + completing_cost

abbrev pub message_call_cost : Snapshot → ℕ → MessageCall → ℕ
message_call_cost s message (Write wait) = coming_back_cost + message_write_cost
message_call_cost s message (Read room wait) = coming_back_cost + message_read_cost
message_call_cost s message Reset = 1 + dropped_by_message_call s message Reset
message_call_cost s message Spaces = 0
message_call_cost s message NextLength = 0

-- A call that changes nothing: it counts, or it is refused at its first try.
abbrev pub MessageCallChangesNothing : Snapshot → ℕ → ℕ → MessageCall → Type 0
MessageCallChangesNothing s task message (Write wait) =
    (tries_again (task_at s task).phase ≡ false) × (length (task_at s task).bytes ≡ 0)
MessageCallChangesNothing s task message (Read room wait) =
    (tries_again (task_at s task).phase ≡ false)
    × (length (message_at s message).messages ≡ 0) × (waits_once s task wait ≡ false)
MessageCallChangesNothing s task message Reset = is_held (message_at s message).holders ≡ true
MessageCallChangesNothing s task message Spaces = Unit {0}
MessageCallChangesNothing s task message NextLength = Unit {0}
