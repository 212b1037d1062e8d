-- What the calls of stream buffers do.
use Rattle.std.specs.Prelude.{ℕ, ◌≡◌, ◌+◌, ◌-◌, ◌++◌, ◌&&◌, ◌||◌, Bool, true, false, List, []}
use Rattle.std.specs.Prelude.{drop, if◌then◌else◌, is_some, length, min, nat_eq, nat_lt, take}
use Rattle.rd_bytes.specs.declared.bytes.TheConstants.{MAX_BYTES}
use Rattle.rd_stream.specs.Holders.{HoldersView}
use Rattle.rd_stream.specs.StreamSnapshot.{StreamSnapshot}
use Rattle.rd_stream.specs.Streams.{with_stream_bytes, with_trigger}
use Rattle.rd_stream.specs.declared.side.Side.TheVariants.{Reader, Writer}
use Rattle.rd_app.specs.declared.instr.Operand.{Operand}
use Rattle.rd_app.specs.declared.instr.StreamCall.{StreamCall}
use Rattle.rd_app.specs.declared.instr.StreamCall.TheVariants.{Write, Read, Reset, SetTrigger}
use Rattle.rd_app.specs.declared.instr.StreamCall.TheVariants.{Count, Spaces}
use Rattle.rd_state.specs.declared.phase.Cause.TheVariants.{EmptyData}
use Rattle.rd_state.specs.declared.phase.Held.TheVariants.{Stream}
use Rattle.rd_state.specs.Objects.{trigger_taken}
use Rattle.rd_state.specs.Phases.{tries_again}
use Rattle.rd_state.specs.Snapshot.{Snapshot, stream_at, task_at, with_stream}
use Rattle.rd_kernel.specs.declared.outcome.Outcome.TheVariants.{Fails}
use Rattle.rd_kernel.specs.Costs.{coming_back_cost, completing_cost, data_cost}
use Rattle.rd_kernel.specs.Holding.{come_back, completed, waits_held}
use Rattle.rd_kernel.specs.Outcomes.{Called, call_fails, call_passes, call_returns}
use Rattle.rd_kernel.specs.Tasks.{with_bytes}
use Rattle.rd_kernel.specs.Telling.{waits_once}
use Rattle.rd_kernel.specs.Waking.{may_wait, operand_value}

-- for how many more bytes a buffer has space
abbrev pub stream_space : StreamSnapshot → ℕ
stream_space stream = stream.capacity - length stream.bytes

-- Does a place of the buffer name anybody?
abbrev pub is_held : HoldersView → Bool
is_held holders = is_some holders.reader || is_some holders.writer

-- ---- reading

-- the first so many bytes as the task's data, and the buffer without them
abbrev pub with_bytes_read : Snapshot → ℕ → ℕ → ℕ → Snapshot
with_bytes_read s task stream count =
    with_stream (with_bytes s task (take count (stream_at s stream).bytes)) stream
    (with_stream_bytes (stream_at s stream) (drop count (stream_at s stream).bytes))

-- A read of so many bytes. One of none leaves the data; any other completes the writer's wait.
abbrev pub bytes_read : List ℕ → Snapshot → ℕ → ℕ → ℕ → Called
bytes_read priorities s task stream count =
    if nat_eq count 0 then call_returns s 0
    else call_returns
    (completed priorities (with_bytes_read s task stream count) (Stream stream Writer)) count

-- For an empty buffer the task waits once. Else it takes what is there, as far as it has room.
abbrev pub stream_read : List ℕ → Snapshot → ℕ → ℕ → ℕ → Operand → Called
stream_read priorities s task stream room wait =
    if nat_eq (length (stream_at s stream).bytes) 0 && waits_once s task wait
    then waits_held s task (Stream stream Reader) wait
    else bytes_read priorities s task stream (min room (length (stream_at s stream).bytes))

-- xStreamBufferReceive
abbrev pub stream_read_outcome : List ℕ → Snapshot → ℕ → ℕ → ℕ → Operand → Called
stream_read_outcome priorities s task stream room wait =
    stream_read priorities (come_back s task (Stream stream Reader)) task stream room wait

-- ---- writing

-- the first so many bytes of the task's data at the buffer's back
abbrev pub with_bytes_written : Snapshot → ℕ → ℕ → ℕ → Snapshot
with_bytes_written s task stream count =
    with_stream s stream
    (with_stream_bytes (stream_at s stream)
    ((stream_at s stream).bytes ++ take count (task_at s task).bytes))

-- A write of so many bytes. It completes the reader's wait where it wrote some, and at least the
-- trigger level is there then.
abbrev pub bytes_written : List ℕ → Snapshot → ℕ → ℕ → ℕ → Snapshot
bytes_written priorities s task stream count =
    if nat_eq count 0 then s
    else (if nat_lt (length (stream_at s stream).bytes + count) (stream_at s stream).trigger
    then with_bytes_written s task stream count
    else completed priorities (with_bytes_written s task stream count) (Stream stream Reader))

-- Is there less space than the data needs, which is never more than the buffer's size?
abbrev pub lacks_space : Snapshot → ℕ → ℕ → Bool
lacks_space s task stream =
    nat_lt (stream_space (stream_at s stream))
    (min (length (task_at s task).bytes) (stream_at s stream).capacity)

-- Data of no bytes fails. Where space is lacking, the task waits as long as its time lasts. Then as
-- much of the data is written as there is space for.
abbrev pub stream_write : List ℕ → Snapshot → ℕ → ℕ → Operand → Called
stream_write priorities s task stream wait =
    if nat_eq (length (task_at s task).bytes) 0
    then record { state = s; outcome = Fails EmptyData }
    else (if lacks_space s task stream && may_wait s task wait
    then waits_held s task (Stream stream Writer) wait
    else call_returns
    (bytes_written priorities s task stream
    (min (length (task_at s task).bytes) (stream_space (stream_at s stream))))
    (min (length (task_at s task).bytes) (stream_space (stream_at s stream))))

-- xStreamBufferSend
abbrev pub stream_write_outcome : List ℕ → Snapshot → ℕ → ℕ → Operand → Called
stream_write_outcome priorities s task stream wait =
    stream_write priorities (come_back s task (Stream stream Writer)) task stream wait

-- ---- the other calls

-- xStreamBufferReset: nothing is dropped while a task is named.
abbrev pub stream_reset_outcome : Snapshot → ℕ → Called
stream_reset_outcome s stream =
    if is_held (stream_at s stream).holders then call_fails s
    else call_passes (with_stream s stream (with_stream_bytes (stream_at s stream) []))

-- xStreamBufferSetTriggerLevel: 0 is taken as 1, and none is above the size.
abbrev pub set_trigger_outcome : Snapshot → ℕ → ℕ → Called
set_trigger_outcome s stream trigger =
    if nat_lt (stream_at s stream).capacity (trigger_taken trigger) then call_fails s
    else call_passes
    (with_stream s stream (with_trigger (stream_at s stream) (trigger_taken trigger)))

-- what a call of a stream buffer does
abbrev pub stream_outcome : List ℕ → Snapshot → ℕ → ℕ → StreamCall → Called
stream_outcome priorities s task stream (Write wait) =
    stream_write_outcome priorities s task stream wait
stream_outcome priorities s task stream (Read room wait) =
    stream_read_outcome priorities s task stream room wait
stream_outcome priorities s task stream Reset = stream_reset_outcome s stream
stream_outcome priorities s task stream (SetTrigger trigger) =
    set_trigger_outcome s stream (operand_value s task trigger)
stream_outcome priorities s task stream Count =
    call_returns s (length (stream_at s stream).bytes)
stream_outcome priorities s task stream Spaces = call_returns s (stream_space (stream_at s stream))

-- ---- costs

-- the bytes that a call drops, which are saved in the record
abbrev pub dropped_by_stream_call : Snapshot → ℕ → StreamCall → ℕ
dropped_by_stream_call s stream (Write wait) = 0
dropped_by_stream_call s stream (Read room wait) = 0
dropped_by_stream_call s stream Reset = length (stream_at s stream).bytes
dropped_by_stream_call s stream (SetTrigger trigger) = 0
dropped_by_stream_call s stream Count = 0
dropped_by_stream_call s stream Spaces = 0

-- bytes that leave a buffer for a task's data
abbrev pub piece_cost : ℕ
piece_cost = 1 + MAX_BYTES

-- What a call takes in a record at the most.
abbrev pub stream_read_cost : ℕ
stream_read_cost = data_cost + piece_cost + completing_cost

abbrev pub stream_write_cost : ℕ
stream_write_cost = 1 + completing_cost

abbrev pub stream_call_cost : Snapshot → ℕ → StreamCall → ℕ
stream_call_cost s stream (Write wait) = coming_back_cost + stream_write_cost
stream_call_cost s stream (Read room wait) = coming_back_cost + stream_read_cost
stream_call_cost s stream Reset = 1 + dropped_by_stream_call s stream Reset
stream_call_cost s stream (SetTrigger trigger) = 1
stream_call_cost s stream Count = 0
stream_call_cost s stream Spaces = 0

-- A call that changes nothing: it counts, or it is refused at its first try.
abbrev pub StreamCallChangesNothing : Snapshot → ℕ → ℕ → StreamCall → Type 0
StreamCallChangesNothing s task stream (Write wait) =
    (tries_again (task_at s task).phase ≡ false) × (length (task_at s task).bytes ≡ 0)
StreamCallChangesNothing s task stream (Read room wait) =
    (tries_again (task_at s task).phase ≡ false) × (length (stream_at s stream).bytes ≡ 0)
    × (waits_once s task wait ≡ false)
StreamCallChangesNothing s task stream Reset = is_held (stream_at s stream).holders ≡ true
StreamCallChangesNothing s task stream (SetTrigger trigger) =
    nat_lt (stream_at s stream).capacity (trigger_taken (operand_value s task trigger)) ≡ true
StreamCallChangesNothing s task stream Count = Unit {0}
StreamCallChangesNothing s task stream Spaces = Unit {0}
