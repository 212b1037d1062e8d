-- Calls of stream buffers leave what makes a state valid, and what is none of theirs.
use Rattle.rd_state.specs.declared.phase.Place.TheVariants as sort
use Rattle.rd_app.specs.declared.instr.Instr.TheVariants as instr
use Rattle.std.proofs.Common.{◌∙◌, ◌≡◌, ◌<◌, ◌++◌, ◌+◌, Bool, List, None, Option, Some, [], ap, arith, cond, drop, false, length, refl, take, true, ℕ}
use Rattle.std.proofs.lemmas.List.{length-set}
use Rattle.std.specs.Prelude.{◌&&◌, is_some, min, nat_eq, nat_lt}
use Rattle.rd_app.specs.Application.{Application, priorities_of, side_of_stream_call}
use Rattle.rd_app.specs.declared.instr.Instr.{Instr}
use Rattle.rd_app.specs.declared.instr.Operand.{Operand}
use Rattle.rd_app.specs.declared.instr.StreamCall.{StreamCall}
use Rattle.rd_app.specs.declared.instr.StreamCall.TheVariants.{Write, Read, Reset, SetTrigger, Count, Spaces}
use Rattle.rd_stream.specs.StreamSnapshot.{StreamSnapshot}
use Rattle.rd_stream.specs.Streams.{with_stream_bytes, with_trigger}
use Rattle.rd_stream.specs.declared.side.Side.{Side}
use Rattle.rd_stream.specs.declared.side.Side.TheVariants.{Reader, Writer}
use Rattle.rd_state.specs.declared.phase.Cause.TheVariants.{EmptyData}
use Rattle.rd_state.specs.declared.phase.Held.TheVariants.{Stream}
use Rattle.rd_state.specs.Objects.{ObjectsSnapshot, objects_with_stream, trigger_taken}
use Rattle.rd_state.specs.Snapshot.{Snapshot, stream_at, task_at, with_stream}
use Rattle.rd_state.specs.Phases.{is_first}
use Rattle.rd_state.specs.Valid.{entry_of_call}
use Rattle.rd_state.specs.Waiting.{HasHeld}
use Rattle.rd_kernel.specs.declared.outcome.Outcome.TheVariants.{Fails}
use Rattle.rd_kernel.specs.Holding.{come_back, completed, waits_held}
use Rattle.rd_kernel.specs.Outcomes.{Called, call_fails, call_passes, call_returns, concluded}
use Rattle.rd_kernel.specs.Tasks.{with_bytes}
use Rattle.rd_kernel.specs.Telling.{waits_once}
use Rattle.rd_kernel.specs.Waking.{may_wait, operand_value}
use Rattle.rd_kernel.proofs.Offered.{HasReceived, IsConsistent, IsConsistent-returned_alone, IsOn, IsOn-come_back, IsOn-completed, IsOn-contents, IsOn-fails}
use Rattle.rd_kernel.proofs.Offered.{IsOn-outside, IsOn-returns, IsOn-values, IsOn-waits_held, NamesTasks-sized, PcsStay, RunsInstr, all_have_time_left}
use Rattle.rd_kernel.proofs.Offered.{has_held_still}
use Rattle.rd_stream_calls.specs.StreamCalls.{bytes_read, bytes_written, is_held, lacks_space, set_trigger_outcome, stream_outcome, stream_read, stream_read_outcome}
use Rattle.rd_stream_calls.specs.StreamCalls.{stream_reset_outcome, stream_space, stream_write, stream_write_outcome, with_bytes_read, with_bytes_written}
use Rattle.rd_stream_calls.proofs.BufferLaws.{IsBesideBuffers, SameBeside, StaysByChanges, StaysByWaiting, beside_by_changes, beside_by_waiting, both_true, concluded-tick}
use Rattle.rd_stream_calls.proofs.BufferLaws.{pcs_by_changes, pcs_by_waiting, received_by_changes, received_by_waiting, stream_contents, tick_by_changes, tick_by_waiting}

-- ---- what stays, whichever way a call goes

read_stays : (P : Snapshot → Type 0) (priorities : List ℕ) (s : Snapshot) (task stream room : ℕ) (wait : Operand) → StaysByWaiting P task
    → StaysByChanges P priorities task → P s → P (stream_read_outcome priorities s task stream room wait).state
read_stays P priorities s task stream room wait waiting changes at =
    by_wait (nat_eq (length (stream_at p stream).bytes) 0 && waits_once p task wait)
  where
    p : Snapshot
    p = come_back s task (Stream stream Reader)

    at_p : P p
    at_p = waiting.come_back s (Stream stream Reader) at

    by_count : (count : ℕ) (b : Bool)
        → P (cond b (call_returns p 0) (call_returns (completed priorities (with_bytes_read p task stream count) (Stream stream Writer)) count)).state
    by_count count true = at_p
    by_count count false =
        changes.completed (with_bytes_read p task stream count) (Stream stream Writer)
        (changes.streams (with_bytes p task (take count (stream_at p stream).bytes)) stream
        (with_stream_bytes (stream_at p stream) (drop count (stream_at p stream).bytes))
        (changes.bytes p (take count (stream_at p stream).bytes) at_p))

    by_wait : (b : Bool)
        → P (cond b (waits_held p task (Stream stream Reader) wait) (bytes_read priorities p task stream (min room (length (stream_at p stream).bytes)))).state
    by_wait true = waiting.waits p (Stream stream Reader) wait at_p
    by_wait false = let count = min room (length (stream_at p stream).bytes) in by_count count (nat_eq count 0)

write_stays : (P : Snapshot → Type 0) (priorities : List ℕ) (s : Snapshot) (task stream : ℕ) (wait : Operand) → StaysByWaiting P task
    → StaysByChanges P priorities task → P s → P (stream_write_outcome priorities s task stream wait).state
write_stays P priorities s task stream wait waiting changes at =
    by_data (nat_eq (length (task_at p task).bytes) 0) (lacks_space p task stream && may_wait p task wait)
  where
    p : Snapshot
    p = come_back s task (Stream stream Writer)

    at_p : P p
    at_p = waiting.come_back s (Stream stream Writer) at

    count : ℕ
    count = min (length (task_at p task).bytes) (stream_space (stream_at p stream))

    put : P (with_bytes_written p task stream count)
    put = changes.streams p stream (with_stream_bytes (stream_at p stream) ((stream_at p stream).bytes ++ take count (task_at p task).bytes)) at_p

    by_trigger : (b : Bool) → P (cond b (with_bytes_written p task stream count) (completed priorities (with_bytes_written p task stream count) (Stream stream Reader)))
    by_trigger true = put
    by_trigger false = changes.completed (with_bytes_written p task stream count) (Stream stream Reader) put

    by_count : (none below : Bool)
        → P (cond none p (cond below (with_bytes_written p task stream count) (completed priorities (with_bytes_written p task stream count) (Stream stream Reader))))
    by_count true below = at_p
    by_count false below = by_trigger below

    by_data : (none lacks : Bool)
        → P (cond none (record { state = p; outcome = Fails EmptyData })
        (cond lacks (waits_held p task (Stream stream Writer) wait) (call_returns (bytes_written priorities p task stream count) count))).state
    by_data true lacks = at_p
    by_data false true = waiting.waits p (Stream stream Writer) wait at_p
    by_data false false = by_count (nat_eq count 0) (nat_lt (length (stream_at p stream).bytes + count) (stream_at p stream).trigger)

-- Waiting is asked of calls that may wait alone.
call_stays : (P : Snapshot → Type 0) (priorities : List ℕ) (s : Snapshot) (task stream : ℕ) (call : StreamCall)
    → (is_some (side_of_stream_call call) ≡ true → StaysByWaiting P task) → StaysByChanges P priorities task → P s
    → P (stream_outcome priorities s task stream call).state
call_stays P priorities s task stream (Write wait) waiting changes at = write_stays P priorities s task stream wait (waiting refl) changes at
call_stays P priorities s task stream (Read room wait) waiting changes at = read_stays P priorities s task stream room wait (waiting refl) changes at
call_stays P priorities s task stream Reset waiting changes at = by_held (is_held (stream_at s stream).holders)
  where
    by_held : (b : Bool) → P (cond b (call_fails s) (call_passes (with_stream s stream (with_stream_bytes (stream_at s stream) [])))).state
    by_held true = at
    by_held false = changes.streams s stream (with_stream_bytes (stream_at s stream) []) at
call_stays P priorities s task stream (SetTrigger trigger) waiting changes at =
    by_size (nat_lt (stream_at s stream).capacity (trigger_taken (operand_value s task trigger)))
  where
    level : ℕ
    level = trigger_taken (operand_value s task trigger)

    by_size : (b : Bool) → P (cond b (call_fails s) (call_passes (with_stream s stream (with_trigger (stream_at s stream) level)))).state
    by_size true = at
    by_size false = changes.streams s stream (with_trigger (stream_at s stream) level) at
call_stays P priorities s task stream Count waiting changes at = at
call_stays P priorities s task stream Spaces waiting changes at = at

pub stream_call-pcs : (priorities : List ℕ) (s : Snapshot) (task stream : ℕ) (call : StreamCall) → PcsStay s (stream_outcome priorities s task stream call).state
stream_call-pcs priorities s task stream call =
    call_stays (PcsStay s) priorities s task stream call (λ may. pcs_by_waiting s task) (pcs_by_changes s priorities task) (λ t. refl)

pub stream_call-tick : (priorities : List ℕ) (s : Snapshot) (core task stream : ℕ) (call : StreamCall)
    → (concluded (stream_outcome priorities s task stream call) core task).tick ≡ s.tick
stream_call-tick priorities s core task stream call =
    let called = stream_outcome priorities s task stream call in
    concluded-tick called.state called.outcome core task
    ∙ call_stays (λ p. p.tick ≡ s.tick) priorities s task stream call (λ may. tick_by_waiting s task) (tick_by_changes s priorities task) refl

pub stream_call-beside : {A : Type 0} (f : ObjectsSnapshot → A) (priorities : List ℕ) (s : Snapshot) (task stream : ℕ) (call : StreamCall)
    → IsBesideBuffers f priorities → f (stream_outcome priorities s task stream call).state.objects ≡ f s.objects
stream_call-beside f priorities s task stream call is =
    call_stays (SameBeside f s) priorities s task stream call (λ may. beside_by_waiting f s priorities task is) (beside_by_changes f s priorities task is) refl

pub stream_call-received : (priorities : List ℕ) (s : Snapshot) (task stream target index : ℕ) (call : StreamCall)
    → (is_some (side_of_stream_call call) ≡ true → task ≡ target → 0 ≡ index → ⊥) → HasReceived s target index
    → HasReceived (stream_outcome priorities s task stream call).state target index
stream_call-received priorities s task stream target index call other has =
    call_stays (λ p. HasReceived p target index) priorities s task stream call (λ may. received_by_waiting task target index (other may))
    (received_by_changes priorities task target index) has

-- ---- what makes a state valid

-- The buffer is there after a call has begun.
still_there : (app : Application) (s p : Snapshot) (core task stream : ℕ) (side : Side) (i : Instr) → RunsInstr app s core task i → IsOn app s p task
    → stream < length s.objects.streams → HasHeld p (Stream stream side)
still_there app s p core task stream side i calls on there =
    has_held_still app s.objects p.objects (Stream stream side) calls.valid.in_limits.objects on.consistent.shapes there

reads : (app : Application) (s : Snapshot) (core task stream room : ℕ) (wait : Operand) → RunsInstr app s core task (instr.Stream stream (Read room wait))
    → stream < length s.objects.streams → 0 < app.entries
    → IsConsistent app (all_have_time_left s.tick) (concluded (stream_read_outcome (priorities_of app) s task stream room wait) core task)
reads app s core task stream room wait calls there entries =
    by_wait (nat_eq (length (stream_at p stream).bytes) 0 && waits_once p task wait) refl
  where
    i : Instr
    i = instr.Stream stream (Read room wait)

    p : Snapshot
    p = come_back s task (Stream stream Reader)

    on : IsOn app s p task
    on = IsOn-come_back app s core task (Stream stream Reader) i calls refl there entries (NamesTasks-sized s calls.valid.in_limits.sized)

    here : stream < length p.objects.streams
    here = still_there app s p core task stream Reader i calls on there

    read_some : (count : ℕ) → IsOn app s (completed (priorities_of app) (with_bytes_read p task stream count) (Stream stream Writer)) task
    read_some count =
        let bytes = take count (stream_at p stream).bytes in
        let now = with_stream_bytes (stream_at p stream) (drop count (stream_at p stream).bytes) in
        let q = with_bytes p task bytes in
        IsOn-completed app s (with_bytes_read p task stream count) core task (Stream stream Writer) i calls (omega (arith, here, length-set p.objects.streams stream now)) entries
        (IsOn-contents app s q task (objects_with_stream q.objects stream now) (stream_contents q.objects stream now here refl refl)
        (IsOn-values app s p task (task_at p task).registers bytes calls.there on))

    by_count : (count : ℕ) (b : Bool)
        → IsConsistent app (all_have_time_left s.tick)
        (concluded (cond b (call_returns p 0) (call_returns (completed (priorities_of app) (with_bytes_read p task stream count) (Stream stream Writer)) count)) core task)
    by_count count true = IsOn-returns app s p core task 0 i calls on
    by_count count false =
        IsOn-returns app s (completed (priorities_of app) (with_bytes_read p task stream count) (Stream stream Writer)) core task count i calls (read_some count)

    by_wait : (b : Bool) → (nat_eq (length (stream_at p stream).bytes) 0 && waits_once p task wait) ≡ b
        → IsConsistent app (all_have_time_left s.tick)
        (concluded (cond b (waits_held p task (Stream stream Reader) wait)
        (bytes_read (priorities_of app) p task stream (min room (length (stream_at p stream).bytes)))) core task)
    by_wait true e =
        let once = (both_true (nat_eq (length (stream_at p stream).bytes) 0) (waits_once p task wait) e).1 in
        IsOn-waits_held app s p core task (Stream stream Reader) wait i calls refl here entries
        (both_true (is_first (task_at p task).phase) (may_wait p task wait) once).1 on
    by_wait false e = let count = min room (length (stream_at p stream).bytes) in by_count count (nat_eq count 0)

writes : (app : Application) (s : Snapshot) (core task stream : ℕ) (wait : Operand) → RunsInstr app s core task (instr.Stream stream (Write wait))
    → stream < length s.objects.streams → 0 < app.entries
    → IsConsistent app (all_have_time_left s.tick) (concluded (stream_write_outcome (priorities_of app) s task stream wait) core task)
writes app s core task stream wait calls there entries =
    by_data (nat_eq (length (task_at p task).bytes) 0) (lacks_space p task stream && may_wait p task wait) refl
  where
    i : Instr
    i = instr.Stream stream (Write wait)

    p : Snapshot
    p = come_back s task (Stream stream Writer)

    on : IsOn app s p task
    on = IsOn-come_back app s core task (Stream stream Writer) i calls refl there entries (NamesTasks-sized s calls.valid.in_limits.sized)

    here : stream < length p.objects.streams
    here = still_there app s p core task stream Writer i calls on there

    count : ℕ
    count = min (length (task_at p task).bytes) (stream_space (stream_at p stream))

    q : Snapshot
    q = with_bytes_written p task stream count

    put : IsOn app s q task
    put =
        let now = with_stream_bytes (stream_at p stream) ((stream_at p stream).bytes ++ take count (task_at p task).bytes) in
        IsOn-contents app s p task (objects_with_stream p.objects stream now) (stream_contents p.objects stream now here refl refl) on

    has_q : HasHeld q (Stream stream Reader)
    has_q =
        let now = with_stream_bytes (stream_at p stream) ((stream_at p stream).bytes ++ take count (task_at p task).bytes) in
        omega (arith, here, length-set p.objects.streams stream now)

    by_trigger : (none below : Bool) → IsOn app s (cond none p (cond below q (completed (priorities_of app) q (Stream stream Reader)))) task
    by_trigger true below = on
    by_trigger false true = put
    by_trigger false false = IsOn-completed app s q core task (Stream stream Reader) i calls has_q entries put

    by_data : (none lacks : Bool) → (lacks_space p task stream && may_wait p task wait) ≡ lacks
        → IsConsistent app (all_have_time_left s.tick)
        (concluded (cond none (record { state = p; outcome = Fails EmptyData })
        (cond lacks (waits_held p task (Stream stream Writer) wait) (call_returns (bytes_written (priorities_of app) p task stream count) count))) core task)
    by_data true lacks e = IsOn-fails app s p core task EmptyData i calls on
    by_data false true e =
        IsOn-waits_held app s p core task (Stream stream Writer) wait i calls refl here entries
        (both_true (lacks_space p task stream) (may_wait p task wait) e).1 on
    by_data false false e =
        IsOn-returns app s (bytes_written (priorities_of app) p task stream count) core task count i calls
        (by_trigger (nat_eq count 0) (nat_lt (length (stream_at p stream).bytes + count) (stream_at p stream).trigger))

-- A call that waits at no place changes what the buffer holds, or nothing.
returns_after : (app : Application) (s : Snapshot) (core task stream value : ℕ) (now : StreamSnapshot) (i : Instr) → RunsInstr app s core task i → entry_of_call i ≡ None
    → stream < length s.objects.streams → now.holders ≡ (stream_at s stream).holders → now.capacity ≡ (stream_at s stream).capacity
    → IsConsistent app (all_have_time_left s.tick) (concluded (call_returns (with_stream s stream now) value) core task)
returns_after app s core task stream value now i calls none there holders capacity =
    IsOn-returns app s (with_stream s stream now) core task value i calls
    (IsOn-contents app s s task (objects_with_stream s.objects stream now) (stream_contents s.objects stream now there holders capacity)
    (IsOn-outside app s core task i calls none (NamesTasks-sized s calls.valid.in_limits.sized)))

pub IsConsistent-stream_call : (app : Application) (s : Snapshot) (core task stream : ℕ) (call : StreamCall) → RunsInstr app s core task (instr.Stream stream call)
    → stream < length s.objects.streams → 0 < app.entries
    → IsConsistent app (all_have_time_left s.tick) (concluded (stream_outcome (priorities_of app) s task stream call) core task)
IsConsistent-stream_call app s core task stream (Write wait) calls there entries = writes app s core task stream wait calls there entries
IsConsistent-stream_call app s core task stream (Read room wait) calls there entries = reads app s core task stream room wait calls there entries
IsConsistent-stream_call app s core task stream Reset calls there entries =
    elim (is_held (stream_at s stream).holders) as (λ b. IsConsistent app (all_have_time_left s.tick)
    (concluded (cond b (call_fails s) (call_passes (with_stream s stream (with_stream_bytes (stream_at s stream) [])))) core task)) [
      | true ↦ IsConsistent-returned_alone app s core task 0 (instr.Stream stream Reset) calls refl
      | false ↦ returns_after app s core task stream 1 (with_stream_bytes (stream_at s stream) []) (instr.Stream stream Reset) calls refl there refl refl
    ]
IsConsistent-stream_call app s core task stream (SetTrigger trigger) calls there entries =
    let level = trigger_taken (operand_value s task trigger) in
    elim (nat_lt (stream_at s stream).capacity level) as (λ b. IsConsistent app (all_have_time_left s.tick)
    (concluded (cond b (call_fails s) (call_passes (with_stream s stream (with_trigger (stream_at s stream) level)))) core task)) [
      | true ↦ IsConsistent-returned_alone app s core task 0 (instr.Stream stream (SetTrigger trigger)) calls refl
      | false ↦ returns_after app s core task stream 1 (with_trigger (stream_at s stream) level) (instr.Stream stream (SetTrigger trigger)) calls refl there refl refl
    ]
IsConsistent-stream_call app s core task stream Count calls there entries =
    IsConsistent-returned_alone app s core task (length (stream_at s stream).bytes) (instr.Stream stream Count) calls refl
IsConsistent-stream_call app s core task stream Spaces calls there entries =
    IsConsistent-returned_alone app s core task (stream_space (stream_at s stream)) (instr.Stream stream Spaces) calls refl
