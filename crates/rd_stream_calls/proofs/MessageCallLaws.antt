-- Calls of message buffers leave what makes a state valid, and what is none of theirs.
use Rattle.rd_app.specs.declared.instr.Instr.TheVariants as instr
use Rattle.std.proofs.Common.{◌∙◌, ◌≡◌, ◌<◌, ◌++◌, ◌∷◌, Bool, List, None, [], ap, arith, cond, drop, false, length, refl, true, ℕ}
use Rattle.std.proofs.lemmas.List.{length-set}
use Rattle.std.specs.Prelude.{◌&&◌, ◌||◌, is_some, nat_eq, nat_lt}
use Rattle.rd_app.specs.Application.{Application, priorities_of, side_of_message_call}
use Rattle.rd_app.specs.declared.instr.Instr.{Instr}
use Rattle.rd_app.specs.declared.instr.MessageCall.{MessageCall}
use Rattle.rd_app.specs.declared.instr.MessageCall.TheVariants.{Write, Read, Reset, Spaces, NextLength}
use Rattle.rd_app.specs.declared.instr.Operand.{Operand}
use Rattle.rd_stream.specs.Messages.{with_messages}
use Rattle.rd_stream.specs.declared.side.Side.{Side}
use Rattle.rd_stream.specs.declared.side.Side.TheVariants.{Reader, Writer}
use Rattle.rd_state.specs.declared.phase.Cause.TheVariants.{EmptyData}
use Rattle.rd_state.specs.declared.phase.Held.TheVariants.{Message}
use Rattle.rd_state.specs.Objects.{ObjectsSnapshot, objects_with_message}
use Rattle.rd_state.specs.Phases.{is_first}
use Rattle.rd_state.specs.Snapshot.{Snapshot, message_at, task_at, with_message}
use Rattle.rd_state.specs.Waiting.{HasHeld}
use Rattle.rd_kernel.specs.declared.outcome.Outcome.TheVariants.{Fails}
use Rattle.rd_kernel.specs.Holding.{come_back, completed, waits_held}
use Rattle.rd_kernel.specs.Outcomes.{call_fails, call_passes, call_returns, concluded}
use Rattle.rd_kernel.specs.Tasks.{with_bytes}
use Rattle.rd_kernel.specs.Telling.{waits_once}
use Rattle.rd_kernel.specs.Waking.{may_wait}
use Rattle.rd_kernel.proofs.Offered.{HasReceived, IsConsistent, IsConsistent-returned_alone, IsOn, IsOn-come_back, IsOn-completed, IsOn-contents, IsOn-fails}
use Rattle.rd_kernel.proofs.Offered.{IsOn-outside, IsOn-returns, IsOn-values, IsOn-waits_held, NamesTasks-sized, PcsStay, RunsInstr, all_have_time_left}
use Rattle.rd_kernel.proofs.Offered.{has_held_still}
use Rattle.rd_stream_calls.specs.MessageCalls.{first_message, message_outcome, message_read_outcome, message_size, message_space, message_taken, message_write_outcome}
use Rattle.rd_stream_calls.specs.MessageCalls.{message_written, next_length, with_message_read, with_message_written}
use Rattle.rd_stream_calls.specs.StreamCalls.{is_held}
use Rattle.rd_stream_calls.proofs.BufferLaws.{IsBesideBuffers, SameBeside, StaysByChanges, StaysByWaiting, beside_by_changes, beside_by_waiting, both_true, concluded-tick}
use Rattle.rd_stream_calls.proofs.BufferLaws.{message_contents, pcs_by_changes, pcs_by_waiting, received_by_changes, received_by_waiting, tick_by_changes, tick_by_waiting}

-- ---- what stays, whichever way a call goes

read_stays : (P : Snapshot → Type 0) (priorities : List ℕ) (s : Snapshot) (task message room : ℕ) (wait : Operand) → StaysByWaiting P task
    → StaysByChanges P priorities task → P s → P (message_read_outcome priorities s task message room wait).state
read_stays P priorities s task message room wait waiting changes at =
    by_wait (nat_eq (length (message_at p message).messages) 0 && waits_once p task wait)
    (nat_eq (length (message_at p message).messages) 0 || nat_lt room (next_length (message_at p message)))
  where
    p : Snapshot
    p = come_back s task (Message message Reader)

    at_p : P p
    at_p = waiting.come_back s (Message message Reader) at

    by_wait : (waits stays : Bool)
        → P (cond waits (waits_held p task (Message message Reader) wait)
        (cond stays (call_fails p) (call_returns (completed priorities (with_message_read p task message) (Message message Writer)) (next_length (message_at p message))))).state
    by_wait true stays = waiting.waits p (Message message Reader) wait at_p
    by_wait false true = at_p
    by_wait false false =
        changes.completed (with_message_read p task message) (Message message Writer)
        (changes.messages (with_bytes p task (first_message (message_at p message))) message
        (with_messages (message_at p message) (drop 1 (message_at p message).messages))
        (changes.bytes p (first_message (message_at p message)) at_p))

write_stays : (P : Snapshot → Type 0) (priorities : List ℕ) (s : Snapshot) (task message : ℕ) (wait : Operand) → StaysByWaiting P task
    → StaysByChanges P priorities task → P s → P (message_write_outcome priorities s task message wait).state
write_stays P priorities s task message wait waiting changes at =
    by_data (nat_eq (length (task_at p task).bytes) 0) (nat_lt (message_at p message).capacity (message_size p task))
    (nat_lt (message_space (message_at p message)) (message_size p task)) (may_wait p task wait)
  where
    p : Snapshot
    p = come_back s task (Message message Writer)

    at_p : P p
    at_p = waiting.come_back s (Message message Writer) at

    by_data : (none large lacks may : Bool)
        → P (cond none (record { state = p; outcome = Fails EmptyData })
        (cond large (call_fails p)
        (cond lacks (cond may (waits_held p task (Message message Writer) wait) (call_fails p))
        (call_returns (completed priorities (with_message_written p task message) (Message message Reader)) (length (task_at p task).bytes))))).state
    by_data true large lacks may = at_p
    by_data false true lacks may = at_p
    by_data false false true true = waiting.waits p (Message message Writer) wait at_p
    by_data false false true false = at_p
    by_data false false false may =
        changes.completed (with_message_written p task message) (Message message Reader)
        (changes.messages p message (with_messages (message_at p message) ((message_at p message).messages ++ (task_at p task).bytes ∷ [])) at_p)

-- Waiting is asked of calls that may wait alone.
call_stays : (P : Snapshot → Type 0) (priorities : List ℕ) (s : Snapshot) (task message : ℕ) (call : MessageCall)
    → (is_some (side_of_message_call call) ≡ true → StaysByWaiting P task) → StaysByChanges P priorities task → P s
    → P (message_outcome priorities s task message call).state
call_stays P priorities s task message (Write wait) waiting changes at = write_stays P priorities s task message wait (waiting refl) changes at
call_stays P priorities s task message (Read room wait) waiting changes at = read_stays P priorities s task message room wait (waiting refl) changes at
call_stays P priorities s task message Reset waiting changes at = by_held (is_held (message_at s message).holders)
  where
    by_held : (b : Bool) → P (cond b (call_fails s) (call_passes (with_message s message (with_messages (message_at s message) [])))).state
    by_held true = at
    by_held false = changes.messages s message (with_messages (message_at s message) []) at
call_stays P priorities s task message Spaces waiting changes at = at
call_stays P priorities s task message NextLength waiting changes at = at

pub message_call-pcs : (priorities : List ℕ) (s : Snapshot) (task message : ℕ) (call : MessageCall) → PcsStay s (message_outcome priorities s task message call).state
message_call-pcs priorities s task message call =
    call_stays (PcsStay s) priorities s task message call (λ may. pcs_by_waiting s task) (pcs_by_changes s priorities task) (λ t. refl)

pub message_call-tick : (priorities : List ℕ) (s : Snapshot) (core task message : ℕ) (call : MessageCall)
    → (concluded (message_outcome priorities s task message call) core task).tick ≡ s.tick
message_call-tick priorities s core task message call =
    let called = message_outcome priorities s task message call in
    concluded-tick called.state called.outcome core task
    ∙ call_stays (λ p. p.tick ≡ s.tick) priorities s task message call (λ may. tick_by_waiting s task) (tick_by_changes s priorities task) refl

pub message_call-beside : {A : Type 0} (f : ObjectsSnapshot → A) (priorities : List ℕ) (s : Snapshot) (task message : ℕ) (call : MessageCall)
    → IsBesideBuffers f priorities → f (message_outcome priorities s task message call).state.objects ≡ f s.objects
message_call-beside f priorities s task message call is =
    call_stays (SameBeside f s) priorities s task message call (λ may. beside_by_waiting f s priorities task is) (beside_by_changes f s priorities task is) refl

pub message_call-received : (priorities : List ℕ) (s : Snapshot) (task message target index : ℕ) (call : MessageCall)
    → (is_some (side_of_message_call call) ≡ true → task ≡ target → 0 ≡ index → ⊥) → HasReceived s target index
    → HasReceived (message_outcome priorities s task message call).state target index
message_call-received priorities s task message target index call other has =
    call_stays (λ p. HasReceived p target index) priorities s task message call (λ may. received_by_waiting task target index (other may))
    (received_by_changes priorities task target index) has

-- ---- what makes a state valid

-- The buffer is there after a call has begun.
still_there : (app : Application) (s p : Snapshot) (core task message : ℕ) (side : Side) (i : Instr) → RunsInstr app s core task i → IsOn app s p task
    → message < length s.objects.messages → HasHeld p (Message message side)
still_there app s p core task message side i calls on there =
    has_held_still app s.objects p.objects (Message message side) calls.valid.in_limits.objects on.consistent.shapes there

reads : (app : Application) (s : Snapshot) (core task message room : ℕ) (wait : Operand) → RunsInstr app s core task (instr.Message message (Read room wait))
    → message < length s.objects.messages → 0 < app.entries
    → IsConsistent app (all_have_time_left s.tick) (concluded (message_read_outcome (priorities_of app) s task message room wait) core task)
reads app s core task message room wait calls there entries =
    by_wait (nat_eq (length (message_at p message).messages) 0 && waits_once p task wait)
    (nat_eq (length (message_at p message).messages) 0 || nat_lt room (next_length (message_at p message))) refl
  where
    i : Instr
    i = instr.Message message (Read room wait)

    p : Snapshot
    p = come_back s task (Message message Reader)

    on : IsOn app s p task
    on = IsOn-come_back app s core task (Message message Reader) i calls refl there entries (NamesTasks-sized s calls.valid.in_limits.sized)

    here : message < length p.objects.messages
    here = still_there app s p core task message Reader i calls on there

    taken : IsOn app s (completed (priorities_of app) (with_message_read p task message) (Message message Writer)) task
    taken =
        let bytes = first_message (message_at p message) in
        let now = with_messages (message_at p message) (drop 1 (message_at p message).messages) in
        let q = with_bytes p task bytes in
        IsOn-completed app s (with_message_read p task message) core task (Message message Writer) i calls (omega (arith, here, length-set p.objects.messages message now))
        entries
        (IsOn-contents app s q task (objects_with_message q.objects message now) (message_contents q.objects message now here refl refl)
        (IsOn-values app s p task (task_at p task).registers bytes calls.there on))

    by_wait : (waits stays : Bool) → (nat_eq (length (message_at p message).messages) 0 && waits_once p task wait) ≡ waits
        → IsConsistent app (all_have_time_left s.tick)
        (concluded (cond waits (waits_held p task (Message message Reader) wait)
        (cond stays (call_fails p)
        (call_returns (completed (priorities_of app) (with_message_read p task message) (Message message Writer)) (next_length (message_at p message))))) core task)
    by_wait true stays e =
        let once = (both_true (nat_eq (length (message_at p message).messages) 0) (waits_once p task wait) e).1 in
        IsOn-waits_held app s p core task (Message message Reader) wait i calls refl here entries
        (both_true (is_first (task_at p task).phase) (may_wait p task wait) once).1 on
    by_wait false true e = IsOn-returns app s p core task 0 i calls on
    by_wait false false e =
        IsOn-returns app s (completed (priorities_of app) (with_message_read p task message) (Message message Writer)) core task (next_length (message_at p message)) i calls taken

writes : (app : Application) (s : Snapshot) (core task message : ℕ) (wait : Operand) → RunsInstr app s core task (instr.Message message (Write wait))
    → message < length s.objects.messages → 0 < app.entries
    → IsConsistent app (all_have_time_left s.tick) (concluded (message_write_outcome (priorities_of app) s task message wait) core task)
writes app s core task message wait calls there entries =
    by_data (nat_eq (length (task_at p task).bytes) 0) (nat_lt (message_at p message).capacity (message_size p task))
    (nat_lt (message_space (message_at p message)) (message_size p task)) (may_wait p task wait) refl
  where
    i : Instr
    i = instr.Message message (Write wait)

    p : Snapshot
    p = come_back s task (Message message Writer)

    on : IsOn app s p task
    on = IsOn-come_back app s core task (Message message Writer) i calls refl there entries (NamesTasks-sized s calls.valid.in_limits.sized)

    here : message < length p.objects.messages
    here = still_there app s p core task message Writer i calls on there

    put : IsOn app s (completed (priorities_of app) (with_message_written p task message) (Message message Reader)) task
    put =
        let now = with_messages (message_at p message) ((message_at p message).messages ++ (task_at p task).bytes ∷ []) in
        IsOn-completed app s (with_message_written p task message) core task (Message message Reader) i calls (omega (arith, here, length-set p.objects.messages message now))
        entries (IsOn-contents app s p task (objects_with_message p.objects message now) (message_contents p.objects message now here refl refl) on)

    by_data : (none large lacks may : Bool) → may_wait p task wait ≡ may
        → IsConsistent app (all_have_time_left s.tick)
        (concluded (cond none (record { state = p; outcome = Fails EmptyData })
        (cond large (call_fails p)
        (cond lacks (cond may (waits_held p task (Message message Writer) wait) (call_fails p))
        (call_returns (completed (priorities_of app) (with_message_written p task message) (Message message Reader)) (length (task_at p task).bytes))))) core task)
    by_data true large lacks may e = IsOn-fails app s p core task EmptyData i calls on
    by_data false true lacks may e = IsOn-returns app s p core task 0 i calls on
    by_data false false true true e = IsOn-waits_held app s p core task (Message message Writer) wait i calls refl here entries e on
    by_data false false true false e = IsOn-returns app s p core task 0 i calls on
    by_data false false false may e =
        IsOn-returns app s (completed (priorities_of app) (with_message_written p task message) (Message message Reader)) core task (length (task_at p task).bytes) i calls put

pub IsConsistent-message_call : (app : Application) (s : Snapshot) (core task message : ℕ) (call : MessageCall) → RunsInstr app s core task (instr.Message message call)
    → message < length s.objects.messages → 0 < app.entries
    → IsConsistent app (all_have_time_left s.tick) (concluded (message_outcome (priorities_of app) s task message call) core task)
IsConsistent-message_call app s core task message (Write wait) calls there entries = writes app s core task message wait calls there entries
IsConsistent-message_call app s core task message (Read room wait) calls there entries = reads app s core task message room wait calls there entries
IsConsistent-message_call app s core task message Reset calls there entries =
    let empty = with_messages (message_at s message) [] in
    elim (is_held (message_at s message).holders) as (λ b. IsConsistent app (all_have_time_left s.tick)
    (concluded (cond b (call_fails s) (call_passes (with_message s message empty))) core task)) [
      | true ↦ IsConsistent-returned_alone app s core task 0 (instr.Message message Reset) calls refl
      | false ↦
          IsOn-returns app s (with_message s message empty) core task 1 (instr.Message message Reset) calls
          (IsOn-contents app s s task (objects_with_message s.objects message empty) (message_contents s.objects message empty there refl refl)
          (IsOn-outside app s core task (instr.Message message Reset) calls refl (NamesTasks-sized s calls.valid.in_limits.sized)))
    ]
IsConsistent-message_call app s core task message Spaces calls there entries =
    IsConsistent-returned_alone app s core task (message_space (message_at s message)) (instr.Message message Spaces) calls refl
IsConsistent-message_call app s core task message NextLength calls there entries =
    IsConsistent-returned_alone app s core task (next_length (message_at s message)) (instr.Message message NextLength) calls refl
