-- How the waits of readers and writers of buffers end.
use Rattle.std.proofs.Common.{◌∙◌, ◌≡◌, ◌<◌, ◌++◌, ◌+◌, ◌∷◌, Bool, List, None, Option, Some, [], ap, arith, cond, drop, false, get_or, inl, inr, length}
use Rattle.std.proofs.Common.{refl, set, subst, sym, take, true, ℕ}
use Rattle.std.proofs.lemmas.Bool.{cases_eq, cases_lt, false≢true}
use Rattle.std.proofs.lemmas.Bool.Decides.{nat_tests}
use Rattle.std.proofs.lemmas.List.{get_or-set_other, get_or-set_same, set_past}
use Rattle.std.specs.Prelude.{◌&&◌, ◌||◌, min, nat_eq, nat_lt, slice_index_or}
use Rattle.rd_app.specs.declared.instr.Operand.{Operand}
use Rattle.rd_notify.specs.Entries.{entry_idle, entry_notified, idle_entry}
use Rattle.rd_notify.specs.declared.action.Action.TheVariants.{LeaveValue}
use Rattle.rd_notify.specs.declared.entries.Entry.{Entry}
use Rattle.rd_notify.specs.declared.entries.EntryState.TheVariants.{Idle}
use Rattle.rd_stream.specs.Holders.{HoldersView, holder_of, with_holder_of}
use Rattle.rd_stream.specs.MessageSnapshot.{MessageSnapshot}
use Rattle.rd_stream.specs.Messages.{with_message_holders, with_messages}
use Rattle.rd_stream.specs.StreamSnapshot.{StreamSnapshot}
use Rattle.rd_stream.specs.Streams.{with_stream_bytes, with_stream_holders}
use Rattle.rd_stream.specs.declared.side.Side.{Side}
use Rattle.rd_stream.specs.declared.side.Side.TheVariants.{Reader, Writer}
use Rattle.rd_state.specs.declared.phase.Cause.TheVariants.{EmptyData}
use Rattle.rd_state.specs.declared.phase.Held.{Held}
use Rattle.rd_state.specs.declared.phase.Held.TheVariants.{Stream, Message}
use Rattle.rd_state.specs.Objects.{ObjectsSnapshot, message_in, no_message_buffer, no_stream, numbers_in, objects_with_message, objects_with_stream, stream_in}
use Rattle.rd_state.specs.Phases.{is_first, tries_again}
use Rattle.rd_state.specs.declared.phase.Phase.{Phase}
use Rattle.rd_state.specs.declared.phase.Phase.TheVariants.{Again, Ended, Failed, Given, Run, Wait}
use Rattle.rd_state.specs.Snapshot.{Snapshot, TaskSnapshot, message_at, stream_at, task_at, with_message, with_stream}
use Rattle.rd_state.specs.Waiting.{IsHeld, holder_at, holder_in, objects_naming, with_holder}
use Rattle.rd_kernel.specs.declared.outcome.Outcome.TheVariants.{Fails}
use Rattle.rd_kernel.specs.declared.waking.Waking.TheVariants.{TriesAgain}
use Rattle.rd_kernel.specs.Holding.{come_back, completed, completed_for, is_named, name_gone, waits_held, waits_where}
use Rattle.rd_kernel.specs.Outcomes.{Called, call_fails, call_returns}
use Rattle.rd_kernel.specs.Tasks.{entry_at, with_bytes, with_entry}
use Rattle.rd_kernel.specs.Telling.{if_waiting_for, waits_once}
use Rattle.rd_kernel.specs.Waking.{may_wait, woken_all}
use Rattle.rd_kernel.proofs.Offered.{AfterWaking-woken_all, EachStays-task, EntriesStay-task, EntriesStay-woken_all, entry_after, task_now}
use Rattle.rd_stream_calls.specs.BufferWaits.{LongMessagesStay, ReadersWaitForTheTrigger, TriesAgainAt, WaitIsOver, WaitsEnd, is_to_wait}
use Rattle.rd_stream_calls.specs.MessageCalls.{message_read_outcome, message_size, message_space, message_taken, message_write_outcome, message_written, next_length}
use Rattle.rd_stream_calls.specs.MessageCalls.{with_message_read, with_message_written, first_message}
use Rattle.rd_stream_calls.specs.StreamCalls.{bytes_read, bytes_written, lacks_space, stream_read_outcome, stream_space, stream_write_outcome}
use Rattle.rd_stream_calls.specs.StreamCalls.{with_bytes_read, with_bytes_written}

-- ---- whom places name

-- What holds of an element holds of it once one was set, if it holds of that where it is the one.
after_set : {X : Type 0} (P : X → Type 0) (xs : List X) (number other : ℕ) (now d : X) → (other ≡ number → P now) → P (get_or xs other d)
    → P (get_or (set xs number now) other d)
after_set P xs number other now d here was = elim (cases_eq other number) [
  | inl same ↦ elim (cases_lt number (length xs)) [
    | inl there ↦ subst P (sym (ap (λ n. get_or (set xs number now) n d) same ∙ get_or-set_same xs number now d there)) (here same)
    | inr past ↦ subst (λ ys. P (get_or ys other d)) (sym (set_past xs number now past)) was
  ]
  | inr differs ↦ subst P (sym (get_or-set_other xs number other now d differs)) was
]

-- Whoever isn't named by the holders of a buffer isn't, once a side names nobody.
unnamed_of : (gone side : Side) (holders : HoldersView) (task : ℕ) → is_named task (holder_of side holders) ≡ false
    → is_named task (holder_of side (with_holder_of gone None holders)) ≡ false
unnamed_of Reader Reader holders task was = refl
unnamed_of Reader Writer holders task was = was
unnamed_of Writer Reader holders task was = was
unnamed_of Writer Writer holders task was = refl

nobody_of : (side : Side) (holders : HoldersView) (task : ℕ) → is_named task (holder_of side (with_holder_of side None holders)) ≡ false
nobody_of Reader holders task = refl
nobody_of Writer holders task = refl

-- Whoever isn't named by a place isn't, once another names nobody.
unnamed_still : (o : ObjectsSnapshot) (gone held : Held) (task : ℕ) → is_named task (holder_in o held) ≡ false
    → is_named task (holder_in (objects_naming o gone None) held) ≡ false
unnamed_still o (Stream number side) (Stream other at_side) task was =
    let now = with_stream_holders (stream_in o number) (with_holder_of side None (stream_in o number).holders) in
    after_set (λ (b : StreamSnapshot). is_named task (holder_of at_side b.holders) ≡ false) o.streams number other now no_stream
    (λ same. unnamed_of side at_side (stream_in o number).holders task
    (subst (λ n. is_named task (holder_of at_side (stream_in o n).holders) ≡ false) same was)) was
unnamed_still o (Stream number side) (Message other at_side) task was = was
unnamed_still o (Message number side) (Stream other at_side) task was = was
unnamed_still o (Message number side) (Message other at_side) task was =
    let now = with_message_holders (message_in o number) (with_holder_of side None (message_in o number).holders) in
    after_set (λ (b : MessageSnapshot). is_named task (holder_of at_side b.holders) ≡ false) o.messages number other now no_message_buffer
    (λ same. unnamed_of side at_side (message_in o number).holders task
    (subst (λ n. is_named task (holder_of at_side (message_in o n).holders) ≡ false) same was)) was

-- Nobody is named by a place that names nobody.
unnamed_here : (o : ObjectsSnapshot) (held : Held) (task : ℕ) → IsHeld (numbers_in o) held → is_named task (holder_in (objects_naming o held None) held) ≡ false
unnamed_here o (Stream number side) task there =
    let now = with_stream_holders (stream_in o number) (with_holder_of side None (stream_in o number).holders) in
    ap (λ (b : StreamSnapshot). is_named task (holder_of side b.holders)) (get_or-set_same o.streams number now no_stream there)
    ∙ nobody_of side (stream_in o number).holders task
unnamed_here o (Message number side) task there =
    let now = with_message_holders (message_in o number) (with_holder_of side None (message_in o number).holders) in
    ap (λ (b : MessageSnapshot). is_named task (holder_of side b.holders)) (get_or-set_same o.messages number now no_message_buffer there)
    ∙ nobody_of side (message_in o number).holders task

-- Whom places name is none of what a buffer holds.
unnamed_by_stream : (o : ObjectsSnapshot) (number : ℕ) (now : StreamSnapshot) (held : Held) (task : ℕ) → now.holders ≡ (stream_in o number).holders
    → is_named task (holder_in o held) ≡ false → is_named task (holder_in (objects_with_stream o number now) held) ≡ false
unnamed_by_stream o number now (Stream other side) task same_holders was =
    after_set (λ (b : StreamSnapshot). is_named task (holder_of side b.holders) ≡ false) o.streams number other now no_stream
    (λ same. ap (λ (h : HoldersView). is_named task (holder_of side h)) same_holders
    ∙ subst (λ n. is_named task (holder_of side (stream_in o n).holders) ≡ false) same was) was
unnamed_by_stream o number now (Message other side) task same_holders was = was

unnamed_by_message : (o : ObjectsSnapshot) (number : ℕ) (now : MessageSnapshot) (held : Held) (task : ℕ) → now.holders ≡ (message_in o number).holders
    → is_named task (holder_in o held) ≡ false → is_named task (holder_in (objects_with_message o number now) held) ≡ false
unnamed_by_message o number now (Stream other side) task same_holders was = was
unnamed_by_message o number now (Message other side) task same_holders was =
    after_set (λ (b : MessageSnapshot). is_named task (holder_of side b.holders) ≡ false) o.messages number other now no_message_buffer
    (λ same. ap (λ (h : HoldersView). is_named task (holder_of side h)) same_holders
    ∙ subst (λ n. is_named task (holder_of side (message_in o n).holders) ≡ false) same was) was

-- ---- a wait that is over, step by step

-- It is over, and the other place doesn't name the task.
record IsRid (p : Snapshot) (task : ℕ) (held other : Held) : Type 0 where
  over : WaitIsOver p task held
  apart : is_named task (holder_at p other) ≡ false

begins : (s : Snapshot) (task : ℕ) (held other : Held) → TriesAgainAt s task held other → IsRid (come_back s task held) task held other
begins s task held other tries =
    subst (λ b. IsRid (cond b (with_entry (name_gone s held task) task 0 (entry_idle (entry_at s task 0))) s) task held other) (sym tries.again)
    (gone (is_named task (holder_at s held)) refl)
  where
    entry : Entry
    entry = entry_idle (entry_at s task 0)

    idle : (o : ObjectsSnapshot) → (entry_at (with_entry (record s { objects = o }) task 0 entry) task 0).state ≡ Idle
    idle o =
        let x = record (task_at s task) { entries = set (task_at s task).entries 0 entry } in
        ap (λ (t : TaskSnapshot). (get_or t.entries 0 idle_entry).state) (task_now s task x tries.entry.0)
        ∙ ap (λ (e : Entry). e.state) (get_or-set_same (task_at s task).entries 0 entry idle_entry tries.entry.1)

    gone : (b : Bool) → is_named task (holder_at s held) ≡ b
        → IsRid (with_entry (cond b (with_holder s held None) s) task 0 entry) task held other
    gone true e = record {
      over = record { idle = idle (objects_naming s.objects held None); unnamed = unnamed_here s.objects held task tries.there };
      apart = unnamed_still s.objects held other task tries.apart;
    }
    gone false e = record {
      over = record { idle = idle s.objects; unnamed = e };
      apart = tries.apart;
    }

-- What the task does to what a buffer holds leaves it so;
rid_of_stream : (p : Snapshot) (task : ℕ) (held other : Held) (number : ℕ) (now : StreamSnapshot) → now.holders ≡ (stream_at p number).holders
    → IsRid p task held other → IsRid (with_stream p number now) task held other
rid_of_stream p task held other number now same_holders rid = record {
  over = record { idle = rid.over.idle; unnamed = unnamed_by_stream p.objects number now held task same_holders rid.over.unnamed };
  apart = unnamed_by_stream p.objects number now other task same_holders rid.apart;
}

rid_of_message : (p : Snapshot) (task : ℕ) (held other : Held) (number : ℕ) (now : MessageSnapshot) → now.holders ≡ (message_at p number).holders
    → IsRid p task held other → IsRid (with_message p number now) task held other
rid_of_message p task held other number now same_holders rid = record {
  over = record { idle = rid.over.idle; unnamed = unnamed_by_message p.objects number now held task same_holders rid.over.unnamed };
  apart = unnamed_by_message p.objects number now other task same_holders rid.apart;
}

-- so does its data,
rid_of_bytes : (p : Snapshot) (task : ℕ) (held other : Held) (bytes : List ℕ) → IsRid p task held other → IsRid (with_bytes p task bytes) task held other
rid_of_bytes p task held other bytes rid = record {
  over = record {
    idle = ap (λ (entries : List Entry). (slice_index_or entries 0 idle_entry).state)
        (EntriesStay-task p task (record (task_at p task) { bytes = bytes }) refl task) ∙ rid.over.idle;
    unnamed = rid.over.unnamed;
  };
  apart = rid.apart;
}

-- and the completing of the other side's wait.
over_when_completed : (priorities : List ℕ) (p : Snapshot) (task : ℕ) (held other : Held) → IsRid p task held other
    → WaitIsOver (completed priorities p other) task held
over_when_completed priorities p task held other rid = by_name (holder_at p other) rid.apart
  where
    by_name : (o : Option ℕ) → is_named task o ≡ false → WaitIsOver (completed_for o priorities p other) task held
    by_name None e = rid.over
    by_name (Some t) e =
        let tasks = if_waiting_for p t 0 in
        let w = woken_all priorities TriesAgain p tasks in
        let after = AfterWaking-woken_all priorities TriesAgain p tasks in
        record {
          idle = entry_after w t 0 task 0 (entry_notified LeaveValue 0 (entry_at p t 0)) (λ (x : Entry). x.state ≡ Idle)
              (λ same first. absurd (differ t e same))
              (ap (λ (entries : List Entry). (slice_index_or entries 0 idle_entry).state) (EntriesStay-woken_all priorities TriesAgain p tasks task) ∙ rid.over.idle);
          unnamed = unnamed_still w.objects other held task (ap (is_named task) (after.holders held) ∙ rid.over.unnamed);
        }
      where
        differ : (n : ℕ) → nat_eq n task ≡ false → n ≡ task → ⊥
        differ n apart same = let self : nat_eq n task ≡ true = grind (arith, nat_tests, same) in false≢true (sym apart ∙ self)

-- A call that is to wait, and doesn't, leaves it so.
over_or_waits : (p : Snapshot) (task : ℕ) (held : Held) (wait : Operand) → WaitIsOver p task held → is_to_wait (waits_held p task held wait).outcome ≡ false
    → WaitIsOver (waits_held p task held wait).state task held
over_or_waits p task held wait over stays = by_name (holder_at p held) stays
  where
    by_name : (o : Option ℕ) → is_to_wait (waits_where o p task held wait).outcome ≡ false → WaitIsOver (waits_where o p task held wait).state task held
    by_name None waits = absurd (false≢true (sym waits))
    by_name (Some other) waits = over

-- Whoever tries again is at no first try, and so waits no more where a call waits once.
not_first : (phase : Phase) → tries_again phase ≡ true → is_first phase ≡ false
not_first Run e = absurd (false≢true e)
not_first (Again deadline) e = refl
not_first (Given bits) e = refl
not_first (Wait place deadline) e = refl
not_first Ended e = refl
not_first (Failed cause) e = refl

phase_stays : (s : Snapshot) (task : ℕ) (held : Held) → tries_again (task_at (come_back s task held) task).phase ≡ tries_again (task_at s task).phase
phase_stays s task held =
    elim (tries_again (task_at s task).phase) as (λ b. tries_again (task_at (cond b (with_entry (name_gone s held task) task 0 (entry_idle (entry_at s task 0))) s) task).phase
    ≡ tries_again (task_at s task).phase) [
      | true ↦ gone (is_named task (holder_at s held))
      | false ↦ refl
    ]
  where
    same : (q : Snapshot) → tries_again (task_at (with_entry q task 0 (entry_idle (entry_at s task 0))) task).phase ≡ tries_again (task_at q task).phase
    same q =
        let x = record (task_at q task) { entries = set (task_at q task).entries 0 (entry_idle (entry_at s task 0)) } in
        EachStays-task (λ (y : TaskSnapshot). tries_again y.phase) q task x refl task

    gone : (b : Bool) → tries_again (task_at (with_entry (cond b (with_holder s held None) s) task 0 (entry_idle (entry_at s task 0))) task).phase
        ≡ tries_again (task_at s task).phase
    gone true = same (with_holder s held None)
    gone false = same s

waits_no_more : (s : Snapshot) (task : ℕ) (held : Held) (wait : Operand) → tries_again (task_at s task).phase ≡ true
    → waits_once (come_back s task held) task wait ≡ false
waits_no_more s task held wait again =
    let p = come_back s task held in
    ap (λ b. b && may_wait p task wait) (not_first (task_at p task).phase (phase_stays s task held ∙ again))

never : (a b : Bool) → b ≡ false → (a && b) ≡ false
never true b e = e
never false b e = refl

-- ---- the calls that wait

stream_reads : (priorities : List ℕ) (s : Snapshot) (task stream room : ℕ) (wait : Operand) → TriesAgainAt s task (Stream stream Reader) (Stream stream Writer)
    → WaitIsOver (stream_read_outcome priorities s task stream room wait).state task (Stream stream Reader)
stream_reads priorities s task stream room wait tries =
    by_wait (nat_eq (length (stream_at p stream).bytes) 0 && waits_once p task wait)
    (never (nat_eq (length (stream_at p stream).bytes) 0) (waits_once p task wait) (waits_no_more s task (Stream stream Reader) wait tries.again))
  where
    p : Snapshot
    p = come_back s task (Stream stream Reader)

    rid : IsRid p task (Stream stream Reader) (Stream stream Writer)
    rid = begins s task (Stream stream Reader) (Stream stream Writer) tries

    by_count : (count : ℕ) (b : Bool) → WaitIsOver (cond b (call_returns p 0)
        (call_returns (completed priorities (with_bytes_read p task stream count) (Stream stream Writer)) count)).state task (Stream stream Reader)
    by_count count true = rid.over
    by_count count false =
        let bytes = take count (stream_at p stream).bytes in
        over_when_completed priorities (with_bytes_read p task stream count) task (Stream stream Reader) (Stream stream Writer)
        (rid_of_stream (with_bytes p task bytes) task (Stream stream Reader) (Stream stream Writer) stream
        (with_stream_bytes (stream_at p stream) (drop count (stream_at p stream).bytes)) refl
        (rid_of_bytes p task (Stream stream Reader) (Stream stream Writer) bytes rid))

    by_wait : (b : Bool) → b ≡ false → WaitIsOver (cond b (waits_held p task (Stream stream Reader) wait)
        (bytes_read priorities p task stream (min room (length (stream_at p stream).bytes)))).state task (Stream stream Reader)
    by_wait true waits = absurd (false≢true (sym waits))
    by_wait false waits = let count = min room (length (stream_at p stream).bytes) in by_count count (nat_eq count 0)

stream_writes : (priorities : List ℕ) (s : Snapshot) (task stream : ℕ) (wait : Operand) → TriesAgainAt s task (Stream stream Writer) (Stream stream Reader)
    → is_to_wait (stream_write_outcome priorities s task stream wait).outcome ≡ false
    → WaitIsOver (stream_write_outcome priorities s task stream wait).state task (Stream stream Writer)
stream_writes priorities s task stream wait tries returns =
    by_data (nat_eq (length (task_at p task).bytes) 0) (lacks_space p task stream && may_wait p task wait) returns
  where
    p : Snapshot
    p = come_back s task (Stream stream Writer)

    rid : IsRid p task (Stream stream Writer) (Stream stream Reader)
    rid = begins s task (Stream stream Writer) (Stream stream Reader) tries

    count : ℕ
    count = min (length (task_at p task).bytes) (stream_space (stream_at p stream))

    put : IsRid (with_bytes_written p task stream count) task (Stream stream Writer) (Stream stream Reader)
    put =
        rid_of_stream p task (Stream stream Writer) (Stream stream Reader) stream
        (with_stream_bytes (stream_at p stream) ((stream_at p stream).bytes ++ take count (task_at p task).bytes)) refl rid

    by_trigger : (none below : Bool) → WaitIsOver (cond none p (cond below (with_bytes_written p task stream count)
        (completed priorities (with_bytes_written p task stream count) (Stream stream Reader)))) task (Stream stream Writer)
    by_trigger true below = rid.over
    by_trigger false true = put.over
    by_trigger false false = over_when_completed priorities (with_bytes_written p task stream count) task (Stream stream Writer) (Stream stream Reader) put

    by_data : (none lacks : Bool) → is_to_wait (cond none (record { state = p; outcome = Fails EmptyData })
        (cond lacks (waits_held p task (Stream stream Writer) wait) (call_returns (bytes_written priorities p task stream count) count))).outcome ≡ false
        → WaitIsOver (cond none (record { state = p; outcome = Fails EmptyData })
        (cond lacks (waits_held p task (Stream stream Writer) wait) (call_returns (bytes_written priorities p task stream count) count))).state task (Stream stream Writer)
    by_data true lacks waits = rid.over
    by_data false true waits = over_or_waits p task (Stream stream Writer) wait rid.over waits
    by_data false false waits = by_trigger (nat_eq count 0) (nat_lt (length (stream_at p stream).bytes + count) (stream_at p stream).trigger)

message_reads : (priorities : List ℕ) (s : Snapshot) (task message room : ℕ) (wait : Operand) → TriesAgainAt s task (Message message Reader) (Message message Writer)
    → WaitIsOver (message_read_outcome priorities s task message room wait).state task (Message message Reader)
message_reads priorities s task message room wait tries =
    by_wait (nat_eq (length (message_at p message).messages) 0 && waits_once p task wait)
    (never (nat_eq (length (message_at p message).messages) 0) (waits_once p task wait) (waits_no_more s task (Message message Reader) wait tries.again))
  where
    p : Snapshot
    p = come_back s task (Message message Reader)

    rid : IsRid p task (Message message Reader) (Message message Writer)
    rid = begins s task (Message message Reader) (Message message Writer) tries

    by_room : (b : Bool) → WaitIsOver (cond b (call_fails p)
        (call_returns (completed priorities (with_message_read p task message) (Message message Writer)) (next_length (message_at p message)))).state task
        (Message message Reader)
    by_room true = rid.over
    by_room false =
        let bytes = first_message (message_at p message) in
        over_when_completed priorities (with_message_read p task message) task (Message message Reader) (Message message Writer)
        (rid_of_message (with_bytes p task bytes) task (Message message Reader) (Message message Writer) message
        (with_messages (message_at p message) (drop 1 (message_at p message).messages)) refl
        (rid_of_bytes p task (Message message Reader) (Message message Writer) bytes rid))

    by_wait : (b : Bool) → b ≡ false
        → WaitIsOver (cond b (waits_held p task (Message message Reader) wait) (message_taken priorities p task message room)).state task (Message message Reader)
    by_wait true waits = absurd (false≢true (sym waits))
    by_wait false waits = by_room (nat_eq (length (message_at p message).messages) 0 || nat_lt room (next_length (message_at p message)))

message_writes : (priorities : List ℕ) (s : Snapshot) (task message : ℕ) (wait : Operand) → TriesAgainAt s task (Message message Writer) (Message message Reader)
    → is_to_wait (message_write_outcome priorities s task message wait).outcome ≡ false
    → WaitIsOver (message_write_outcome priorities s task message wait).state task (Message message Writer)
message_writes priorities s task message wait tries returns =
    by_data (nat_eq (length (task_at p task).bytes) 0) (nat_lt (message_at p message).capacity (message_size p task)) returns
  where
    p : Snapshot
    p = come_back s task (Message message Writer)

    rid : IsRid p task (Message message Writer) (Message message Reader)
    rid = begins s task (Message message Writer) (Message message Reader) tries

    done : Called
    done = call_returns (completed priorities (with_message_written p task message) (Message message Reader)) (length (task_at p task).bytes)

    done_over : WaitIsOver done.state task (Message message Writer)
    done_over =
        over_when_completed priorities (with_message_written p task message) task (Message message Writer) (Message message Reader)
        (rid_of_message p task (Message message Writer) (Message message Reader) message
        (with_messages (message_at p message) ((message_at p message).messages ++ (task_at p task).bytes ∷ [])) refl rid)

    by_space : (lacks may : Bool) → is_to_wait (cond lacks (cond may (waits_held p task (Message message Writer) wait) (call_fails p)) done).outcome ≡ false
        → WaitIsOver (cond lacks (cond may (waits_held p task (Message message Writer) wait) (call_fails p)) done).state task (Message message Writer)
    by_space true true waits = over_or_waits p task (Message message Writer) wait rid.over waits
    by_space true false waits = rid.over
    by_space false may waits = done_over

    by_data : (none large : Bool) → is_to_wait (cond none (record { state = p; outcome = Fails EmptyData })
        (cond large (call_fails p) (message_written priorities p task message wait))).outcome ≡ false
        → WaitIsOver (cond none (record { state = p; outcome = Fails EmptyData })
        (cond large (call_fails p) (message_written priorities p task message wait))).state task (Message message Writer)
    by_data true large waits = rid.over
    by_data false true waits = rid.over
    by_data false false waits = by_space (nat_lt (message_space (message_at p message)) (message_size p task)) (may_wait p task wait) waits

pub waits_end : WaitsEnd
waits_end = record {
  beginnings = λ s task held other tries. (begins s task held other tries).over;
  stream_reads = stream_reads;
  stream_writes = stream_writes;
  message_reads = message_reads;
  message_writes = message_writes;
}

-- ---- trigger levels

pub readers_wait_for_the_trigger : ReadersWaitForTheTrigger
readers_wait_for_the_trigger = record {
  below = λ priorities s task stream count some less.
      let put = with_bytes_written s task stream count in
      let done = completed priorities put (Stream stream Reader) in
      let any : nat_eq count 0 ≡ false = grind (arith, nat_tests, some) in
      let short : nat_lt (length (stream_at s stream).bytes + count) (stream_at s stream).trigger ≡ true = grind (arith, nat_tests, less) in
      ap (λ b. cond b s (cond (nat_lt (length (stream_at s stream).bytes + count) (stream_at s stream).trigger) put done)) any ∙ ap (λ b. cond b put done) short;
  tasks = λ priorities s task stream count less.
      let put = with_bytes_written s task stream count in
      let done = completed priorities put (Stream stream Reader) in
      let short : nat_lt (length (stream_at s stream).bytes + count) (stream_at s stream).trigger ≡ true = grind (arith, nat_tests, less) in
      ap (λ b. (cond (nat_eq count 0) s (cond b put done)).tasks) short ∙ elim (nat_eq count 0) as (λ b. (cond b s put).tasks ≡ s.tasks) [
        | true ↦ refl
        | false ↦ refl
      ];
  reached = λ priorities s task stream count some there.
      let put = with_bytes_written s task stream count in
      let done = completed priorities put (Stream stream Reader) in
      let any : nat_eq count 0 ≡ false = grind (arith, nat_tests, some) in
      let enough : nat_lt (length (stream_at s stream).bytes + count) (stream_at s stream).trigger ≡ false = grind (arith, nat_tests, there) in
      ap (λ b. cond b s (cond (nat_lt (length (stream_at s stream).bytes + count) (stream_at s stream).trigger) put done)) any ∙ ap (λ b. cond b put done) enough;
}

-- ---- long messages

-- A call that begins leaves the messages.
messages_stay : (s : Snapshot) (task message : ℕ) → (message_at (come_back s task (Message message Reader)) message).messages ≡ (message_at s message).messages
messages_stay s task message =
    elim (tries_again (task_at s task).phase) as (λ b. (message_at (cond b (with_entry (name_gone s (Message message Reader) task) task 0
    (entry_idle (entry_at s task 0))) s) message).messages ≡ (message_at s message).messages) [
      | true ↦ gone (is_named task (holder_at s (Message message Reader)))
      | false ↦ refl
    ]
  where
    gone : (b : Bool) → (message_at (cond b (with_holder s (Message message Reader) None) s) message).messages ≡ (message_at s message).messages
    gone true =
        let now = with_message_holders (message_at s message) (with_holder_of Reader None (message_at s message).holders) in
        after_set (λ (b : MessageSnapshot). b.messages ≡ (message_at s message).messages) s.objects.messages message message now no_message_buffer (λ same. refl) refl
    gone false = refl

is_some_message : (messages : List (List ℕ)) (room : ℕ) → room < length (slice_index_or messages 0 []) → nat_eq (length messages) 0 ≡ false
is_some_message [] room long = absurd (omega (arith, long))
is_some_message (first ∷ others) room long = let some : 0 < length (first ∷ others) = omega (arith) in grind (arith, nat_tests, some)

pub long_messages_stay : LongMessagesStay
long_messages_stay priorities s task message room wait long =
    let p = come_back s task (Message message Reader) in
    let waits = waits_held p task (Message message Reader) wait in
    let done = call_returns (completed priorities (with_message_read p task message) (Message message Writer)) (next_length (message_at p message)) in
    let still : room < next_length (message_at p message) =
    subst (λ (messages : List (List ℕ)). room < length (slice_index_or messages 0 [])) (sym (messages_stay s task message)) long in
    let some = is_some_message (message_at p message).messages room still in
    let less : nat_lt room (next_length (message_at p message)) ≡ true = grind (arith, nat_tests, still) in
    ap (λ b. cond (b && waits_once p task wait) waits (message_taken priorities p task message room)) some
    ∙ ap (λ b. cond (b || nat_lt room (next_length (message_at p message))) (call_fails p) done) some ∙ ap (λ b. cond b (call_fails p) done) less
