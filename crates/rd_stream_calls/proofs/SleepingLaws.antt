-- Calls of buffers leave asleep who waits as a reader, but for a write to its own buffer.
use Rattle.std.proofs.Common.{◌&&◌, ◌+◌, ◌++◌, ◌<◌, ◌∙◌, ◌∷◌, ◌≡◌, ◌≢◌, ◌≤◌, Bool, List, Some, [], ap, arith, cond, drop, false, length}
use Rattle.std.proofs.Common.{refl}
use Rattle.std.proofs.Common.{sym, take, true, ℕ}
use Rattle.std.specs.Prelude.{◌||◌, min, nat_eq, nat_lt}
use Rattle.std.proofs.lemmas.Bool.Decides.{nat_tests}
use Rattle.std.proofs.lemmas.List.{get_or-set_same, length-append, length-take}
use Rattle.rd_app.specs.declared.instr.MessageCall.{MessageCall}
use Rattle.rd_app.specs.declared.instr.MessageCall.TheVariants as of_messages
use Rattle.rd_app.specs.declared.instr.Operand.{Operand}
use Rattle.rd_app.specs.declared.instr.StreamCall.{StreamCall}
use Rattle.rd_app.specs.declared.instr.StreamCall.TheVariants as of_streams
use Rattle.rd_stream.specs.Holders.{holder_of}
use Rattle.rd_stream.specs.MessageSnapshot.{MessageSnapshot}
use Rattle.rd_stream.specs.Messages.{with_messages}
use Rattle.rd_stream.specs.StreamSnapshot.{StreamSnapshot}
use Rattle.rd_stream.specs.Streams.{with_stream_bytes, with_trigger}
use Rattle.rd_stream.specs.declared.side.Side.TheVariants.{Reader, Writer}
use Rattle.rd_state.specs.Objects.{no_message_buffer, no_stream, trigger_taken}
use Rattle.rd_state.specs.Snapshot.{Snapshot, message_at, stream_at, task_at, with_message, with_stream}
use Rattle.rd_state.specs.Waiting.{held_side, holder_at}
use Rattle.rd_state.specs.declared.phase.Cause.TheVariants.{EmptyData}
use Rattle.rd_state.specs.declared.phase.Held.{Held}
use Rattle.rd_state.specs.declared.phase.Held.TheVariants.{Stream, Message}
use Rattle.rd_kernel.specs.Holding.{come_back, completed, waits_held}
use Rattle.rd_kernel.specs.Outcomes.{Called, call_fails, call_passes, call_returns}
use Rattle.rd_kernel.specs.Tasks.{with_bytes}
use Rattle.rd_kernel.specs.Telling.{waits_once}
use Rattle.rd_kernel.specs.Waking.{may_wait, operand_value}
use Rattle.rd_kernel.specs.declared.outcome.Outcome.TheVariants.{Fails}
use Rattle.rd_kernel.proofs.Offered.{IsBeside-message, IsBeside-stream, IsSleeper, Sleeps, Sleeps-come_back, Sleeps-completed, Sleeps-other, Sleeps-waits_held}
use Rattle.rd_kernel.proofs.Offered.{come_back-beside, completed-beside, holder_there, named_before_call, read_anyway}
use Rattle.rd_stream_calls.specs.MessageCalls.{first_message, message_outcome, message_size, message_space}
use Rattle.rd_stream_calls.specs.MessageCalls.{next_length, with_message_read, with_message_written}
use Rattle.rd_stream_calls.specs.StreamCalls.{bytes_read, bytes_written, is_held, lacks_space, stream_outcome, stream_space}
use Rattle.rd_stream_calls.specs.StreamCalls.{with_bytes_read, with_bytes_written}

-- ---- whom a buffer names, whatever it holds

names_anyway : (s : Snapshot) (stream : ℕ) (now : StreamSnapshot) (held : Held) → now.holders ≡ (stream_at s stream).holders
    → holder_at (with_stream s stream now) held ≡ holder_at s held
names_anyway s stream now (Stream other side) same_holders =
    read_anyway (λ (b : StreamSnapshot). holder_of side b.holders) s.objects.streams stream other now no_stream (ap (holder_of side) same_holders)
names_anyway s stream now (Message message side) same_holders = refl

message_names_anyway : (s : Snapshot) (message : ℕ) (now : MessageSnapshot) (held : Held) → now.holders ≡ (message_at s message).holders
    → holder_at (with_message s message now) held ≡ holder_at s held
message_names_anyway s message now (Stream stream side) same_holders = refl
message_names_anyway s message now (Message other side) same_holders =
    read_anyway (λ (b : MessageSnapshot). holder_of side b.holders) s.objects.messages message other now no_message_buffer (ap (holder_of side) same_holders)

-- A reader doesn't wait at a writer's place.
no_writer : (own held : Held) → held_side own ≡ Reader → held_side held ≡ Writer → own ≡ held → ⊥
no_writer own held reads writes same = let e : Reader ≡ Writer = sym reads ∙ ap held_side same ∙ writes in cc

-- ---- stream buffers

-- Fewer bytes than the trigger level are in the reader's buffer, if that is a stream buffer.
abbrev pub IsBelow : Snapshot → Held → Type 0
IsBelow p own = (stream : ℕ) → own ≡ Stream stream Reader → length (stream_at p stream).bytes < (stream_at p stream).trigger

stream_read-sleeps : (priorities : List ℕ) (s : Snapshot) (task caller stream room : ℕ) (wait : Operand) (own : Held) → task ≢ caller → IsSleeper s task own
    → held_side own ≡ Reader → Sleeps task s (stream_outcome priorities s caller stream (of_streams.Read room wait)).state
stream_read-sleeps priorities s task caller stream room wait own differs sleeper reads =
    by_wait (nat_eq (length (stream_at p stream).bytes) 0 && waits_once p caller wait) ∙ Sleeps-come_back s task caller (Stream stream Reader)
  where
    p : Snapshot
    p = come_back s caller (Stream stream Reader)

    unnamed : (count : ℕ) → holder_at (with_bytes_read p caller stream count) (Stream stream Writer) ≡ Some task → ⊥
    unnamed count is =
        let q = with_bytes p caller (take count (stream_at p stream).bytes) in
        let now = with_stream_bytes (stream_at p stream) (drop count (stream_at p stream).bytes) in
        let before : holder_at p (Stream stream Writer) ≡ Some task = sym (names_anyway q stream now (Stream stream Writer) refl) ∙ is in
        no_writer own (Stream stream Writer) reads refl
        (sleeper.named (Stream stream Writer) (named_before_call s caller (Stream stream Reader) (Stream stream Writer) task before))

    by_count : (count : ℕ) (b : Bool)
        → Sleeps task p (cond b (call_returns p 0) (call_returns (completed priorities (with_bytes_read p caller stream count)
        (Stream stream Writer)) count)).state
    by_count count true = refl
    by_count count false =
        Sleeps-completed priorities (with_bytes_read p caller stream count) task (Stream stream Writer) (unnamed count)
        ∙ Sleeps-other p task caller (record (task_at p caller) { bytes = take count (stream_at p stream).bytes }) differs

    by_wait : (b : Bool) → Sleeps task p
        (cond b (waits_held p caller (Stream stream Reader) wait) (bytes_read priorities p caller stream (min room (length (stream_at p stream).bytes)))).state
    by_wait true = Sleeps-waits_held p task caller (Stream stream Reader) wait
    by_wait false = let count = min room (length (stream_at p stream).bytes) in by_count count (nat_eq count 0)

stream_write-sleeps : (priorities : List ℕ) (s : Snapshot) (task caller stream : ℕ) (wait : Operand) (own : Held) → IsSleeper s task own
    → IsBelow (stream_outcome priorities s caller stream (of_streams.Write wait)).state own
    → Sleeps task s (stream_outcome priorities s caller stream (of_streams.Write wait)).state
stream_write-sleeps priorities s task caller stream wait own sleeper below =
    by_data (nat_eq (length (task_at p caller).bytes) 0) (lacks_space p caller stream && may_wait p caller wait) below
    ∙ Sleeps-come_back s task caller (Stream stream Writer)
  where
    p : Snapshot
    p = come_back s caller (Stream stream Writer)

    count : ℕ
    count = min (length (task_at p caller).bytes) (stream_space (stream_at p stream))

    q : Snapshot
    q = with_bytes_written p caller stream count

    now : StreamSnapshot
    now = with_stream_bytes (stream_at p stream) ((stream_at p stream).bytes ++ take count (task_at p caller).bytes)

    held : Held
    held = Stream stream Reader

    -- The reader would be this buffer's, which has the trigger level then.
    unnamed : nat_lt (length (stream_at p stream).bytes + count) (stream_at p stream).trigger ≡ false → IsBelow (completed priorities q held) own
        → holder_at q held ≡ Some task → ⊥
    unnamed reached few is =
        let before : holder_at p held ≡ Some task = sym (names_anyway p stream now held refl) ∙ is in
        let here : own ≡ held = sleeper.named held (named_before_call s caller (Stream stream Writer) held task before) in
        let there : stream < length p.objects.streams = holder_there p.objects held task before in
        let is_now : stream_at q stream ≡ now = get_or-set_same p.objects.streams stream now no_stream there in
        let bytes : (stream_at (completed priorities q held) stream).bytes ≡ (stream_at q stream).bytes =
        completed-beside (λ o. (stream_at (record q { objects = o }) stream).bytes) priorities q held
        (IsBeside-stream (λ (b : StreamSnapshot). b.bytes) priorities stream (λ b holders. refl)) in
        let level : (stream_at (completed priorities q held) stream).trigger ≡ (stream_at q stream).trigger =
        completed-beside (λ o. (stream_at (record q { objects = o }) stream).trigger) priorities q held
        (IsBeside-stream (λ (b : StreamSnapshot). b.trigger) priorities stream (λ b holders. refl)) in
        let sum : length now.bytes ≡ length (stream_at p stream).bytes + length (take count (task_at p caller).bytes) =
        length-append (stream_at p stream).bytes (take count (task_at p caller).bytes) in
        let enough : (stream_at p stream).trigger ≤ length (stream_at p stream).bytes + count = grind (arith, nat_tests, reached) in
        omega (
          arith,
          few stream here,
          ap length bytes,
          level,
          ap (λ (b : StreamSnapshot). length b.bytes) is_now,
          ap (λ (b : StreamSnapshot). b.trigger) is_now,
          sum,
          length-take count (task_at p caller).bytes,
          enough,
        )

    by_trigger : (none less : Bool) → nat_lt (length (stream_at p stream).bytes + count) (stream_at p stream).trigger ≡ less
        → IsBelow (cond none p (cond less q (completed priorities q held))) own → Sleeps task p (cond none p (cond less q (completed priorities q held)))
    by_trigger true less is few = refl
    by_trigger false true is few = refl
    by_trigger false false is few = Sleeps-completed priorities q task held (unnamed is few)

    by_data : (none lacks : Bool)
        → IsBelow (cond none (record { state = p; outcome = Fails EmptyData })
        (cond lacks (waits_held p caller (Stream stream Writer) wait) (call_returns (bytes_written priorities p caller stream count) count))).state own
        → Sleeps task p (cond none (record { state = p; outcome = Fails EmptyData })
        (cond lacks (waits_held p caller (Stream stream Writer) wait) (call_returns (bytes_written priorities p caller stream count) count))).state
    by_data true lacks few = refl
    by_data false true few = Sleeps-waits_held p task caller (Stream stream Writer) wait
    by_data false false few = by_trigger (nat_eq count 0) (nat_lt (length (stream_at p stream).bytes + count) (stream_at p stream).trigger) refl few

-- Whichever of two it is, where neither changes a task.
either_asleep : (s : Snapshot) (task : ℕ) (b : Bool) (one other : Called) → Sleeps task s one.state → Sleeps task s other.state
    → Sleeps task s (cond b one other).state
either_asleep s task true one other first second = first
either_asleep s task false one other first second = second

pub stream_call-sleeps : (priorities : List ℕ) (s : Snapshot) (task caller stream : ℕ) (own : Held) (call : StreamCall) → task ≢ caller → IsSleeper s task own
    → held_side own ≡ Reader → IsBelow (stream_outcome priorities s caller stream call).state own
    → Sleeps task s (stream_outcome priorities s caller stream call).state
stream_call-sleeps priorities s task caller stream own (of_streams.Write wait) differs sleeper reads below =
    stream_write-sleeps priorities s task caller stream wait own sleeper below
stream_call-sleeps priorities s task caller stream own (of_streams.Read room wait) differs sleeper reads below =
    stream_read-sleeps priorities s task caller stream room wait own differs sleeper reads
stream_call-sleeps priorities s task caller stream own of_streams.Reset differs sleeper reads below =
    either_asleep s task (is_held (stream_at s stream).holders) (call_fails s) (call_passes (with_stream s stream (with_stream_bytes
    (stream_at s stream) []))) refl refl
stream_call-sleeps priorities s task caller stream own (of_streams.SetTrigger trigger) differs sleeper reads below =
    let level = trigger_taken (operand_value s caller trigger) in
    either_asleep s task (nat_lt (stream_at s stream).capacity level) (call_fails s) (call_passes (with_stream s stream (with_trigger
    (stream_at s stream) level))) refl refl
stream_call-sleeps priorities s task caller stream own of_streams.Count differs sleeper reads below = refl
stream_call-sleeps priorities s task caller stream own of_streams.Spaces differs sleeper reads below = refl

-- ---- message buffers

-- No message was added to the reader's buffer, if that is a message buffer.
abbrev pub HasNoMore : Snapshot → Snapshot → Held → Type 0
HasNoMore s p own = (message : ℕ) → own ≡ Message message Reader → length (message_at p message).messages ≤ length (message_at s message).messages

message_read-sleeps : (priorities : List ℕ) (s : Snapshot) (task caller message room : ℕ) (wait : Operand) (own : Held) → task ≢ caller → IsSleeper s task own
    → held_side own ≡ Reader → Sleeps task s (message_outcome priorities s caller message (of_messages.Read room wait)).state
message_read-sleeps priorities s task caller message room wait own differs sleeper reads =
    by_wait (nat_eq (length (message_at p message).messages) 0 && waits_once p caller wait)
    (nat_eq (length (message_at p message).messages) 0 || nat_lt room (next_length (message_at p message)))
    ∙ Sleeps-come_back s task caller (Message message Reader)
  where
    p : Snapshot
    p = come_back s caller (Message message Reader)

    q : Snapshot
    q = with_message_read p caller message

    unnamed : holder_at q (Message message Writer) ≡ Some task → ⊥
    unnamed is =
        let now = with_messages (message_at p message) (drop 1 (message_at p message).messages) in
        let before : holder_at p (Message message Writer) ≡ Some task =
        sym (message_names_anyway (with_bytes p caller (first_message (message_at p message))) message now (Message message Writer) refl) ∙ is in
        no_writer own (Message message Writer) reads refl
        (sleeper.named (Message message Writer) (named_before_call s caller (Message message Reader) (Message message Writer) task before))

    by_wait : (waits stays : Bool) → Sleeps task p
        (cond waits (waits_held p caller (Message message Reader) wait)
        (cond stays (call_fails p) (call_returns (completed priorities q (Message message Writer)) (next_length (message_at p message))))).state
    by_wait true stays = Sleeps-waits_held p task caller (Message message Reader) wait
    by_wait false true = refl
    by_wait false false =
        Sleeps-completed priorities q task (Message message Writer) unnamed
        ∙ Sleeps-other p task caller (record (task_at p caller) { bytes = first_message (message_at p message) }) differs

message_write-sleeps : (priorities : List ℕ) (s : Snapshot) (task caller message : ℕ) (wait : Operand) (own : Held) → IsSleeper s task own
    → HasNoMore s (message_outcome priorities s caller message (of_messages.Write wait)).state own
    → Sleeps task s (message_outcome priorities s caller message (of_messages.Write wait)).state
message_write-sleeps priorities s task caller message wait own sleeper no_more =
    by_data (nat_eq (length (task_at p caller).bytes) 0) (nat_lt (message_at p message).capacity (message_size p caller))
    (nat_lt (message_space (message_at p message)) (message_size p caller)) (may_wait p caller wait) no_more
    ∙ Sleeps-come_back s task caller (Message message Writer)
  where
    p : Snapshot
    p = come_back s caller (Message message Writer)

    q : Snapshot
    q = with_message_written p caller message

    now : MessageSnapshot
    now = with_messages (message_at p message) ((message_at p message).messages ++ (task_at p caller).bytes ∷ [])

    held : Held
    held = Message message Reader

    -- The reader would be this buffer's, which has one message more then.
    unnamed : HasNoMore s (completed priorities q held) own → holder_at q held ≡ Some task → ⊥
    unnamed few is =
        let before : holder_at p held ≡ Some task = sym (message_names_anyway p message now held refl) ∙ is in
        let here : own ≡ held = sleeper.named held (named_before_call s caller (Message message Writer) held task before) in
        let there : message < length p.objects.messages = holder_there p.objects held task before in
        let is_now : message_at q message ≡ now = get_or-set_same p.objects.messages message now no_message_buffer there in
        let after : (message_at (completed priorities q held) message).messages ≡ (message_at q message).messages =
        completed-beside (λ o. (message_at (record q { objects = o }) message).messages) priorities q held
        (IsBeside-message (λ (b : MessageSnapshot). b.messages) priorities message (λ b holders. refl)) in
        let first : (message_at p message).messages ≡ (message_at s message).messages =
        come_back-beside (λ o. (message_at (record s { objects = o }) message).messages) priorities s caller (Message message Writer)
        (IsBeside-message (λ (b : MessageSnapshot). b.messages) priorities message (λ b holders. refl)) in
        let sum : length now.messages ≡ length (message_at p message).messages + 1 = length-append (message_at p message).messages
        ((task_at p caller).bytes ∷ []) in
        omega (arith, few message here, ap length after, ap length first, ap (λ (b : MessageSnapshot). length b.messages) is_now, sum)

    by_data : (none large lacks waits : Bool)
        → HasNoMore s (cond none (record { state = p; outcome = Fails EmptyData })
        (cond large (call_fails p)
        (cond lacks (cond waits (waits_held p caller (Message message Writer) wait) (call_fails p))
        (call_returns (completed priorities q held) (length (task_at p caller).bytes))))).state own
        → Sleeps task p (cond none (record { state = p; outcome = Fails EmptyData })
        (cond large (call_fails p)
        (cond lacks (cond waits (waits_held p caller (Message message Writer) wait) (call_fails p))
        (call_returns (completed priorities q held) (length (task_at p caller).bytes))))).state
    by_data true large lacks waits few = refl
    by_data false true lacks waits few = refl
    by_data false false true true few = Sleeps-waits_held p task caller (Message message Writer) wait
    by_data false false true false few = refl
    by_data false false false waits few = Sleeps-completed priorities q task held (unnamed few)

pub message_call-sleeps : (priorities : List ℕ) (s : Snapshot) (task caller message : ℕ) (own : Held) (call : MessageCall) → task ≢ caller
    → IsSleeper s task own
    → held_side own ≡ Reader → HasNoMore s (message_outcome priorities s caller message call).state own
    → Sleeps task s (message_outcome priorities s caller message call).state
message_call-sleeps priorities s task caller message own (of_messages.Write wait) differs sleeper reads no_more =
    message_write-sleeps priorities s task caller message wait own sleeper no_more
message_call-sleeps priorities s task caller message own (of_messages.Read room wait) differs sleeper reads no_more =
    message_read-sleeps priorities s task caller message room wait own differs sleeper reads
message_call-sleeps priorities s task caller message own of_messages.Reset differs sleeper reads no_more =
    either_asleep s task (is_held (message_at s message).holders) (call_fails s) (call_passes (with_message s message (with_messages
    (message_at s message) []))) refl refl
message_call-sleeps priorities s task caller message own of_messages.Spaces differs sleeper reads no_more = refl
message_call-sleeps priorities s task caller message own of_messages.NextLength differs sleeper reads no_more = refl
