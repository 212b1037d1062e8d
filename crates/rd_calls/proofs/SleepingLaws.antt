-- Readers of buffers sleep on below the trigger level, and as long as no message comes.
use Rattle.rd_app.specs.declared.instr.LocalInstr.TheVariants as local
use Rattle.rd_app.specs.declared.instr.NotifyCall.TheVariants as notify
use Rattle.std.proofs.Common.{◌%◌, ◌&&◌, ◌+◌, ◌<◌, ◌∙◌, ◌≡◌, ◌≢◌, ◌≤◌, Bool, List, None, Option, Some, ap, arith, cond, false, length, refl, set, subst, sym}
use Rattle.std.proofs.Common.{true, ℕ}
use Rattle.std.specs.Prelude.{◌^◌, Err, Ok, nat_eq, nat_lt, not}
use Rattle.std.specs.Int.{to_le_bytes, w32}
use Rattle.std.specs.Option.{option_map_or}
use Rattle.std.proofs.lemmas.Bool.{false≢true}
use Rattle.std.proofs.lemmas.Bool.Decides.{nat_tests}
use Rattle.rd_app.specs.Application.{Application, priorities_of}
use Rattle.rd_app.specs.declared.instr.Instr.{Instr}
use Rattle.rd_app.specs.declared.instr.Instr.TheVariants.{Local, Notify, Queue, QueueSet}
use Rattle.rd_app.specs.declared.instr.Instr.TheVariants as instr
use Rattle.rd_app.specs.declared.instr.LocalInstr.{LocalInstr}
use Rattle.rd_app.specs.declared.instr.LocalInstr.TheVariants.{Add, Data, End, Jump, JumpZero, Move, Pack, Unpack}
use Rattle.rd_app.specs.declared.instr.NotifyCall.{NotifyCall}
use Rattle.rd_app.specs.declared.instr.NotifyCall.TheVariants.{ClearState, ClearValue, Query, Take}
use Rattle.rd_notify.specs.Entries.{entry_cleared, entry_idle, entry_taken, entry_waiting, has_received}
use Rattle.rd_stream.specs.declared.side.Side.TheVariants.{Reader}
use Rattle.rd_refusal.specs.declared.refusal.Refusal.TheVariants.{TickLimit}
use Rattle.rd_state.specs.Objects.{ObjectsSnapshot, message_in, stream_in}
use Rattle.rd_state.specs.Phases.{waits_at}
use Rattle.rd_state.specs.Snapshot.{Snapshot, TaskSnapshot, core_at, message_at, stream_at, task_at, with_task}
use Rattle.rd_state.specs.Valid.{IsValid}
use Rattle.rd_state.specs.Waiting.{held_side}
use Rattle.rd_state.specs.declared.phase.Held.{Held}
use Rattle.rd_state.specs.declared.phase.Held.TheVariants.{Message, Stream}
use Rattle.rd_state.specs.declared.phase.Phase.TheVariants.{Ended}
use Rattle.rd_state.specs.declared.phase.Place.TheVariants as sort
use Rattle.rd_kernel.specs.Outcomes.{Called, call_fails, call_gives, call_passes, call_returns, concluded}
use Rattle.rd_kernel.specs.Tasks.{advanced, entry_at, register_at, with_entry}
use Rattle.rd_kernel.specs.Telling.{waits_for_entry, waits_once}
use Rattle.rd_kernel.specs.Waking.{is_due, operand_value}
use Rattle.rd_kernel.proofs.Offered.{IsSleeper, IsSleeper-valid, Sleeps, Sleeps-concluded, Sleeps-notified, Sleeps-other, Sleeps-timed_out, Sleeps-with_entry}
use Rattle.rd_kernel.proofs.Offered.{concluded-objects, runner_is_another}
use Rattle.rd_queue_calls.specs.QueueCalls.{queue_outcome}
use Rattle.rd_queue_calls.specs.QueueSetCalls.{queue_set_outcome}
use Rattle.rd_queue_calls.proofs.Offered.{queue_call-sleeps, queue_set_call-sleeps}
use Rattle.rd_notify_calls.specs.NotifyCalls.{entry_closed, entry_opened, notify_call_outcome}
use Rattle.rd_stream_calls.specs.MessageCalls.{message_outcome}
use Rattle.rd_stream_calls.specs.StreamCalls.{stream_outcome}
use Rattle.rd_stream_calls.proofs.Offered.{HasNoMore, IsBelow, message_call-sleeps, stream_call-sleeps}
use Rattle.rd_group_calls.proofs.Offered.{group_call-sleeps}
use Rattle.rd_group_calls.specs.GroupCalls.{group_outcome}
use Rattle.rd_moves.specs.Moves.{PlainMove as AnyMove}
use Rattle.rd_moves.specs.declared.moves.Move.TheVariants.{Core, Tick}
use Rattle.rd_moves.specs.declared.moves.Move.TheVariants as any_move
use Rattle.rd_calls.proofs.CarriedLaws.{carried-sleeps, carried_out-is}
use Rattle.rd_calls.specs.Local.{local_step, unpacked}
use Rattle.rd_calls.specs.Received.{is_entry}
use Rattle.rd_calls.specs.Sleeping.{ReadersSleep, SleepsOn, call_notifies_first, is_disturbed, notifies_first}
use Rattle.rd_calls.specs.Step.{core_step, last_tick, next_instr, performed, step, step_of_core, tick_step}

-- ---- local instructions

-- A task that is another one goes on at its next instruction.
advanced_sleeps : (s : Snapshot) (task caller : ℕ) (x : TaskSnapshot) → task ≢ caller → Sleeps task s (advanced (with_task s caller x) caller)
advanced_sleeps s task caller x differs =
    let p = with_task s caller x in
    Sleeps-other p task caller (record (task_at p caller) { pc = (task_at p caller).pc + 1 }) differs ∙ Sleeps-other s task caller x differs

local_sleeps : (s : Snapshot) (core task caller : ℕ) (instr : LocalInstr) → task ≢ caller → Sleeps task s (local_step s core caller instr)
local_sleeps s core task caller (local.Set register value) differs =
    advanced_sleeps s task caller (record (task_at s caller) { registers = set (task_at s caller).registers register value }) differs
local_sleeps s core task caller (Add register value) differs =
    advanced_sleeps s task caller
    (record (task_at s caller) { registers = set (task_at s caller).registers register ((register_at s caller register + value) % 2 ^ 32) }) differs
local_sleeps s core task caller (Move into from) differs =
    advanced_sleeps s task caller (record (task_at s caller) { registers = set (task_at s caller).registers into (register_at s caller from) }) differs
local_sleeps s core task caller (Data bytes) differs = advanced_sleeps s task caller (record (task_at s caller) { bytes = bytes }) differs
local_sleeps s core task caller (Pack register) differs =
    advanced_sleeps s task caller (record (task_at s caller) { bytes = to_le_bytes w32 (register_at s caller register) }) differs
local_sleeps s core task caller (Unpack register) differs =
    advanced_sleeps s task caller (record (task_at s caller) { registers = set (task_at s caller).registers register (unpacked s caller) }) differs
local_sleeps s core task caller (Jump target) differs = Sleeps-other s task caller (record (task_at s caller) { pc = target }) differs
local_sleeps s core task caller (JumpZero register target) differs =
    Sleeps-other s task caller
    (record (task_at s caller) { pc = cond (nat_eq (register_at s caller register) 0) target ((task_at s caller).pc + 1) }) differs
local_sleeps s core task caller End differs = Sleeps-other s task caller (record (task_at s caller) { phase = Ended }) differs

-- ---- calls that notify

not_first : (to entry task : ℕ) → is_entry to entry task 0 ≡ false → task ≡ to → 0 ≡ entry → ⊥
not_first to entry task differs same first =
    let one : nat_eq to task ≡ true = grind (arith, nat_tests, same) in
    let two : nat_eq entry 0 ≡ true = grind (arith, nat_tests, first) in
    false≢true (sym differs ∙ ap (λ b. b && nat_eq entry 0) one ∙ two)

-- whichever of two it is
either_call : (s : Snapshot) (task : ℕ) (b : Bool) (one other : Called) → Sleeps task s one.state → Sleeps task s other.state
    → Sleeps task s (cond b one other).state
either_call s task true one other first second = first
either_call s task false one other first second = second

notify_call_sleeps : (priorities : List ℕ) (s : Snapshot) (task caller : ℕ) (own : Held) (call : NotifyCall) → IsSleeper s task own
    → call_notifies_first call task ≡ false → Sleeps task s (notify_call_outcome priorities s caller call).state
notify_call_sleeps priorities s task caller own (notify.Notify to i value action) sleeper other =
    Sleeps-notified priorities s task to i (operand_value s caller value) action own sleeper.waits (not_first to i task other)
notify_call_sleeps priorities s task caller own (Query to i value action) sleeper other =
    Sleeps-notified priorities s task to i (operand_value s caller value) action own sleeper.waits (not_first to i task other)
notify_call_sleeps priorities s task caller own (Take i exit wait) sleeper other =
    let entry = entry_at s caller i in
    either_call s task (nat_eq entry.value 0 && waits_once s caller wait) (waits_for_entry s caller i entry wait)
    (call_returns (with_entry s caller i (entry_taken exit entry)) entry.value) (Sleeps-with_entry s task caller i (entry_waiting entry))
    (Sleeps-with_entry s task caller i (entry_taken exit entry))
notify_call_sleeps priorities s task caller own (notify.Wait i entry_bits exit_bits wait) sleeper other =
    let entry = entry_opened s caller i (operand_value s caller entry_bits) in
    let bits = operand_value s caller exit_bits in
    either_call s task (not (has_received (entry_at s caller i).state) && waits_once s caller wait) (waits_for_entry s caller i entry wait)
    (entry_closed s caller i entry bits) (Sleeps-with_entry s task caller i (entry_waiting entry))
    (either_call s task (has_received entry.state) (call_gives (with_entry s caller i (entry_idle (entry_cleared bits entry))) 1 entry.value)
    (call_gives (with_entry s caller i (entry_idle entry)) 0 entry.value) (Sleeps-with_entry s task caller i (entry_idle (entry_cleared bits entry)))
    (Sleeps-with_entry s task caller i (entry_idle entry)))
notify_call_sleeps priorities s task caller own (ClearState of i) sleeper other =
    either_call s task (has_received (entry_at s of i).state) (call_passes (with_entry s of i (entry_idle (entry_at s of i)))) (call_fails s)
    (Sleeps-with_entry s task of i (entry_idle (entry_at s of i))) refl
notify_call_sleeps priorities s task caller own (ClearValue of i bits) sleeper other =
    Sleeps-with_entry s task of i (entry_cleared (operand_value s caller bits) (entry_at s of i))

-- ---- instructions

-- Nothing has come to the reader's buffer that wakes it.
record IsQuiet (s p : Snapshot) (own : Held) : Type 0 where
  below : IsBelow p own
  no_more : HasNoMore s p own

-- What becomes of a caller is none of what buffers hold.
quiet_before : (s : Snapshot) (called : Called) (core caller : ℕ) (own : Held) → IsQuiet s (concluded called core caller) own → IsQuiet s called.state own
quiet_before s called core caller own quiet =
    let same = concluded-objects called.state called.outcome core caller in
    record {
      below = λ stream is. subst (λ (o : ObjectsSnapshot). length (stream_in o stream).bytes < (stream_in o stream).trigger) same (quiet.below stream is);
      no_more = λ message is.
          subst (λ (o : ObjectsSnapshot). length (message_in o message).messages ≤ length (message_at s message).messages) same (quiet.no_more message is);
    }

instr_sleeps : (priorities : List ℕ) (s : Snapshot) (core task caller : ℕ) (own : Held) (i : Instr) → task ≢ caller → IsSleeper s task own
    → held_side own ≡ Reader → notifies_first i task ≡ false → IsQuiet s (performed priorities s core caller i) own
    → Sleeps task s (performed priorities s core caller i)
instr_sleeps priorities s core task caller own (Local instr) differs sleeper reads other quiet = local_sleeps s core task caller instr differs
instr_sleeps priorities s core task caller own (Queue queue call) differs sleeper reads other quiet =
    let called = queue_outcome priorities s caller queue call in
    Sleeps-concluded called.state called.outcome core task caller differs ∙ queue_call-sleeps priorities s task caller queue own call differs sleeper
instr_sleeps priorities s core task caller own (QueueSet number call) differs sleeper reads other quiet =
    let called = queue_set_outcome priorities s caller number call in
    Sleeps-concluded called.state called.outcome core task caller differs ∙ queue_set_call-sleeps priorities s task caller number call
instr_sleeps priorities s core task caller own (instr.Stream stream call) differs sleeper reads other quiet =
    let called = stream_outcome priorities s caller stream call in
    Sleeps-concluded called.state called.outcome core task caller differs
    ∙ stream_call-sleeps priorities s task caller stream own call differs sleeper reads (quiet_before s called core caller own quiet).below
instr_sleeps priorities s core task caller own (instr.Message message call) differs sleeper reads other quiet =
    let called = message_outcome priorities s caller message call in
    Sleeps-concluded called.state called.outcome core task caller differs
    ∙ message_call-sleeps priorities s task caller message own call differs sleeper reads (quiet_before s called core caller own quiet).no_more
instr_sleeps priorities s core task caller own (instr.Group group call) differs sleeper reads other quiet =
    let called = group_outcome priorities s caller group call in
    Sleeps-concluded called.state called.outcome core task caller differs ∙ group_call-sleeps priorities s task caller group own call sleeper
instr_sleeps priorities s core task caller own (Notify call) differs sleeper reads other quiet =
    let called = notify_call_outcome priorities s caller call in
    Sleeps-concluded called.state called.outcome core task caller differs ∙ notify_call_sleeps priorities s task caller own call sleeper other

-- ---- moves

core_sleeps : (app : Application) (s s' : Snapshot) (core task : ℕ) (own : Held) (o : Option ℕ) → IsValid app s → core_at s core ≡ o
    → step_of_core app s core o ≡ Ok s' → IsSleeper s task own → held_side own ≡ Reader → IsQuiet s s' own
    → option_map_or (λ running. notifies_first (next_instr app s running) task) o false ≡ false → Sleeps task s s'
core_sleeps app s s' core task own None valid on_core made sleeper reads quiet other = cc
core_sleeps app s s' core task own (Some caller) valid on_core made sleeper reads quiet other =
    let same : s' ≡ core_step app s core caller = cc in
    let differs = runner_is_another app s core caller task own valid on_core sleeper in
    let now : IsQuiet s (core_step app s core caller) own = subst (λ p. IsQuiet s p own) same quiet in
    subst (Sleeps task s) (sym same)
    (instr_sleeps (priorities_of app) s core task caller own (next_instr app s caller) differs sleeper reads other
    (record { below = now.below; no_more = now.no_more }))

tick_sleeps : (app : Application) (s s' : Snapshot) (task : ℕ) → step app s Tick ≡ Ok s' → task < length s.tasks
    → is_due (s.tick + 1) (task_at s task).phase ≡ false
    → Sleeps task s s'
tick_sleeps app s s' task made there early =
    elim (nat_lt s.tick last_tick) as (λ b. cond b (Ok (tick_step app s)) (Err TickLimit) ≡ Ok s' → Sleeps task s s') [
      | true ↦ λ made. let same : s' ≡ tick_step app s = cc in
          subst (Sleeps task s) (sym same) (Sleeps-timed_out (priorities_of app) (record s { tick = s.tick + 1 }) task there early)
      | false ↦ λ none. cc
    ] made

move_sleeps : (app : Application) (s s' : Snapshot) (move : AnyMove) (task : ℕ) (own : Held) → IsValid app s → step app s move ≡ Ok s' → task < length s.tasks
    → waits_at (task_at s task).phase ≡ Some (sort.Held own) → held_side own ≡ Reader → IsQuiet s s' own → is_disturbed app s move task ≡ false
    → SleepsOn s s' task
move_sleeps app s s' move task own valid made there waits reads quiet other =
    ap (λ (x : TaskSnapshot). record x { entries = (task_at s' task).entries }) (by_move move made other)
  where
    by_move : (move : AnyMove) → step app s move ≡ Ok s' → is_disturbed app s move task ≡ false → Sleeps task s s'
    by_move (Core core) made other = core_sleeps app s s' core task own (core_at s core) valid refl made
        (IsSleeper-valid app s task own valid there waits) reads quiet other
    by_move Tick made other = tick_sleeps app s s' task made there other
    by_move (any_move.Carried carried) made other =
        subst (Sleeps task s) (sym (carried_out-is app s s' carried made)) (carried-sleeps app s carried task own (IsSleeper-valid app s task own valid there waits) other)

same_stream : (stream other : ℕ) → Stream stream Reader ≡ Stream other Reader → stream ≡ other
same_stream stream other e = cc

same_message : (message other : ℕ) → Message message Reader ≡ Message other Reader → message ≡ other
same_message message other e = cc

pub readers_sleep : ReadersSleep
readers_sleep = record {
  of_streams = λ app s s' move task stream valid made there waits below other.
      move_sleeps app s s' move task (Stream stream Reader) valid made there waits refl
      (record {
        below = λ number is. subst (λ n. length (stream_at s' n).bytes < (stream_at s' n).trigger) (same_stream stream number is) below;
        no_more = λ message is. cc;
      }) other;
  of_messages = λ app s s' move task message valid made there waits no_more other.
      move_sleeps app s s' move task (Message message Reader) valid made there waits refl
      (record {
        below = λ stream is. cc;
        no_more = λ number is.
            subst (λ n. length (message_at s' n).messages ≤ length (message_at s n).messages) (same_message message number is) no_more;
      }) other;
}
