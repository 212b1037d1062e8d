-- What has come to an entry stays until somebody looks.
use Rattle.rd_app.specs.declared.instr.LocalInstr.TheVariants as local
use Rattle.rd_app.specs.declared.instr.NotifyCall.TheVariants as notify
use Rattle.std.proofs.Common.{◌%◌, ◌&&◌, ◌+◌, ◌∙◌, ◌≡◌, Bool, List, None, Option, Some, ap, arith, cond, false, get_or, length, refl, set, subst, sym}
use Rattle.std.proofs.Common.{true, ℕ}
use Rattle.std.specs.Prelude.{◌^◌, Err, Ok, is_some, nat_eq, nat_lt, not}
use Rattle.std.specs.Int.{to_le_bytes, w32}
use Rattle.rd_app.specs.declared.instr.Instr.{Instr}
use Rattle.rd_app.specs.declared.instr.Instr.TheVariants.{Group, Local, Message, Notify, Queue, QueueSet, Stream}
use Rattle.rd_group_calls.proofs.Offered.{EntriesStay-group_call}
use Rattle.rd_group_calls.specs.GroupCalls.{group_outcome}
use Rattle.rd_app.specs.declared.instr.LocalInstr.TheVariants.{Add, Data, End, Jump, JumpZero, Move, Pack, Unpack}
use Rattle.rd_state.specs.declared.phase.Phase.TheVariants.{Ended}
use Rattle.rd_app.specs.Application.{Application, priorities_of, side_of_message_call, side_of_stream_call}
use Rattle.rd_state.specs.Snapshot.{Snapshot, TaskSnapshot, core_at, task_at, with_task}
use Rattle.rd_kernel.proofs.Offered.{EntriesStay, EntriesStay-concluded, EntriesStay-task, EntriesStay-woken_all, entry_after}
use Rattle.rd_calls.specs.Local.{local_step, unpacked}
use Rattle.rd_calls.specs.Step.{core_step, last_tick, next_instr, performed, step_of_core, tick_step}
use Rattle.rd_kernel.specs.Tasks.{advanced, entry_at, register_at, with_entry}
use Rattle.rd_queue_calls.proofs.Offered.{EntriesStay-queue_call, EntriesStay-queue_set_call}
use Rattle.rd_app.specs.declared.instr.LocalInstr.{LocalInstr}
use Rattle.rd_kernel.specs.Outcomes.{Called, call_fails, call_gives, call_passes, call_returns, concluded}
use Rattle.rd_queue_calls.specs.QueueCalls.{queue_outcome}
use Rattle.rd_queue_calls.specs.QueueSetCalls.{queue_set_outcome}
use Rattle.rd_kernel.specs.declared.waking.Waking.TheVariants.{TriesAgain}
use Rattle.std.proofs.lemmas.Bool.{false≢true}
use Rattle.rd_app.specs.declared.instr.NotifyCall.{NotifyCall}
use Rattle.rd_app.specs.declared.instr.NotifyCall.TheVariants.{ClearState, ClearValue, Query, Take}
use Rattle.rd_stream_calls.specs.StreamCalls.{stream_outcome}
use Rattle.rd_stream_calls.specs.MessageCalls.{message_outcome}
use Rattle.rd_stream_calls.proofs.Offered.{message_call-received, stream_call-received}
use Rattle.rd_notify_calls.proofs.Offered.{notified-received}
use Rattle.rd_notify_calls.specs.NotifyCalls.{entry_closed, entry_opened, notify_call_outcome}
use Rattle.rd_moves.specs.declared.moves.Move.TheVariants.{Carried, Core, Tick}
use Rattle.rd_kernel.specs.Waking.{due_below, operand_value, woken_all}
use Rattle.rd_refusal.specs.declared.refusal.Refusal.TheVariants.{TickLimit}
use Rattle.rd_calls.proofs.CarriedLaws.{carried-come, carried_out-is}
use Rattle.rd_calls.specs.Received.{ReceivedStays, call_looks_at, is_entry, looks_at}
use Rattle.rd_kernel.specs.Telling.{waits_for_entry, waits_once}
use Rattle.rd_notify.specs.Entries.{entry_cleared, entry_idle, entry_taken, entry_waiting, has_received, idle_entry}
use Rattle.rd_notify.specs.declared.entries.Entry.{Entry}
use Rattle.rd_notify.specs.declared.entries.EntryState.TheVariants.{Received}
use Rattle.std.proofs.lemmas.Bool.Decides.{nat_tests}
use Rattle.std.specs.Option.{option_map_or}

-- ---- what leaves entries as they are

-- A task that is another one goes on at its next instruction.
advanced_stays : (s : Snapshot) (task : ℕ) (x : TaskSnapshot) → x.entries ≡ (task_at s task).entries → EntriesStay s (advanced (with_task s task x) task)
advanced_stays s task x same t =
    let p = with_task s task x in
    EntriesStay-task p task (record (task_at p task) { pc = (task_at p task).pc + 1 }) refl t ∙ EntriesStay-task s task x same t

local_stays : (s : Snapshot) (core task : ℕ) (instr : LocalInstr) → EntriesStay s (local_step s core task instr)
local_stays s core task (local.Set register value) =
    advanced_stays s task (record (task_at s task) { registers = set (task_at s task).registers register value }) refl
local_stays s core task (Add register value) =
    advanced_stays s task (record (task_at s task) { registers = set (task_at s task).registers register ((register_at s task register + value) % 2 ^ 32) }) refl
local_stays s core task (Move into from) =
    advanced_stays s task (record (task_at s task) { registers = set (task_at s task).registers into (register_at s task from) }) refl
local_stays s core task (Data bytes) = advanced_stays s task (record (task_at s task) { bytes = bytes }) refl
local_stays s core task (Pack register) =
    advanced_stays s task (record (task_at s task) { bytes = to_le_bytes w32 (register_at s task register) }) refl
local_stays s core task (Unpack register) =
    advanced_stays s task (record (task_at s task) { registers = set (task_at s task).registers register (unpacked s task) }) refl
local_stays s core task (Jump target) = EntriesStay-task s task (record (task_at s task) { pc = target }) refl
local_stays s core task (JumpZero register target) =
    EntriesStay-task s task
    (record (task_at s task) { pc = cond (nat_eq (register_at s task register) 0) target ((task_at s task).pc + 1) }) refl
local_stays s core task End = EntriesStay-task s task (record (task_at s task) { phase = Ended }) refl

-- ---- calls that notify

abbrev has_come : Entry → Type 0
has_come entry = entry.state ≡ Received

-- where all entries stay, so does that one
stays_come : (s p : Snapshot) (target index : ℕ) → EntriesStay s p → has_come (entry_at s target index) → has_come (entry_at p target index)
stays_come s p target index stay come = ap (λ (es : List Entry). (get_or es index idle_entry).state) (stay target) ∙ come

not_it : (task other target index : ℕ) → is_entry task other target index ≡ false → task ≡ target → other ≡ index → ⊥
not_it task other target index differs same same_index =
    let one : nat_eq task target ≡ true = grind (arith, nat_tests, same) in
    let two : nat_eq other index ≡ true = grind (arith, nat_tests, same_index) in
    false≢true (sym differs ∙ ap (λ b. b && nat_eq other index) one ∙ two)

-- another entry changes
elsewhere_come : (s : Snapshot) (task i target index : ℕ) (entry : Entry) → is_entry task i target index ≡ false → has_come (entry_at s target index)
    → has_come (entry_at (with_entry s task i entry) target index)
elsewhere_come s task i target index entry differs come =
    entry_after s task i target index entry has_come (λ same same_index. absurd (not_it task i target index differs same same_index)) come

-- whichever of two it is
come_either : (b : Bool) (one other : Called) (target index : ℕ) → has_come (entry_at one.state target index) → has_come (entry_at other.state target index)
    → has_come (entry_at (cond b one other).state target index)
come_either true one other target index first second = first
come_either false one other target index first second = second

call_come : (priorities : List ℕ) (s : Snapshot) (task : ℕ) (call : NotifyCall) (target index : ℕ) → has_come (entry_at s target index)
    → call_looks_at task call target index ≡ false → has_come (entry_at (notify_call_outcome priorities s task call).state target index)
call_come priorities s task (notify.Notify to i value action) target index come looks =
    notified-received priorities s to i (operand_value s task value) target index action come
call_come priorities s task (Query to i value action) target index come looks =
    notified-received priorities s to i (operand_value s task value) target index action come
call_come priorities s task (Take i exit wait) target index come looks =
    let entry = entry_at s task i in
    come_either (nat_eq entry.value 0 && waits_once s task wait) (waits_for_entry s task i entry wait)
    (call_returns (with_entry s task i (entry_taken exit entry)) entry.value) target index
    (elsewhere_come s task i target index (entry_waiting entry) looks come) (elsewhere_come s task i target index (entry_taken exit entry) looks come)
call_come priorities s task (notify.Wait i entry_bits exit_bits wait) target index come looks =
    let entry = entry_opened s task i (operand_value s task entry_bits) in
    let bits = operand_value s task exit_bits in
    come_either (not (has_received (entry_at s task i).state) && waits_once s task wait) (waits_for_entry s task i entry wait) (entry_closed s task i entry bits)
    target index (elsewhere_come s task i target index (entry_waiting entry) looks come)
    (come_either (has_received entry.state) (call_gives (with_entry s task i (entry_idle (entry_cleared bits entry))) 1 entry.value)
    (call_gives (with_entry s task i (entry_idle entry)) 0 entry.value) target index
    (elsewhere_come s task i target index (entry_idle (entry_cleared bits entry)) looks come)
    (elsewhere_come s task i target index (entry_idle entry) looks come))
call_come priorities s task (ClearState of i) target index come looks =
    come_either (has_received (entry_at s of i).state) (call_passes (with_entry s of i (entry_idle (entry_at s of i)))) (call_fails s) target index
    (elsewhere_come s of i target index (entry_idle (entry_at s of i)) looks come) come
call_come priorities s task (ClearValue of i bits) target index come looks =
    entry_after s of i target index (entry_cleared (operand_value s task bits) (entry_at s of i)) has_come
    (λ same same_index. ap (λ n. (entry_at s n i).state) same ∙ ap (λ n. (entry_at s target n).state) same_index ∙ come) come

-- ---- calls of buffers

-- One that may wait looks at another entry.
another_entry : (may : Bool) (task target index : ℕ) → (may && is_entry task 0 target index) ≡ false → may ≡ true → task ≡ target → 0 ≡ index → ⊥
another_entry true task target index looks may = not_it task 0 target index looks
another_entry false task target index looks may = absurd (false≢true may)

-- ---- moves

instr_come : (priorities : List ℕ) (s : Snapshot) (core task : ℕ) (instr : Instr) (target index : ℕ) → has_come (entry_at s target index)
    → looks_at task instr target index ≡ false → has_come (entry_at (performed priorities s core task instr) target index)
instr_come priorities s core task (Local instr) target index come looks = stays_come s (local_step s core task instr) target index (local_stays s core task instr) come
instr_come priorities s core task (Queue queue call) target index come looks =
    let called = queue_outcome priorities s task queue call in
    stays_come called.state (concluded called core task) target index (EntriesStay-concluded called.state called.outcome core task)
    (stays_come s called.state target index (EntriesStay-queue_call priorities s task queue call) come)
instr_come priorities s core task (QueueSet number call) target index come looks =
    let called = queue_set_outcome priorities s task number call in
    stays_come called.state (concluded called core task) target index (EntriesStay-concluded called.state called.outcome core task)
    (stays_come s called.state target index (EntriesStay-queue_set_call priorities s task number call) come)
instr_come priorities s core task (Stream stream call) target index come looks =
    let called = stream_outcome priorities s task stream call in
    stays_come called.state (concluded called core task) target index (EntriesStay-concluded called.state called.outcome core task)
    (stream_call-received priorities s task stream target index call (another_entry (is_some (side_of_stream_call call)) task target index looks) come)
instr_come priorities s core task (Message message call) target index come looks =
    let called = message_outcome priorities s task message call in
    stays_come called.state (concluded called core task) target index (EntriesStay-concluded called.state called.outcome core task)
    (message_call-received priorities s task message target index call (another_entry (is_some (side_of_message_call call)) task target index looks) come)
instr_come priorities s core task (Group group call) target index come looks =
    let called = group_outcome priorities s task group call in
    stays_come called.state (concluded called core task) target index (EntriesStay-concluded called.state called.outcome core task)
    (stays_come s called.state target index (EntriesStay-group_call priorities s task group call) come)
instr_come priorities s core task (Notify call) target index come looks =
    let called = notify_call_outcome priorities s task call in
    stays_come called.state (concluded called core task) target index (EntriesStay-concluded called.state called.outcome core task)
    (call_come priorities s task call target index come looks)

core_come : (app : Application) (s s' : Snapshot) (core : ℕ) (o : Option ℕ) (target index : ℕ) → step_of_core app s core o ≡ Ok s'
    → has_come (entry_at s target index) → option_map_or (λ task. looks_at task (next_instr app s task) target index) o false ≡ false
    → has_come (entry_at s' target index)
core_come app s s' core None target index e come looks = cc
core_come app s s' core (Some task) target index e come looks =
    let same : s' ≡ core_step app s core task = cc in
    subst (λ p. has_come (entry_at p target index)) (sym same) (instr_come (priorities_of app) s core task (next_instr app s task) target index come looks)

pub received_stays : ReceivedStays
received_stays app s s' (Core core) target index e come looks = core_come app s s' core (core_at s core) target index e come looks
received_stays app s s' Tick target index e come looks =
    elim (nat_lt s.tick last_tick) as (λ b. cond b (Ok (tick_step app s)) (Err TickLimit) ≡ Ok s' → has_come (entry_at s' target index)) [
      | true ↦ λ made. let same : s' ≡ tick_step app s = cc in
          let now = record s { tick = s.tick + 1 } in
          let p = woken_all (priorities_of app) TriesAgain now (due_below now (length s.tasks)) in
          subst (λ q. has_come (entry_at q target index)) (sym same)
          (stays_come now p target index (EntriesStay-woken_all (priorities_of app) TriesAgain now (due_below now (length s.tasks))) come)
      | false ↦ λ none. cc
    ] e
received_stays app s s' (Carried carried) target index e come looks =
    subst (λ q. has_come (entry_at q target index)) (sym (carried_out-is app s s' carried e)) (carried-come app s carried target index come)
