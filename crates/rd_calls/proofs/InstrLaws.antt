-- What each instruction leaves as it is.
use Rattle.std.proofs.Common.{◌≡◌, ◌∙◌, ℕ, ◌+◌, ◌%◌, ◌<◌, ◌≤◌, true, false, cond, List, length}
use Rattle.std.proofs.Common.{set, map, Some, None, Option, refl, ap, sym, subst, arith}
use Rattle.std.specs.Prelude.{◌^◌, nat_eq}
use Rattle.std.specs.Int.{w32, to_le_bytes}
use Rattle.rd_app.specs.declared.instr.Instr.{Instr}
use Rattle.rd_app.specs.declared.instr.Instr.TheVariants.{Group, Local, Queue, QueueSet, Stream, Message, Notify}
use Rattle.rd_app.specs.declared.instr.LocalInstr.TheVariants.{Add, Move, Data, Pack, Unpack, Jump, JumpZero, End}
use Rattle.rd_app.specs.declared.instr.LocalInstr.TheVariants as local
use Rattle.rd_state.specs.declared.phase.Phase.TheVariants.{Run, Ended}
use Rattle.rd_app.specs.Application.{Application, IsNotifyCall, IsWithin, code_of, instr_at, is_final, priorities_of}
use Rattle.rd_state.specs.Snapshot.{Snapshot, task_at, core_at, with_task}
use Rattle.rd_kernel.proofs.Offered.{IsFree, free_in_run}
use Rattle.rd_state.specs.Valid.{EntriesFitCall, HoldersFitCall, IsValid, PhaseFitsCall, place_of_call, times_to_run}
use Rattle.rd_state.specs.Objects.{AreShaped}
use Rattle.rd_group_calls.proofs.Offered.{IsConsistent-group_call, group_call-beside, group_call-tick}
use Rattle.rd_group_calls.specs.GroupCalls.{group_outcome}
use Rattle.rd_state.proofs.Offered.{group_count_shaped, message_count_shaped, queue_count_shaped, queue_set_count_shaped, stream_count_shaped}
use Rattle.rd_calls.specs.Local.{unpacked}
use Rattle.rd_calls.specs.Step.{performed}
use Rattle.rd_kernel.specs.Tasks.{register_at, with_pc, advanced}
use Rattle.rd_kernel.proofs.Offered.{IsConsistent, IsConsistent-valid}
use Rattle.rd_kernel.proofs.Offered.{all_have_time_left, RunsInstr, IsConsistent-advanced, IsConsistent-stopped, IsConsistent-with_pc}
use Rattle.rd_kernel.proofs.Offered.{runs_outside_calls}
use Rattle.rd_queue_calls.proofs.Offered.{IsConsistent-queue_call, IsConsistent-queue_set_call, queue_call-tick, queue_set_call-tick}
use Rattle.rd_app.specs.declared.instr.LocalInstr.{LocalInstr}
use Rattle.rd_kernel.specs.declared.outcome.Outcome.{Outcome}
use Rattle.rd_kernel.specs.declared.outcome.Outcome.TheVariants.{Returns, ReturnsBoth, Waits, Fails}
use Rattle.rd_kernel.specs.Outcomes.{concluded}
use Rattle.rd_queue_calls.specs.QueueCalls.{queue_outcome}
use Rattle.rd_queue_calls.specs.QueueSetCalls.{queue_set_outcome}
use Rattle.rd_queue_calls.specs.QueueSetLaws.{handles_in}
use Rattle.rd_queue_calls.proofs.Offered.{handles_go_by_calls, handles_woken_all}
use Rattle.rd_stream_calls.specs.StreamCalls.{stream_outcome}
use Rattle.rd_stream_calls.specs.MessageCalls.{message_outcome}
use Rattle.rd_stream_calls.proofs.Offered.{IsBesideBuffers, IsConsistent-stream_call, stream_call-beside, stream_call-tick}
use Rattle.rd_stream_calls.proofs.Offered.{IsConsistent-message_call, message_call-beside, message_call-tick}
use Rattle.rd_state.specs.declared.phase.Held.{Held}
use Rattle.rd_state.specs.declared.phase.Held.TheVariants as held
use Rattle.rd_state.specs.Waiting.{objects_naming}
use Rattle.rd_notify_calls.proofs.Offered.{IsConsistent-notify_call, by_waking}
use Rattle.rd_kernel.specs.declared.waking.Waking.TheVariants.{IsGiven, TriesAgain}
use Rattle.rd_queue.specs.QueueSetSnapshot.{QueueSetSnapshot}
use Rattle.rd_state.specs.Objects.{ObjectsSnapshot}
use Rattle.rd_calls.specs.Local.{local_step}
use Rattle.rd_calls.specs.Step.{handles_performed}

-- It leaves what makes a state valid,
pub IsConsistent-performed : (app : Application) (s : Snapshot) (core task : ℕ) (instr : Instr) → 0 < app.entries → IsValid app s → task < length s.tasks
    → 1 ≤ times_to_run (task_at s task).phase → core < length s.cores → core_at s core ≡ Some task
    → instr_at app task (task_at s task).pc ≡ instr → IsWithin app (length (code_of app task)) instr
    → (is_final instr ≡ false → (task_at s task).pc + 1 < length (code_of app task))
    → IsConsistent app (all_have_time_left s.tick) (performed (priorities_of app) s core task instr)
IsConsistent-performed app s core task instr entries valid there runs has_core e is within next =
    let D = all_have_time_left s.tick in
    let at = IsConsistent-valid app s valid in
    let x = task_at s task in
    let run : place_of_call instr ≡ None → x.phase ≡ Run =
    λ none. runs_outside_calls x.phase instr runs none (subst (PhaseFitsCall x.phase) is (at.each task there).call) in
    let further : (registers bytes : List ℕ) → place_of_call instr ≡ None → is_final instr ≡ false
    → IsConsistent app D (advanced (with_task s task (record x { registers = registers; bytes = bytes })) task) =
    λ registers bytes none goes. IsConsistent-advanced app D s task registers bytes there (run none) (next goes) at in
    let jumps : (target : ℕ) → place_of_call instr ≡ None → target < length (code_of app task) → IsConsistent app D (with_pc s task target) =
    λ target none inside. IsConsistent-with_pc app D s task target there (run none) inside at in
    let free : place_of_call instr ≡ None → IsFree s.objects task x.entries =
    λ none. free_in_run s.objects task instr x.entries
    (subst (λ phase. EntriesFitCall phase instr x.entries) (run none) (subst (λ i. EntriesFitCall x.phase i x.entries) is (at.each task there).entries))
    (subst (λ phase. HoldersFitCall s.objects task phase instr) (run none) (subst (HoldersFitCall s.objects task x.phase) is (at.holders task there))) in
    let calls : is_final instr ≡ false → RunsInstr app s core task instr =
    λ goes. record { valid = valid; there = there; runs = runs; has_core = has_core; on_core = e; at_instr = is; within = next goes } in
    by_instr instr valid.in_limits.objects within next calls further jumps free
  where
    -- the same by cases, with what each needs of the above
    by_instr : (instr : Instr) → AreShaped app s.objects → IsWithin app (length (code_of app task)) instr → (is_final instr ≡ false → (task_at s task).pc + 1 < length (code_of app task))
        → (is_final instr ≡ false → RunsInstr app s core task instr)
        → ((registers bytes : List ℕ) → place_of_call instr ≡ None → is_final instr
        ≡ false
        → IsConsistent app (all_have_time_left s.tick) (advanced (with_task s task (record (task_at s task) { registers = registers; bytes = bytes })) task))
        → ((target : ℕ) → place_of_call instr
        ≡ None → target < length (code_of app task) → IsConsistent app (all_have_time_left s.tick) (with_pc s task target))
        → (place_of_call instr ≡ None → IsFree s.objects task (task_at s task).entries)
        → IsConsistent app (all_have_time_left s.tick) (performed (priorities_of app) s core task instr)
    by_instr (Local (local.Set register value)) shaped within next calls further jumps free =
        further (set (task_at s task).registers register value) (task_at s task).bytes refl refl
    by_instr (Local (Add register value)) shaped within next calls further jumps free =
        further (set (task_at s task).registers register ((register_at s task register + value) % 2 ^ 32)) (task_at s task).bytes refl refl
    by_instr (Local (Move into from)) shaped within next calls further jumps free =
        further (set (task_at s task).registers into (register_at s task from)) (task_at s task).bytes refl refl
    by_instr (Local (Data bytes)) shaped within next calls further jumps free = further (task_at s task).registers bytes refl refl
    by_instr (Local (Pack register)) shaped within next calls further jumps free =
        further (task_at s task).registers (to_le_bytes w32 (register_at s task register)) refl refl
    by_instr (Local (Unpack register)) shaped within next calls further jumps free =
        further (set (task_at s task).registers register (unpacked s task)) (task_at s task).bytes refl refl
    by_instr (Local (Jump target)) shaped within next calls further jumps free = jumps target refl within
    by_instr (Local (JumpZero register target)) shaped within next calls further jumps free =
        jumps _ refl
        (elim
        (nat_eq (register_at s task register) 0) as (λ b. cond b target ((task_at s task).pc + 1) < length (code_of app task))
        [ true ↦ within.1 | false ↦ next refl ])
    by_instr (Local End) shaped within next calls further jumps free =
        IsConsistent-stopped app (all_have_time_left s.tick) s core task Ended there runs has_core e refl refl (free refl) tt tt
        (IsConsistent-valid app s valid)
    by_instr (Queue queue call) shaped within next calls further jumps free =
        IsConsistent-queue_call app s core task queue call (calls refl)
        (omega (arith, within.0, queue_count_shaped app s.objects shaped))
    by_instr (QueueSet queue_set call) shaped within next calls further jumps free =
        IsConsistent-queue_set_call app s core task queue_set call (calls refl)
        (omega (arith, within.0, queue_set_count_shaped app s.objects shaped))
    by_instr (Stream stream call) shaped within next calls further jumps free =
        IsConsistent-stream_call app s core task stream call (calls refl)
        (omega (arith, within.0, stream_count_shaped app s.objects shaped)) entries
    by_instr (Message message call) shaped within next calls further jumps free =
        IsConsistent-message_call app s core task message call (calls refl)
        (omega (arith, within.0, message_count_shaped app s.objects shaped)) entries
    by_instr (Group group call) shaped within next calls further jumps free =
        IsConsistent-group_call app s core task group call (calls refl) (omega (arith, within.0, group_count_shaped app s.objects shaped))
    by_instr (Notify call) shaped within next calls further jumps free =
        IsConsistent-notify_call app s core task call (calls refl)
        (subst (λ n. IsNotifyCall n app.entries call) (sym valid.in_limits.tasks) within)

-- the tick count
pub performed-tick : (priorities : List ℕ) (s : Snapshot) (core task : ℕ) (instr : Instr) → (performed priorities s core task instr).tick ≡ s.tick
performed-tick priorities s core task (Local (local.Set register value)) = refl
performed-tick priorities s core task (Local (Add register value)) = refl
performed-tick priorities s core task (Local (Move into from)) = refl
performed-tick priorities s core task (Local (Data bytes)) = refl
performed-tick priorities s core task (Local (Pack register)) = refl
performed-tick priorities s core task (Local (Unpack register)) = refl
performed-tick priorities s core task (Local (Jump target)) = refl
performed-tick priorities s core task (Local (JumpZero register target)) = refl
performed-tick priorities s core task (Local End) = refl
performed-tick priorities s core task (Queue queue call) = queue_call-tick priorities s core task queue call
performed-tick priorities s core task (QueueSet queue_set call) = queue_set_call-tick priorities s core task queue_set call
performed-tick priorities s core task (Stream stream call) = stream_call-tick priorities s core task stream call
performed-tick priorities s core task (Message message call) = message_call-tick priorities s core task message call
performed-tick priorities s core task (Group group call) = group_call-tick priorities s core task group call
performed-tick priorities s core task (Notify call) = (by_waking priorities s core task call).tick

-- and the handles of queue sets, but for those that a call adds or takes.
handles_local : (s : Snapshot) (core task : ℕ) (instr : LocalInstr) → handles_in (local_step s core task instr) ≡ handles_in s
handles_local s core task (local.Set register value) = refl
handles_local s core task (Add register value) = refl
handles_local s core task (Move into from) = refl
handles_local s core task (Data bytes) = refl
handles_local s core task (Pack register) = refl
handles_local s core task (Unpack register) = refl
handles_local s core task (Jump target) = refl
handles_local s core task (JumpZero register target) = refl
handles_local s core task End = refl

-- what becomes of a caller
handles_concluded : (s : Snapshot) (outcome : Outcome) (core task : ℕ) → handles_in (concluded (record { state = s; outcome = outcome }) core task) ≡ handles_in s
handles_concluded s (Returns value) core task = refl
handles_concluded s (Waits place deadline) core task = refl
handles_concluded s (ReturnsBoth value second) core task = refl
handles_concluded s (Fails cause) core task = refl

-- None is a buffer's.
abbrev handles_of : ObjectsSnapshot → List (List ℕ)
handles_of o = map (λ (q : QueueSetSnapshot). q.handles) o.queue_sets

handles_beside : (priorities : List ℕ) → IsBesideBuffers handles_of priorities
handles_beside priorities = record {
  beside = record { naming = naming; waking = λ s tasks. handles_woken_all priorities TriesAgain s tasks };
  streams = λ o stream now. refl;
  messages = λ o message now. refl;
}
  where
    naming : (o : ObjectsSnapshot) (held : Held) (who : Option ℕ) → handles_of (objects_naming o held who) ≡ handles_of o
    naming o (held.Stream stream side) who = refl
    naming o (held.Message message side) who = refl

pub handles_performed-is : (priorities : List ℕ) (s : Snapshot) (core task : ℕ) (instr : Instr) → handles_in (performed priorities s core task instr) ≡ handles_performed s instr
handles_performed-is priorities s core task (Local instr) = handles_local s core task instr
handles_performed-is priorities s core task (Queue queue call) =
    let called = queue_outcome priorities s task queue call in
    handles_concluded called.state called.outcome core task ∙ handles_go_by_calls.of_queues priorities s task queue call
handles_performed-is priorities s core task (QueueSet number call) =
    let called = queue_set_outcome priorities s task number call in
    handles_concluded called.state called.outcome core task ∙ handles_go_by_calls.of_queue_sets priorities s task number call
handles_performed-is priorities s core task (Stream stream call) =
    let called = stream_outcome priorities s task stream call in
    handles_concluded called.state called.outcome core task ∙ stream_call-beside handles_of priorities s task stream call (handles_beside priorities)
handles_performed-is priorities s core task (Message message call) =
    let called = message_outcome priorities s task message call in
    handles_concluded called.state called.outcome core task ∙ message_call-beside handles_of priorities s task message call (handles_beside priorities)
handles_performed-is priorities s core task (Group group call) =
    let called = group_outcome priorities s task group call in
    handles_concluded called.state called.outcome core task
    ∙ group_call-beside handles_of priorities s task group call
    (record { waking = λ p bits tasks. handles_woken_all priorities (IsGiven bits) p tasks; groups = λ o number now. refl })
handles_performed-is priorities s core task (Notify call) =
    let by = by_waking priorities s core task call in
    ap (λ (o : ObjectsSnapshot). map (λ (q : QueueSetSnapshot). q.handles) o.queue_sets) by.objects ∙ handles_woken_all priorities TriesAgain s by.tasks
