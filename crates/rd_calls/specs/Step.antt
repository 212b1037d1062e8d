-- A move: one instruction of the task on a core, or a tick, and then scheduling; or what it carries
-- is done.
use Rattle.std.specs.Prelude.{ℕ, ◌≡◌, ◌+◌, ◌*◌, ◌%◌, ◌<◌, ◌≤◌, List, length, drop, position, nat_lt}
use Rattle.std.specs.Prelude.{if◌then◌else◌, Option, None, Some, is_some, Result, Ok, Err, OnErr}
use Rattle.std.specs.Prelude.{OnOk, take, true}
use Rattle.rd_app.specs.declared.instr.Instr.{Instr}
use Rattle.rd_app.specs.declared.instr.Instr.TheVariants.{Local, Queue, QueueSet, Stream, Message}
use Rattle.rd_app.specs.declared.instr.Instr.TheVariants.{Group, Notify}
use Rattle.rd_app.specs.Application.{Application, IsGroupCall, IsMessageCall, IsNotifyCall}
use Rattle.rd_app.specs.Application.{IsQueueCall, IsQueueSetCall, IsStreamCall, instr_at}
use Rattle.rd_app.specs.Application.{priorities_of}
use Rattle.rd_group_calls.specs.GroupCalls.{group_call_cost, group_outcome}
use Rattle.rd_refusal.specs.declared.refusal.Refusal.{Refusal}
use Rattle.rd_refusal.specs.declared.refusal.Refusal.TheVariants.{NoTask, TickLimit}
use Rattle.rd_bytes.specs.declared.no_memory.NoMemory.{NoMemory}
use Rattle.rd_state.specs.Change.{Change}
use Rattle.rd_state.specs.Change.{weight_of}
use Rattle.rd_state.specs.EditingView.{added, capacity_of, room_for}
use Rattle.rd_state.specs.EditingView as editing
use Rattle.rd_state.specs.Settled.{settled, rotated, IsSettled}
use Rattle.rd_state.specs.PackedChanges.{IsPackable}
use Rattle.rd_state.specs.Snapshot.{Snapshot, task_at, core_at}
use Rattle.rd_state.specs.Undoing.{undone, CanUndo}
use Rattle.rd_state.specs.Valid.{IsValid}
use Rattle.rd_calls.specs.Carried.{carried_answer, step_of_carried, CarriedLeavesSettled}
use Rattle.rd_calls.specs.Local.{local_cost, local_step, NamesLocalParts}
use Rattle.rd_calls.specs.declared.play.TheConstants.{CHANGES_PER_TASK, CHANGES_PER_CORE}
use Rattle.rd_calls.specs.declared.play.TheConstants.{CHANGES_BESIDES, SAVED_BYTES}
use Rattle.rd_kernel.specs.Costs.{ending_cost}
use Rattle.rd_kernel.specs.Outcomes.{concluded}
use Rattle.rd_kernel.specs.Waking.{timed_out}
use Rattle.rd_queue_calls.specs.QueueCalls.{dropped_by, queue_call_cost, queue_outcome}
use Rattle.rd_queue_calls.specs.QueueSetCalls.{queue_set_call_cost, queue_set_outcome}
use Rattle.rd_queue_calls.specs.QueueSetLaws.{handles_after, handles_in, handles_selected}
use Rattle.rd_notify_calls.specs.NotifyCalls.{notify_call_cost, notify_call_outcome}
use Rattle.rd_stream_calls.specs.MessageCalls.{dropped_by_message_call, message_call_cost}
use Rattle.rd_stream_calls.specs.MessageCalls.{message_outcome}
use Rattle.rd_stream_calls.specs.StreamCalls.{dropped_by_stream_call, stream_call_cost}
use Rattle.rd_stream_calls.specs.StreamCalls.{stream_outcome}
use Rattle.rd_moves.specs.Moves.{PlainMove}
use Rattle.rd_moves.specs.declared.moves.Move.TheVariants.{Carried, Core, Tick}

-- the state after an instruction of the task on a core
abbrev pub performed : List ℕ → Snapshot → ℕ → ℕ → Instr → Snapshot
performed priorities s core task (Local instr) = local_step s core task instr
performed priorities s core task (Queue queue call) =
    concluded (queue_outcome priorities s task queue call) core task
performed priorities s core task (QueueSet queue_set call) =
    concluded (queue_set_outcome priorities s task queue_set call) core task
performed priorities s core task (Stream stream call) =
    concluded (stream_outcome priorities s task stream call) core task
performed priorities s core task (Message message call) =
    concluded (message_outcome priorities s task message call) core task
performed priorities s core task (Group group call) =
    concluded (group_outcome priorities s task group call) core task
performed priorities s core task (Notify call) =
    concluded (notify_call_outcome priorities s task call) core task

-- the handles of queue sets after an instruction: a call of a queue adds one at the most, one of a
-- set takes one at the most, and any other changes none
abbrev pub handles_performed : Snapshot → Instr → List (List ℕ)
handles_performed s (Local instr) = handles_in s
handles_performed s (Queue queue call) = handles_after s queue call
handles_performed s (QueueSet queue_set call) = handles_selected s queue_set call
handles_performed s (Stream stream call) = handles_in s
handles_performed s (Message message call) = handles_in s
handles_performed s (Group group call) = handles_in s
handles_performed s (Notify call) = handles_in s

-- the instruction that a task stands at
abbrev pub next_instr : Application → Snapshot → ℕ → Instr
next_instr app s task = instr_at app task (task_at s task).pc

-- The task on the core does its instruction, the turn goes
-- to the core after it, and the scheduler runs.
abbrev pub core_step : Application → Snapshot → ℕ → ℕ → Snapshot
core_step app s core task =
    settled (priorities_of app)
    (record (performed (priorities_of app) s core task (next_instr app s task)) { turn = core + 1 })

-- an idle core has no task that could
abbrev pub step_of_core : Application → Snapshot → ℕ → Option ℕ → Result Snapshot Refusal
step_of_core app s core None = Err NoTask
step_of_core app s core (Some task) = Ok (core_step app s core task)

-- A tick passes, and tasks whose time is up are woken.
abbrev pub ticked : List ℕ → Snapshot → Snapshot
ticked priorities s = timed_out priorities (length s.tasks) (record s { tick = s.tick + 1 })

-- Then the scheduler runs, and tasks of one priority take turns on one of the cores, each core in
-- its turn. The turn goes to core 0.
abbrev pub tick_step : Application → Snapshot → Snapshot
tick_step app s =
    record (rotated (priorities_of app) ((s.tick + 1) % length s.cores)
    (settled (priorities_of app) (ticked (priorities_of app) s))) { turn = 0 }

-- the last tick that there is
abbrev pub last_tick : ℕ
last_tick = 4294967295

abbrev pub step_of_tick : Application → Snapshot → Result Snapshot Refusal
step_of_tick app s = if nat_lt s.tick last_tick then Ok (tick_step app s) else Err TickLimit

-- the state after a move, or why there is none
abbrev pub step : Application → Snapshot → PlainMove → Result Snapshot Refusal
step app s (Core core) = step_of_core app s core (core_at s core)
step app s Tick = step_of_tick app s
step app s (Carried carried) = step_of_carried app s carried

-- what a move answers, which an interrupt alone does, if it is made in this state
abbrev pub move_answer : Snapshot → PlainMove → Option ℕ
move_answer s (Core core) = None
move_answer s Tick = None
move_answer s (Carried carried) = carried_answer s carried

-- The move that a run makes next: of the first busy core
-- from the turn on, or a tick where there is none.
abbrev pub move_from : ℕ → Option ℕ → PlainMove
move_from turn None = Tick
move_from turn (Some ahead) = Core (turn + ahead)

abbrev pub policy_of : Snapshot → PlainMove
policy_of s = move_from s.turn (position is_some (drop s.turn s.cores))

-- the bytes that an instruction drops, which only a call does that resets an object, and those that
-- a move drops
abbrev pub dropped_by_instr : Snapshot → Instr → ℕ
dropped_by_instr s (Local instr) = 0
dropped_by_instr s (Queue queue call) = dropped_by s queue call
dropped_by_instr s (QueueSet queue_set call) = 0
dropped_by_instr s (Stream stream call) = dropped_by_stream_call s stream call
dropped_by_instr s (Message message call) = dropped_by_message_call s message call
dropped_by_instr s (Group group call) = 0
dropped_by_instr s (Notify call) = 0

abbrev pub dropped_by_task : Application → Snapshot → Option ℕ → ℕ
dropped_by_task app s None = 0
dropped_by_task app s (Some task) = dropped_by_instr s (next_instr app s task)

abbrev pub dropped_by_move : Application → Snapshot → PlainMove → ℕ
dropped_by_move app s (Core core) = dropped_by_task app s (core_at s core)
dropped_by_move app s Tick = 0
dropped_by_move app s (Carried carried) = 0

-- The weight that the record of a move has at the most: only the numbers of tasks and cores enter,
-- apart from the bytes of one task's data, as many that go between it and an object, and those that
-- a reset drops.
abbrev pub record_limit : Application → Snapshot → PlainMove → ℕ
record_limit app s move =
    CHANGES_PER_TASK * length s.tasks + CHANGES_PER_CORE * length s.cores + CHANGES_BESIDES
    + SAVED_BYTES + dropped_by_move app s move

-- The record of a move is small.
abbrev pub IsSmall : Application → Snapshot → PlainMove → List Change → Type 0
IsSmall app s move changes = weight_of changes ≤ record_limit app s move

-- Nothing is left to schedule after a move.
abbrev pub LeavesSettled : Application → Snapshot → PlainMove → Snapshot → Type 0
LeavesSettled app s (Core core) s' = IsSettled (priorities_of app) s'
LeavesSettled app s Tick s' = IsSettled (priorities_of app) s'
LeavesSettled app s (Carried carried) s' = CarriedLeavesSettled app s carried s'

-- What a move leaves: the written state, valid and with nothing left to schedule, and few changes,
-- which lead back from there.
pub record IsPlayed (app : Application) (s : Snapshot) (move : PlainMove) (s' : Snapshot)
    (changes : List Change) : Type 0 where
  pub step : step app s move ≡ Ok s'
  pub leads_back : undone s' changes ≡ s
  pub can_undo : CanUndo s' changes
  pub small : IsSmall app s move changes
  pub packable : IsPackable changes
  pub valid : IsValid app s'
  pub settled : LeavesSettled app s move s'

-- The next move can be made here at once: the state is valid, and settled where nothing has called
-- for settling.
pub record CanPlay (app : Application) (edit : editing.EditingView) : Type 0 where
  pub valid : IsValid app edit.now
  pub calm : edit.calm ≡ true → IsSettled (priorities_of app) edit.now

-- What a function answers that makes a move after others, and records it: it is made, and its
-- record stands behind theirs and takes no more of the room than so much, or there is no memory for
-- it, and nothing has changed. Either way the next move can be made.
pub record Plays (app : Application) (move : PlainMove) (old new : editing.EditingView)
    (made : Result (Unit {0}) NoMemory) : Type 0 where
  pub before : OnOk made (take (length old.changes) new.changes ≡ old.changes)
  pub played : OnOk made (IsPlayed app old.now move new.now (added old.changes new.changes))
  pub room : OnOk made (old.room ≤ new.room + room_for (record_limit app old.now move))
  pub short : OnErr made (old.room < room_for (record_limit app old.now move))
  pub state : OnErr made (new.now ≡ old.now)
  pub changes : OnErr made (new.changes ≡ old.changes)
  pub err_room : OnErr made (old.room ≤ new.room)
  pub grows : capacity_of old ≤ capacity_of new
  pub can_play : CanPlay app new

-- The registers, objects, tasks and entries that an instruction names are there, where there are so
-- many entries.
abbrev pub NamesParts : ℕ → Snapshot → Instr → Type 0
NamesParts entries s (Local instr) = NamesLocalParts instr
NamesParts entries s (Queue queue call) =
    (queue < length s.objects.queues) × IsQueueCall (length s.objects.queue_sets) call
NamesParts entries s (QueueSet queue_set call) =
    (queue_set < length s.objects.queue_sets) × IsQueueSetCall call
NamesParts entries s (Stream stream call) =
    (stream < length s.objects.streams) × IsStreamCall call
NamesParts entries s (Message message call) =
    (message < length s.objects.messages) × IsMessageCall call
NamesParts entries s (Group group call) = (group < length s.objects.groups) × IsGroupCall call
NamesParts entries s (Notify call) = IsNotifyCall (length s.tasks) entries call

-- What an instruction takes in a record at the most: a call, and what becomes of its caller.
abbrev pub instr_cost : Snapshot → Instr → ℕ
instr_cost s (Local instr) = local_cost
instr_cost s (Queue queue call) = queue_call_cost s queue call + ending_cost
instr_cost s (QueueSet queue_set call) = queue_set_call_cost + ending_cost
instr_cost s (Stream stream call) = stream_call_cost s stream call + ending_cost
instr_cost s (Message message call) = message_call_cost s message call + ending_cost
instr_cost s (Group group call) = group_call_cost s call + ending_cost
instr_cost s (Notify call) = notify_call_cost call + ending_cost
