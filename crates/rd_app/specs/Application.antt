-- What runs of an application: what a contract sees of a `Program`, and the limits that each keeps.
use Rattle.std.specs.Prelude.{ℕ, ◌≡◌, ◌-◌, ◌^◌, ◌<◌, ◌≤◌, Bool, true, false}
use Rattle.std.specs.Prelude.{List, [], length, map, slice_index_or, All, Option, None, Some}
use Rattle.rd_bytes.specs.declared.bytes.TheConstants.{MAX_BYTES}
use Rattle.rd_notify.specs.declared.entries.TheConstants.{MAX_ENTRIES}
use Rattle.rd_app.specs.declared.app.TheConstants.{MAX_CODE, MAX_PRIORITY, MAX_TASKS}
use Rattle.rd_app.specs.declared.instr.TheConstants.{REGISTERS}
use Rattle.rd_app.specs.declared.objects.QueueShape.{QueueShape}
use Rattle.rd_app.specs.declared.profile.Profile.{Profile}
use Rattle.rd_app.specs.declared.instr.Operand.{Operand}
use Rattle.rd_app.specs.declared.instr.Operand.TheVariants.{Number, Register}
use Rattle.rd_app.specs.declared.instr.Instr.{Instr}
use Rattle.rd_app.specs.declared.instr.Instr.TheVariants.{Local, Queue, QueueSet, Stream}
use Rattle.rd_app.specs.declared.instr.Instr.TheVariants.{Message, Group, Notify}
use Rattle.rd_app.specs.declared.instr.LocalInstr.{LocalInstr}
use Rattle.rd_app.specs.declared.instr.LocalInstr.TheVariants as local
use Rattle.rd_app.specs.declared.instr.QueueCall.{QueueCall}
use Rattle.rd_app.specs.declared.instr.QueueCall.TheVariants.{Send, Receive, Peek}
use Rattle.rd_app.specs.declared.instr.QueueCall.TheVariants.{Overwrite, Reset, Count, Spaces}
use Rattle.rd_app.specs.declared.instr.QueueCall.TheVariants.{AddToSet, RemoveFromSet}
use Rattle.rd_app.specs.declared.instr.QueueSetCall.{QueueSetCall}
use Rattle.rd_app.specs.declared.instr.QueueSetCall.TheVariants.{Select}
use Rattle.rd_app.specs.declared.instr.StreamCall.{StreamCall}
use Rattle.rd_app.specs.declared.instr.StreamCall.TheVariants as stream_call
use Rattle.rd_app.specs.declared.instr.MessageCall.{MessageCall}
use Rattle.rd_app.specs.declared.instr.MessageCall.TheVariants as message_call
use Rattle.rd_app.specs.declared.instr.GroupCall.{GroupCall}
use Rattle.rd_app.specs.declared.instr.GroupCall.TheVariants as group_call
use Rattle.rd_app.specs.declared.instr.NotifyCall.{NotifyCall}
use Rattle.rd_app.specs.declared.instr.NotifyCall.TheVariants as notify
use Rattle.rd_queue.specs.declared.waiting_list.WaitingList.{WaitingList}
use Rattle.rd_queue.specs.declared.waiting_list.WaitingList.TheVariants.{Receiving, Sending}
use Rattle.rd_stream.specs.declared.side.Side.{Side}
use Rattle.rd_stream.specs.declared.side.Side.TheVariants.{Reader, Writer}
use Rattle.rd_app.specs.TaskScript.{TaskScript}
use Rattle.rd_app.specs.Objects.{AreObjects, ObjectShapes, shape_at}
use Rattle.rd_app.specs.Profiles.{max_cores}

pub record Application : Type 0 where
  pub profile : Profile
  pub cores : ℕ
  pub entries : ℕ
  pub tick : ℕ
  pub objects : ObjectShapes
  pub tasks : List TaskScript

-- the script of a task
abbrev pub script_of : Application → ℕ → TaskScript
script_of app task = slice_index_or app.tasks task (record { priority = 0; code = [] })

-- the instructions of a task
abbrev pub code_of : Application → ℕ → List Instr
code_of app task = (script_of app task).code

-- the instruction of a task at a number
abbrev pub instr_at : Application → ℕ → ℕ → Instr
instr_at app task pc = slice_index_or (code_of app task) pc (Local local.End)

-- the tasks' priorities, by number
abbrev pub priorities_of : Application → List ℕ
priorities_of app = map (λ script. script.priority) app.tasks

-- the block time of a call that waits without end
abbrev pub max_delay : ℕ
max_delay = 4294967295

-- The register that an operand reads is there.
abbrev pub IsOperand : Operand → Type 0
IsOperand (Number value) = Unit {0}
IsOperand (Register register) = register < REGISTERS

-- Registers, and instructions of a script of that length, are there.
abbrev pub IsLocalWithin : ℕ → LocalInstr → Type 0
IsLocalWithin len (local.Set register value) = register < REGISTERS
IsLocalWithin len (local.Add register value) = register < REGISTERS
IsLocalWithin len (local.Move into from) = (into < REGISTERS) × (from < REGISTERS)
IsLocalWithin len (local.Data bytes) = length bytes ≤ MAX_BYTES
IsLocalWithin len (local.Pack register) = register < REGISTERS
IsLocalWithin len (local.Unpack register) = register < REGISTERS
IsLocalWithin len (local.Jump target) = target < len
IsLocalWithin len (local.JumpZero register target) = (register < REGISTERS) × (target < len)
IsLocalWithin len local.End = Unit {0}

-- The registers that a call of a queue names are there, and of so many sets the one that it names.
abbrev pub IsQueueCall : ℕ → QueueCall → Type 0
IsQueueCall queue_set_count (Send end wait) = IsOperand wait
IsQueueCall queue_set_count (Receive wait) = IsOperand wait
IsQueueCall queue_set_count (Peek wait) = IsOperand wait
IsQueueCall queue_set_count Overwrite = Unit {0}
IsQueueCall queue_set_count Reset = Unit {0}
IsQueueCall queue_set_count Count = Unit {0}
IsQueueCall queue_set_count Spaces = Unit {0}
IsQueueCall queue_set_count (AddToSet queue_set) = queue_set < queue_set_count
IsQueueCall queue_set_count (RemoveFromSet queue_set) = queue_set < queue_set_count

-- The registers that a call of a queue set names are there.
abbrev pub IsQueueSetCall : QueueSetCall → Type 0
IsQueueSetCall (Select wait) = IsOperand wait

-- The registers that a call of a stream buffer names are there, and a read takes a byte at the
-- least, and at the most as many as a task's data has room for.
abbrev pub IsStreamCall : StreamCall → Type 0
IsStreamCall (stream_call.Write wait) = IsOperand wait
IsStreamCall (stream_call.Read room wait) = (0 < room) × (room ≤ MAX_BYTES) × IsOperand wait
IsStreamCall stream_call.Reset = Unit {0}
IsStreamCall (stream_call.SetTrigger trigger) = IsOperand trigger
IsStreamCall stream_call.Count = Unit {0}
IsStreamCall stream_call.Spaces = Unit {0}

-- the same of a call of a message buffer
abbrev pub IsMessageCall : MessageCall → Type 0
IsMessageCall (message_call.Write wait) = IsOperand wait
IsMessageCall (message_call.Read room wait) = (0 < room) × (room ≤ MAX_BYTES) × IsOperand wait
IsMessageCall message_call.Reset = Unit {0}
IsMessageCall message_call.Spaces = Unit {0}
IsMessageCall message_call.NextLength = Unit {0}

-- The registers that a call of an event group names are there.
abbrev pub IsGroupCall : GroupCall → Type 0
IsGroupCall (group_call.Set bits) = IsOperand bits
IsGroupCall (group_call.Clear bits) = IsOperand bits
IsGroupCall group_call.Get = Unit {0}
IsGroupCall (group_call.Wait bits wait_for on_met wait) = IsOperand bits × IsOperand wait
IsGroupCall (group_call.Sync set bits wait) = IsOperand set × IsOperand bits × IsOperand wait

-- The registers that a call names are there, and of so many tasks, each with so many entries, the
-- one that it names.
abbrev pub IsNotifyCall : ℕ → ℕ → NotifyCall → Type 0
IsNotifyCall tasks entries (notify.Notify task index value action) =
    (task < tasks) × (index < entries) × IsOperand value
IsNotifyCall tasks entries (notify.Query task index value action) =
    (task < tasks) × (index < entries) × IsOperand value
IsNotifyCall tasks entries (notify.Take index exit wait) = (index < entries) × IsOperand wait
IsNotifyCall tasks entries (notify.Wait index entry_bits exit_bits wait) =
    (index < entries) × IsOperand entry_bits × IsOperand exit_bits × IsOperand wait
IsNotifyCall tasks entries (notify.ClearState task index) = (task < tasks) × (index < entries)
IsNotifyCall tasks entries (notify.ClearValue task index bits) =
    (task < tasks) × (index < entries) × IsOperand bits

-- the entry of its own through which a task waits for a call, if that has a block time
abbrev pub index_of_call : NotifyCall → Option ℕ
index_of_call (notify.Notify task index value action) = None
index_of_call (notify.Query task index value action) = None
index_of_call (notify.Take index exit wait) = Some index
index_of_call (notify.Wait index entry_bits exit_bits wait) = Some index
index_of_call (notify.ClearState task index) = None
index_of_call (notify.ClearValue task index bits) = None

-- The call is one for a queue of that shape: only a queue for one item is overwritten.
abbrev pub IsCallFor : QueueShape → QueueCall → Type 0
IsCallFor shape (Send end wait) = Unit {0}
IsCallFor shape (Receive wait) = Unit {0}
IsCallFor shape (Peek wait) = Unit {0}
IsCallFor shape Overwrite = shape.capacity ≡ 1
IsCallFor shape Reset = Unit {0}
IsCallFor shape Count = Unit {0}
IsCallFor shape Spaces = Unit {0}
IsCallFor shape (AddToSet queue_set) = Unit {0}
IsCallFor shape (RemoveFromSet queue_set) = Unit {0}

-- the list of its queue where a task waits for a call, if that has a block time
abbrev pub list_of_call : QueueCall → Option WaitingList
list_of_call (Send end wait) = Some Sending
list_of_call (Receive wait) = Some Receiving
list_of_call (Peek wait) = Some Receiving
list_of_call Overwrite = None
list_of_call Reset = None
list_of_call Count = None
list_of_call Spaces = None
list_of_call (AddToSet queue_set) = None
list_of_call (RemoveFromSet queue_set) = None

-- the side of its stream buffer at which a task waits for a call, if that has a block time
abbrev pub side_of_stream_call : StreamCall → Option Side
side_of_stream_call (stream_call.Write wait) = Some Writer
side_of_stream_call (stream_call.Read room wait) = Some Reader
side_of_stream_call stream_call.Reset = None
side_of_stream_call (stream_call.SetTrigger trigger) = None
side_of_stream_call stream_call.Count = None
side_of_stream_call stream_call.Spaces = None

-- the same of its message buffer
abbrev pub side_of_message_call : MessageCall → Option Side
side_of_message_call (message_call.Write wait) = Some Writer
side_of_message_call (message_call.Read room wait) = Some Reader
side_of_message_call message_call.Reset = None
side_of_message_call message_call.Spaces = None
side_of_message_call message_call.NextLength = None

-- Does a task wait in its event group's list for a call, if it has to wait?
abbrev pub waits_in_group : GroupCall → Bool
waits_in_group (group_call.Set bits) = false
waits_in_group (group_call.Clear bits) = false
waits_in_group group_call.Get = false
waits_in_group (group_call.Wait bits wait_for on_met wait) = true
waits_in_group (group_call.Sync set bits wait) = true

-- Registers, instructions of the script, objects, tasks and their entries are there.
abbrev pub IsWithin : Application → ℕ → Instr → Type 0
IsWithin app len (Local instr) = IsLocalWithin len instr
IsWithin app len (Queue queue call) =
    (queue < length app.objects.queues)
    × IsQueueCall (length app.objects.queue_sets) call
    × IsCallFor (shape_at app.objects queue) call
IsWithin app len (QueueSet queue_set call) =
    (queue_set < length app.objects.queue_sets) × IsQueueSetCall call
IsWithin app len (Stream stream call) =
    (stream < length app.objects.streams) × IsStreamCall call
IsWithin app len (Message message call) =
    (message < length app.objects.messages) × IsMessageCall call
IsWithin app len (Group group call) =
    (group < length app.objects.groups) × IsGroupCall call
IsWithin app len (Notify call) = IsNotifyCall (length app.tasks) app.entries call

-- does the script never go on at the next instruction?
abbrev pub is_local_final : LocalInstr → Bool
is_local_final (local.Set register value) = false
is_local_final (local.Add register value) = false
is_local_final (local.Move into from) = false
is_local_final (local.Data bytes) = false
is_local_final (local.Pack register) = false
is_local_final (local.Unpack register) = false
is_local_final (local.Jump target) = true
is_local_final (local.JumpZero register target) = false
is_local_final local.End = true

abbrev pub is_final : Instr → Bool
is_final (Local instr) = is_local_final instr
is_final (Queue queue call) = false
is_final (QueueSet queue_set call) = false
is_final (Stream stream call) = false
is_final (Message message call) = false
is_final (Group group call) = false
is_final (Notify call) = false

-- the queue and the call, where the instruction is a call of a queue
abbrev pub queue_call_of : Instr → Option (ℕ × QueueCall)
queue_call_of (Local instr) = None
queue_call_of (Queue queue call) = Some (queue, call)
queue_call_of (QueueSet queue_set call) = None
queue_call_of (Stream stream call) = None
queue_call_of (Message message call) = None
queue_call_of (Group group call) = None
queue_call_of (Notify call) = None

pub record IsScript (app : Application) (script : TaskScript) : Type 0 where
  pub priority : script.priority ≤ MAX_PRIORITY
  pub some : 0 < length script.code
  pub few : length script.code ≤ MAX_CODE
  pub within : All (IsWithin app (length script.code)) script.code
  pub ends : is_final (slice_index_or script.code (length script.code - 1) (Local local.End)) ≡ true

pub record IsApplication (app : Application) : Type 0 where
  pub some_cores : 0 < app.cores
  pub few_cores : app.cores ≤ max_cores app.profile
  pub some_entries : 0 < app.entries
  pub few_entries : app.entries ≤ MAX_ENTRIES
  pub tick : app.tick < 2 ^ 32
  pub objects : AreObjects app.objects
  pub some_tasks : 0 < length app.tasks
  pub few_tasks : length app.tasks ≤ MAX_TASKS
  pub tasks : All (IsScript app) app.tasks
