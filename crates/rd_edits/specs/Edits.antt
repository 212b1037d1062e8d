-- Edits: what each names, when it is one that can be made, and the state that it leaves.
use Rattle.std.specs.Prelude.{ℕ, ◌<◌, ◌≤◌, ◌^◌, ◌&&◌, Bool, true, List, length, nat_eq, nat_le}
use Rattle.std.specs.Prelude.{nat_lt, slice_set}
use Rattle.rd_bytes.specs.declared.bytes.TheConstants.{MAX_BYTES}
use Rattle.rd_group.specs.declared.wish.TheConstants.{MAX_BITS}
use Rattle.rd_queue.specs.Queues.{with_items}
use Rattle.rd_stream.specs.Streams.{with_stream_bytes}
use Rattle.rd_app.specs.Application.{Application, code_of}
use Rattle.rd_app.specs.declared.instr.TheConstants.{REGISTERS}
use Rattle.rd_state.specs.Phases.{is_first}
use Rattle.rd_state.specs.Snapshot.{Snapshot, group_at, items_at, queue_at, stream_at, task_at}
use Rattle.rd_state.specs.Snapshot.{with_bits_at, with_queue, with_stream}
use Rattle.rd_kernel.specs.Costs.{data_cost, item_cost}
use Rattle.rd_kernel.specs.Tasks.{entry_at, with_bytes, with_entry, with_pc, with_register}
use Rattle.rd_kernel.specs.Tasks.{HasEntry}
use Rattle.rd_moves.specs.Edits.{PlainEdit}
use Rattle.rd_moves.specs.declared.edit.Edit.TheVariants.{Register, Data, Pc, Value}
use Rattle.rd_moves.specs.declared.edit.Edit.TheVariants.{Bits, Item, Byte}

-- ---- what an edit names

-- The state has the task, with its register or its entry, or the object.
abbrev pub IsEditAt : Snapshot → PlainEdit → Type 0
IsEditAt s (Register task register value) = (task < length s.tasks) × (register < REGISTERS)
IsEditAt s (Data task bytes) = task < length s.tasks
IsEditAt s (Pc task pc) = task < length s.tasks
IsEditAt s (Value task index value) = HasEntry s task index
IsEditAt s (Bits group bits) = group < length s.objects.groups
IsEditAt s (Item queue index bytes) = queue < length s.objects.queues
IsEditAt s (Byte stream index value) = stream < length s.objects.streams

-- ---- which edits can be made

-- A task goes on elsewhere only while it is in no call.
abbrev pub is_good_pc : Application → Snapshot → ℕ → ℕ → Bool
is_good_pc app s task pc = is_first (task_at s task).phase && nat_lt pc (length (code_of app task))

-- There is such an item, and the bytes are as many as it has.
abbrev pub is_good_item : Snapshot → ℕ → ℕ → ℕ → Bool
is_good_item s queue index count =
    nat_lt index (length (items_at s queue)) && nat_eq count (queue_at s queue).item_size

-- There is such a byte, and the value is one of a byte.
abbrev pub is_good_byte : Snapshot → ℕ → ℕ → ℕ → Bool
is_good_byte s stream index value =
    nat_lt index (length (stream_at s stream).bytes) && nat_le value 255

-- Can an edit be made? Else it is refused as a bad one.
abbrev pub is_good_edit : Application → Snapshot → PlainEdit → Bool
is_good_edit app s (Register task register value) = true
is_good_edit app s (Data task bytes) = true
is_good_edit app s (Pc task pc) = is_good_pc app s task pc
is_good_edit app s (Value task index value) = true
is_good_edit app s (Bits group bits) = nat_le bits MAX_BITS
is_good_edit app s (Item queue index bytes) = is_good_item s queue index (length bytes)
is_good_edit app s (Byte stream index value) = is_good_byte s stream index value

-- ---- what an edit does

-- the state with another value of an entry, which keeps its state
abbrev pub with_value : Snapshot → ℕ → ℕ → ℕ → Snapshot
with_value s task index value =
    with_entry s task index (record (entry_at s task index) { value = value })

-- the state with another item in the place of one of a queue
abbrev pub with_item_at : Snapshot → ℕ → ℕ → List ℕ → Snapshot
with_item_at s queue index bytes =
    with_queue s queue (with_items (queue_at s queue) (slice_set (items_at s queue) index bytes))

-- the state with another byte in the place of one of a stream buffer
abbrev pub with_byte_at : Snapshot → ℕ → ℕ → ℕ → Snapshot
with_byte_at s stream index value =
    with_stream s stream
    (with_stream_bytes (stream_at s stream) (slice_set (stream_at s stream).bytes index value))

-- the state after an edit
abbrev pub edited : Snapshot → PlainEdit → Snapshot
edited s (Register task register value) = with_register s task register value
edited s (Data task bytes) = with_bytes s task bytes
edited s (Pc task pc) = with_pc s task pc
edited s (Value task index value) = with_value s task index value
edited s (Bits group bits) = with_bits_at s group bits
edited s (Item queue index bytes) = with_item_at s queue index bytes
edited s (Byte stream index value) = with_byte_at s stream index value

-- what an edit takes in a record at the most: one change, and the bytes that were there
abbrev pub edit_cost : PlainEdit → ℕ
edit_cost (Register task register value) = 1
edit_cost (Data task bytes) = data_cost
edit_cost (Pc task pc) = 1
edit_cost (Value task index value) = 1
edit_cost (Bits group bits) = 1
edit_cost (Item queue index bytes) = item_cost
edit_cost (Byte stream index value) = 1
