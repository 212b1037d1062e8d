-- What moves take in a record at the most: changes, and the bytes that they carry.
use Rattle.std.specs.Prelude.{ℕ, ◌+◌}
use Rattle.rd_bytes.specs.declared.bytes.TheConstants.{MAX_BYTES}
use Rattle.rd_queue.specs.declared.item.TheConstants.{MAX_ITEM_SIZE}

-- a task's data replaced: the change, and the data from before
abbrev pub data_cost : ℕ
data_cost = 1 + MAX_BYTES

-- an item that leaves its queue
abbrev pub item_cost : ℕ
item_cost = 1 + MAX_ITEM_SIZE

-- a task woken: its place, its phase, and the ready list
abbrev pub waking_cost : ℕ
waking_cost = 3

-- a task told through its entry: it may be woken, and the entry
abbrev pub telling_cost : ℕ
telling_cost = waking_cost + 1

-- a call that returns: its value, its phase and its next instruction
abbrev pub returning_cost : ℕ
returning_cost = 3

-- what becomes of a caller: at the most it gets a second value too
abbrev pub ending_cost : ℕ
ending_cost = returning_cost + 1

-- a task that begins to wait as a reader or writer: its name in the place, and its entry
abbrev pub beginning_cost : ℕ
beginning_cost = 2

-- one that tries again: the same, undone
abbrev pub coming_back_cost : ℕ
coming_back_cost = 2

-- a reader or writer whose wait is completed: it is told, and its name goes
abbrev pub completing_cost : ℕ
completing_cost = telling_cost + 1
