-- Notification entries, and what notifications and their task do to one.
use Rattle.std.specs.Prelude.{ℕ, ◌+◌, ◌-◌, ◌%◌, ◌^◌, Bool, true, false}
use Rattle.std.specs.Prelude.{bit_and, bit_or}
use Rattle.std.specs.Int.{bit_not, w32}
use Rattle.rd_notify.specs.declared.entries.Entry.{Entry}
use Rattle.rd_notify.specs.declared.entries.EntryState.{EntryState}
use Rattle.rd_notify.specs.declared.entries.EntryState.TheVariants.{Idle, Waiting, Received}
use Rattle.rd_notify.specs.declared.action.Action.{Action}
use Rattle.rd_notify.specs.declared.action.Action.TheVariants.{LeaveValue, SetBits, Increment}
use Rattle.rd_notify.specs.declared.action.Action.TheVariants.{Overwrite, WithoutOverwrite}
use Rattle.rd_notify.specs.declared.action.OnExit.{OnExit}
use Rattle.rd_notify.specs.declared.action.OnExit.TheVariants.{Clear, Decrement}

-- how an entry begins: value 0, idle
abbrev pub idle_entry : Entry
idle_entry = record { value = 0; state = Idle }

-- Has something come that its task hasn't taken yet?
abbrev pub has_received : EntryState → Bool
has_received Idle = false
has_received Waiting = false
has_received Received = true

-- the value that an action makes of one, with the value that is sent along (eNotifyAction)
abbrev pub value_notified : Action → ℕ → ℕ → ℕ
value_notified LeaveValue old value = old
value_notified SetBits old value = bit_or old value
value_notified Increment old value = (old + 1) % 2 ^ 32
value_notified Overwrite old value = value
value_notified WithoutOverwrite old value = value

-- Is an entry left alone by an action, so that nothing is overwritten?
abbrev pub is_left_alone : Action → EntryState → Bool
is_left_alone LeaveValue state = false
is_left_alone SetBits state = false
is_left_alone Increment state = false
is_left_alone Overwrite state = false
is_left_alone WithoutOverwrite state = has_received state

-- an entry that a notification has come to
abbrev pub entry_notified : Action → ℕ → Entry → Entry
entry_notified action value entry =
    record { value = value_notified action entry.value value; state = Received }

-- an entry whose task waits for it
abbrev pub entry_waiting : Entry → Entry
entry_waiting entry = record entry { state = Waiting }

-- an entry that its task has looked at
abbrev pub entry_idle : Entry → Entry
entry_idle entry = record entry { state = Idle }

-- what is left of the value that a task takes (xClearCountOnExit)
abbrev pub value_left : OnExit → ℕ → ℕ
value_left Clear value = 0
value_left Decrement value = value - 1

abbrev pub entry_taken : OnExit → Entry → Entry
entry_taken exit entry = record { value = value_left exit entry.value; state = Idle }

-- an entry without these bits of its value
abbrev pub entry_cleared : ℕ → Entry → Entry
entry_cleared bits entry = record entry { value = bit_and entry.value (bit_not w32 bits) }
