-- What the calls do that notify a task, or look at an entry of one.
use Rattle.std.specs.Prelude.{ℕ, ◌≡◌, ◌&&◌, true, false, List, nat_eq, not, if◌then◌else◌}
use Rattle.rd_notify.specs.declared.action.Action.{Action}
use Rattle.rd_notify.specs.declared.action.OnExit.{OnExit}
use Rattle.rd_notify.specs.declared.entries.Entry.{Entry}
use Rattle.rd_notify.specs.declared.entries.EntryState.{EntryState}
use Rattle.rd_notify.specs.Entries.{entry_cleared, entry_idle, entry_taken, has_received}
use Rattle.rd_notify.specs.Entries.{is_left_alone}
use Rattle.rd_app.specs.declared.instr.NotifyCall.{NotifyCall}
use Rattle.rd_app.specs.declared.instr.NotifyCall.TheVariants.{Notify, Query, Take, Wait}
use Rattle.rd_app.specs.declared.instr.NotifyCall.TheVariants.{ClearState, ClearValue}
use Rattle.rd_app.specs.declared.instr.Operand.{Operand}
use Rattle.rd_state.specs.Phases.{is_first}
use Rattle.rd_state.specs.Snapshot.{Snapshot, task_at}
use Rattle.rd_kernel.specs.Costs.{telling_cost}
use Rattle.rd_kernel.specs.Outcomes.{Called, call_fails, call_gives, call_passes, call_returns}
use Rattle.rd_kernel.specs.Tasks.{entry_at, with_entry}
use Rattle.rd_kernel.specs.Telling.{notified, waits_for_entry, waits_once}
use Rattle.rd_kernel.specs.Waking.{operand_value}

-- pdPASS, or pdFAIL where the entry is left alone
abbrev pub answer_to : Action → EntryState → ℕ
answer_to action state = if is_left_alone action state then 0 else 1

-- xTaskNotifyIndexed: the notification comes to an entry of a task.
abbrev pub notify_outcome : List ℕ → Snapshot → ℕ → ℕ → Action → ℕ → Called
notify_outcome priorities s target index action value =
    call_returns (notified priorities s target index action value)
    (answer_to action (entry_at s target index).state)

-- xTaskNotifyAndQueryIndexed: the same, and r1 becomes the value before.
abbrev pub query_outcome : List ℕ → Snapshot → ℕ → ℕ → Action → ℕ → Called
query_outcome priorities s target index action value =
    call_gives (notified priorities s target index action value)
    (answer_to action (entry_at s target index).state) (entry_at s target index).value

-- ulTaskNotifyTakeIndexed: a value that isn't 0 is taken; for one that is, the task waits once.
abbrev pub take_outcome : Snapshot → ℕ → ℕ → OnExit → Operand → Called
take_outcome s task index exit wait =
    if nat_eq (entry_at s task index).value 0 && waits_once s task wait
    then waits_for_entry s task index (entry_at s task index) wait
    else call_returns (with_entry s task index (entry_taken exit (entry_at s task index)))
    (entry_at s task index).value

-- the entry as xTaskNotifyWaitIndexed looks at it: at the first try, one that has received nothing
-- loses the bits to clear on entry
abbrev pub entry_opened : Snapshot → ℕ → ℕ → ℕ → Entry
entry_opened s task index bits =
    if is_first (task_at s task).phase && not (has_received (entry_at s task index).state)
    then entry_cleared bits (entry_at s task index)
    else entry_at s task index

-- What becomes of it where the task doesn't wait: r1 is its value, and one that has received loses
-- the bits to clear on exit.
abbrev pub entry_closed : Snapshot → ℕ → ℕ → Entry → ℕ → Called
entry_closed s task index entry bits =
    if has_received entry.state
    then call_gives (with_entry s task index (entry_idle (entry_cleared bits entry))) 1 entry.value
    else call_gives (with_entry s task index (entry_idle entry)) 0 entry.value

-- xTaskNotifyWaitIndexed: for an entry that has received nothing, the task waits once.
abbrev pub notify_wait_outcome : Snapshot → ℕ → ℕ → Operand → Operand → Operand → Called
notify_wait_outcome s task index entry_bits exit_bits wait =
    if not (has_received (entry_at s task index).state) && waits_once s task wait
    then waits_for_entry s task index
    (entry_opened s task index (operand_value s task entry_bits)) wait
    else entry_closed s task index (entry_opened s task index (operand_value s task entry_bits))
    (operand_value s task exit_bits)

-- xTaskNotifyStateClearIndexed: an entry that has received is idle.
abbrev pub clear_state_outcome : Snapshot → ℕ → ℕ → Called
clear_state_outcome s target index =
    if has_received (entry_at s target index).state
    then call_passes (with_entry s target index (entry_idle (entry_at s target index)))
    else call_fails s

-- ulTaskNotifyValueClearIndexed: bits of its value are cleared, and the value before is returned.
abbrev pub clear_value_outcome : Snapshot → ℕ → ℕ → ℕ → Called
clear_value_outcome s target index bits =
    call_returns (with_entry s target index (entry_cleared bits (entry_at s target index)))
    (entry_at s target index).value

-- what a call does that notifies a task, or looks at an entry
abbrev pub notify_call_outcome : List ℕ → Snapshot → ℕ → NotifyCall → Called
notify_call_outcome priorities s task (Notify target index value action) =
    notify_outcome priorities s target index action (operand_value s task value)
notify_call_outcome priorities s task (Query target index value action) =
    query_outcome priorities s target index action (operand_value s task value)
notify_call_outcome priorities s task (Take index exit wait) = take_outcome s task index exit wait
notify_call_outcome priorities s task (Wait index entry_bits exit_bits wait) =
    notify_wait_outcome s task index entry_bits exit_bits wait
notify_call_outcome priorities s task (ClearState target index) = clear_state_outcome s target index
notify_call_outcome priorities s task (ClearValue target index bits) =
    clear_value_outcome s target index (operand_value s task bits)

-- What each takes in a record at the most.
abbrev pub notify_call_cost : NotifyCall → ℕ
notify_call_cost (Notify target index value action) = telling_cost
notify_call_cost (Query target index value action) = telling_cost
notify_call_cost (Take index exit wait) = 1
notify_call_cost (Wait index entry_bits exit_bits wait) = 1
notify_call_cost (ClearState target index) = 1
notify_call_cost (ClearValue target index bits) = 1

-- The call leaves the entry alone, or leaves it as it is: it changes nothing.
abbrev pub NotifyCallChangesNothing : Snapshot → ℕ → NotifyCall → Type 0
NotifyCallChangesNothing s task (Notify target index value action) =
    is_left_alone action (entry_at s target index).state ≡ true
NotifyCallChangesNothing s task (Query target index value action) =
    is_left_alone action (entry_at s target index).state ≡ true
NotifyCallChangesNothing s task (Take index exit wait) =
    ((nat_eq (entry_at s task index).value 0 && waits_once s task wait) ≡ false)
    × (entry_taken exit (entry_at s task index) ≡ entry_at s task index)
NotifyCallChangesNothing s task (Wait index entry_bits exit_bits wait) = ⊥
NotifyCallChangesNothing s task (ClearState target index) =
    has_received (entry_at s target index).state ≡ false
NotifyCallChangesNothing s task (ClearValue target index bits) =
    entry_cleared (operand_value s task bits) (entry_at s target index) ≡ entry_at s target index
