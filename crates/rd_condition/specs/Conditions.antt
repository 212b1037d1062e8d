-- Conditions: what each says of a state.
use Rattle.std.specs.Prelude.{ℕ, ◌<◌, Bool, true, false, is_some, length, nat_eq, nat_lt}
use Rattle.std.specs.Prelude.{slice_index, slice_index_or}
use Rattle.rd_app.specs.declared.instr.TheConstants.{REGISTERS}
use Rattle.rd_app.specs.Application.{Application}
use Rattle.rd_notify.specs.Entries.{idle_entry}
use Rattle.rd_state.specs.declared.phase.Phase.{Phase}
use Rattle.rd_state.specs.declared.phase.Phase.TheVariants as phase
use Rattle.rd_state.specs.Phases.{is_first, tries_again, waits_at, was_given}
use Rattle.rd_state.specs.Snapshot.{Snapshot, group_at, message_at, queue_at, stream_at, task_at}
use Rattle.rd_condition.specs.declared.condition.Amount.{Amount}
use Rattle.rd_condition.specs.declared.condition.Amount.TheVariants.{Items, Bytes, Messages, Bits}
use Rattle.rd_condition.specs.declared.condition.Amount.TheVariants.{Register, Pc, Value, Tick}
use Rattle.rd_condition.specs.declared.condition.Comparison.{Comparison}
use Rattle.rd_condition.specs.declared.condition.Comparison.TheVariants.{Equal, Less, Greater}
use Rattle.rd_condition.specs.declared.condition.Condition.{Condition}
use Rattle.rd_condition.specs.declared.condition.Condition.TheVariants.{Compares, InPhase}
use Rattle.rd_condition.specs.declared.condition.PhaseName.{PhaseName}
use Rattle.rd_condition.specs.declared.condition.PhaseName.TheVariants as name

abbrev pub compares : Comparison → ℕ → ℕ → Bool
compares Equal amount bound = nat_eq amount bound
compares Less amount bound = nat_lt amount bound
compares Greater amount bound = nat_lt bound amount

-- Has the script of a task in this phase ended? Did its call fail?
abbrev pub has_ended : Phase → Bool
has_ended phase.Run = false
has_ended (phase.Again deadline) = false
has_ended (phase.Given bits) = false
has_ended (phase.Wait place deadline) = false
has_ended phase.Ended = true
has_ended (phase.Failed cause) = false

abbrev pub has_failed : Phase → Bool
has_failed phase.Run = false
has_failed (phase.Again deadline) = false
has_failed (phase.Given bits) = false
has_failed (phase.Wait place deadline) = false
has_failed phase.Ended = false
has_failed (phase.Failed cause) = true

-- Is the phase called so?
abbrev pub is_named : PhaseName → Phase → Bool
is_named name.Run phase = is_first phase
is_named name.Again phase = tries_again phase
is_named name.Given phase = was_given phase
is_named name.Wait phase = is_some (waits_at phase)
is_named name.Ended phase = has_ended phase
is_named name.Failed phase = has_failed phase

-- how much there is of it
abbrev pub amount_of : Snapshot → Amount → ℕ
amount_of s (Items queue) = length (queue_at s queue).items
amount_of s (Bytes stream) = length (stream_at s stream).bytes
amount_of s (Messages message) = length (message_at s message).messages
amount_of s (Bits group) = (group_at s group).bits
amount_of s (Register task register) = slice_index (task_at s task).registers register
amount_of s (Pc task) = (task_at s task).pc
amount_of s (Value task index) = (slice_index_or (task_at s task).entries index idle_entry).value
amount_of s Tick = s.tick

-- Does the condition hold in the state?
abbrev pub holds : Snapshot → Condition → Bool
holds s (Compares amount comparison bound) = compares comparison (amount_of s amount) bound
holds s (InPhase task name) = is_named name (task_at s task).phase

-- The state has what an amount is of.
abbrev pub HasAmount : Snapshot → Amount → Type 0
HasAmount s (Items queue) = queue < length s.objects.queues
HasAmount s (Bytes stream) = stream < length s.objects.streams
HasAmount s (Messages message) = message < length s.objects.messages
HasAmount s (Bits group) = group < length s.objects.groups
HasAmount s (Register task register) = (task < length s.tasks) × (register < REGISTERS)
HasAmount s (Pc task) = task < length s.tasks
HasAmount s (Value task index) =
    (task < length s.tasks) × (index < length (task_at s task).entries)
HasAmount s Tick = Unit {0}

-- The state has what a condition names.
abbrev pub HasCondition : Snapshot → Condition → Type 0
HasCondition s (Compares amount comparison bound) = HasAmount s amount
HasCondition s (InPhase task name) = task < length s.tasks

-- The condition names what the application has.
abbrev pub IsAmountOf : Application → Amount → Type 0
IsAmountOf app (Items queue) = queue < length app.objects.queues
IsAmountOf app (Bytes stream) = stream < length app.objects.streams
IsAmountOf app (Messages message) = message < length app.objects.messages
IsAmountOf app (Bits group) = group < length app.objects.groups
IsAmountOf app (Register task register) =
    (task < length app.tasks) × (register < REGISTERS)
IsAmountOf app (Pc task) = task < length app.tasks
IsAmountOf app (Value task index) = (task < length app.tasks) × (index < app.entries)
IsAmountOf app Tick = Unit {0}

abbrev pub IsConditionOf : Application → Condition → Type 0
IsConditionOf app (Compares amount comparison bound) = IsAmountOf app amount
IsConditionOf app (InPhase task name) = task < length app.tasks
