-- What holds of a state between moves, for an application.
use Rattle.std.specs.Prelude.{ℕ, ◌≡◌, ◌+◌, ◌<◌, Bool, true, false, List, length, All}
use Rattle.std.specs.Prelude.{count_by, nat_eq, nat_lt, not, slice_index_or, if◌then◌else◌}
use Rattle.std.specs.Prelude.{Option, Some, None, IsSome, IfSome, option_map}
use Rattle.std.specs.Option.{option_and_then}
use Rattle.rd_notify.specs.declared.entries.Entry.{Entry}
use Rattle.rd_notify.specs.declared.entries.EntryState.{EntryState}
use Rattle.rd_notify.specs.declared.entries.EntryState.TheVariants.{Waiting}
use Rattle.rd_notify.specs.Entries.{idle_entry}
use Rattle.rd_state.specs.declared.phase.Phase.{Phase}
use Rattle.rd_state.specs.Phases.{can_run, is_in_call, kept_deadline, tries_again, waits_at}
use Rattle.rd_state.specs.Phases.{was_given}
use Rattle.rd_app.specs.declared.instr.Instr.{Instr}
use Rattle.rd_app.specs.declared.instr.Instr.TheVariants as instr
use Rattle.rd_app.specs.declared.instr.QueueSetCall.{QueueSetCall}
use Rattle.rd_app.specs.declared.instr.QueueSetCall.TheVariants.{Select}
use Rattle.rd_state.specs.declared.phase.Held.{Held}
use Rattle.rd_state.specs.declared.phase.Held.TheVariants as held
use Rattle.rd_state.specs.declared.phase.Place.{Place}
use Rattle.rd_state.specs.declared.phase.Place.TheVariants as sort
use Rattle.rd_state.specs.declared.phase.Listed.{Listed}
use Rattle.rd_state.specs.declared.phase.Listed.TheVariants.{Queue, QueueSet, Group}
use Rattle.rd_app.specs.Application.{Application, code_of, index_of_call, instr_at, list_of_call}
use Rattle.rd_app.specs.Application.{priorities_of, side_of_message_call, side_of_stream_call}
use Rattle.rd_app.specs.Application.{waits_in_group}
use Rattle.rd_wait.specs.Joined.{IsInOrder}
use Rattle.rd_state.specs.Objects.{AreShaped, ObjectsSnapshot}
use Rattle.rd_state.specs.Snapshot.{Snapshot, task_at}
use Rattle.rd_state.specs.Sizes.{IsSized}
use Rattle.rd_state.specs.Waiting.{entry_of, holder_in, is_by_priority, listed_at, same_list}
use Rattle.rd_state.specs.Waiting.{waiting_at}

-- Numbers and lengths are the application's, and each task stands at an instruction of its script.
pub record InLimits (app : Application) (s : Snapshot) : Type 0 where
  pub sized : IsSized s
  pub cores : length s.cores ≡ app.cores
  pub tasks : length s.tasks ≡ length app.tasks
  pub pcs : (task : ℕ) → task < length s.tasks → (task_at s task).pc < length (code_of app task)
  pub entries : All (λ task. length task.entries ≡ app.entries) s.tasks
  pub objects : AreShaped app s.objects

-- how often a task stands in a list, and on cores
abbrev pub times_in_list : ℕ → List ℕ → ℕ
times_in_list task tasks = count_by (nat_eq task) tasks

abbrev pub is_on : ℕ → Option ℕ → Bool
is_on task None = false
is_on task (Some running) = nat_eq task running

abbrev pub times_on_cores : ℕ → List (Option ℕ) → ℕ
times_on_cores task cores = count_by (is_on task) cores

-- how often a task of this phase stands on a core or in the ready list
abbrev pub times_to_run : Phase → ℕ
times_to_run phase = if can_run phase then 1 else 0

-- A task that can run is on one core or once in the ready list, not both; any other is in neither.
abbrev pub LinedUpOnce : Snapshot → Type 0
LinedUpOnce s =
    (task : ℕ) → task < length s.tasks
    → times_in_list task s.ready + times_on_cores task s.cores ≡ times_to_run (task_at s task).phase

-- the list in which a task of this phase waits, if one has it
abbrev pub waits_in : Phase → Option Listed
waits_in phase = option_and_then listed_at (waits_at phase)

-- how often it stands in a list
abbrev pub is_in_list : Listed → Option Listed → Bool
is_in_list list None = false
is_in_list list (Some other) = same_list list other

abbrev pub times_waiting_in : Listed → Phase → ℕ
times_waiting_in list phase = if is_in_list list (waits_in phase) then 1 else 0

-- A task stands in each list as often as its phase says.
abbrev pub WaitsInLists : Snapshot → Type 0
WaitsInLists s =
    (list : Listed) (task : ℕ) → task < length s.tasks
    → times_in_list task (waiting_at s list) ≡ times_waiting_in list (task_at s task).phase

-- the place where a task waits for a call of a set
abbrev pub place_of_queue_set_call : ℕ → QueueSetCall → Option Place
place_of_queue_set_call queue_set (Select wait) = Some (sort.Listed (QueueSet queue_set))

-- the place where a task waits for an instruction, if that is a call with a block time
abbrev pub place_of_call : Instr → Option Place
place_of_call (instr.Local instr) = None
place_of_call (instr.Queue queue call) =
    option_map (λ list. sort.Listed (Queue queue list)) (list_of_call call)
place_of_call (instr.QueueSet queue_set call) = place_of_queue_set_call queue_set call
place_of_call (instr.Stream stream call) =
    option_map (λ side. sort.Held (held.Stream stream side)) (side_of_stream_call call)
place_of_call (instr.Message message call) =
    option_map (λ side. sort.Held (held.Message message side)) (side_of_message_call call)
place_of_call (instr.Group group call) =
    if waits_in_group call then Some (sort.Listed (Group group)) else None
place_of_call (instr.Notify call) = option_map sort.Entry (index_of_call call)

-- Is the place in an event group's list, which is in the order of arrival?
abbrev pub is_in_group : Option Place → Bool
is_in_group None = false
is_in_group (Some (sort.Listed list)) = not (is_by_priority list)
is_in_group (Some (sort.Held held)) = false
is_in_group (Some (sort.Entry index)) = false

-- A task that waits stands at the call of its place. One that tries again stands at a call with a
-- block time, and one that was given bits at a call that waits at an event group.
abbrev pub FitsCall : Instr → Option Place → Bool → Bool → Type 0
FitsCall instr (Some place) again given = place_of_call instr ≡ Some place
FitsCall instr None true given = IsSome (place_of_call instr)
FitsCall instr None false true = is_in_group (place_of_call instr) ≡ true
FitsCall instr None false false = Unit {0}

abbrev pub PhaseFitsCall : Phase → Instr → Type 0
PhaseFitsCall phase instr =
    FitsCall instr (waits_at phase) (tries_again phase) (was_given phase)

abbrev pub PhasesFitScripts : Application → Snapshot → Type 0
PhasesFitScripts app s =
    (task : ℕ) → task < length s.tasks
    → PhaseFitsCall (task_at s task).phase (instr_at app task (task_at s task).pc)

-- Is a deadline none, or a tick to come?
abbrev pub is_ahead : ℕ → Option ℕ → Bool
is_ahead tick None = true
is_ahead tick (Some deadline) = nat_lt tick deadline

-- A task waits for as long as its deadline is ahead.
abbrev pub HasTimeLeft : ℕ → Phase → Type 0
HasTimeLeft tick phase =
    IfSome (waits_at phase) (λ place. is_ahead tick (kept_deadline phase) ≡ true)

abbrev pub WaitersHaveTimeLeft : Snapshot → Type 0
WaitersHaveTimeLeft s =
    (task : ℕ) → task < length s.tasks → HasTimeLeft s.tick (task_at s task).phase

-- Each list of tasks is in priority order, but for those of event groups.
pub record ListsInOrder (priorities : List ℕ) (s : Snapshot) : Type 0 where
  pub ready : IsInOrder priorities s.ready
  pub waiting : (list : Listed) → is_by_priority list ≡ true
      → IsInOrder priorities (waiting_at s list)

-- the entry through which a call waits, if it waits through one
abbrev pub entry_of_call : Instr → Option ℕ
entry_of_call instr = option_and_then entry_of (place_of_call instr)

abbrev pub state_of_entry : List Entry → ℕ → EntryState
state_of_entry entries index = (slice_index_or entries index idle_entry).state

-- An entry is waiting only while its task is in a call that waits through it, woken or not. It is
-- waiting for as long as the task isn't woken.
pub record EntriesFitCall (phase : Phase) (instr : Instr) (entries : List Entry) : Type 0 where
  pub in_call : (index : ℕ) → state_of_entry entries index ≡ Waiting
      → (entry_of_call instr ≡ Some index) × (is_in_call phase ≡ true)
  pub while_waiting : (index : ℕ) → option_and_then entry_of (waits_at phase) ≡ Some index
      → state_of_entry entries index ≡ Waiting

abbrev pub EntriesFitScripts : Application → Snapshot → Type 0
EntriesFitScripts app s =
    (task : ℕ) → task < length s.tasks
    → EntriesFitCall (task_at s task).phase (instr_at app task (task_at s task).pc)
    (task_at s task).entries

-- A place of a buffer that names a task: it is in the call that waits there, woken or not. Whoever
-- waits there is named.
pub record HoldersFitCall (o : ObjectsSnapshot) (task : ℕ) (phase : Phase) (instr : Instr)
    : Type 0 where
  pub named : (held : Held) → holder_in o held ≡ Some task
      → (place_of_call instr ≡ Some (sort.Held held)) × (is_in_call phase ≡ true)
  pub names : (held : Held) → waits_at phase ≡ Some (sort.Held held)
      → holder_in o held ≡ Some task

abbrev pub HoldersFitScripts : Application → Snapshot → Type 0
HoldersFitScripts app s =
    (task : ℕ) → task < length s.tasks
    → HoldersFitCall s.objects task (task_at s task).phase
    (instr_at app task (task_at s task).pc)

pub record IsValid (app : Application) (s : Snapshot) : Type 0 where
  pub in_limits : InLimits app s
  pub lined_up_once : LinedUpOnce s
  pub waiting_lists : ListsInOrder (priorities_of app) s
  pub places : WaitsInLists s
  pub calls : PhasesFitScripts app s
  pub deadlines : WaitersHaveTimeLeft s
  pub entries : EntriesFitScripts app s
  pub holders : HoldersFitScripts app s
