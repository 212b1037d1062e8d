-- Block times: tasks that begin to wait, and tasks that are woken.
use Rattle.std.specs.Prelude.{ℕ, ◌≡◌, zero, suc, ◌+◌, ◌<◌, ◌≤◌, ◌++◌, ◌∷◌, ◌&&◌}
use Rattle.std.specs.Prelude.{[], Bool, true, List, is_some}
use Rattle.std.specs.Prelude.{length, nat_eq, nat_lt, not, position, remove, slice_get}
use Rattle.std.specs.Prelude.{if◌then◌else◌, IsSome, Option, None, Some}
use Rattle.std.specs.List.{fold}
use Rattle.std.specs.Option.{option_to_list}
use Rattle.rd_group.specs.declared.wish.TheConstants.{MAX_BITS}
use Rattle.rd_app.specs.declared.instr.Operand.{Operand}
use Rattle.rd_app.specs.declared.instr.Operand.TheVariants.{Number, Register}
use Rattle.rd_state.specs.declared.phase.Phase.{Phase}
use Rattle.rd_state.specs.declared.phase.Phase.TheVariants.{Again, Given}
use Rattle.rd_state.specs.declared.phase.Listed.{Listed}
use Rattle.rd_state.specs.declared.phase.Place.{Place}
use Rattle.rd_state.specs.declared.phase.Place.TheVariants as sort
use Rattle.rd_app.specs.Application.{Application, max_delay}
use Rattle.rd_wait.specs.Joined.{joined}
use Rattle.rd_state.specs.Phases.{is_first, kept_deadline, waits_at}
use Rattle.rd_state.specs.Snapshot.{Snapshot, task_at}
use Rattle.rd_state.specs.Objects.{ObjectsSnapshot}
use Rattle.rd_state.specs.Valid.{is_ahead, IsValid}
use Rattle.rd_state.specs.Waiting.{HasList, objects_then, waiting_at, waiting_in, wishes_in}
use Rattle.rd_state.specs.Waiting.{with_waiting_at}
use Rattle.rd_kernel.specs.declared.waking.Waking.{Waking}
use Rattle.rd_kernel.specs.declared.waking.Waking.TheVariants.{IsGiven, TriesAgain}
use Rattle.rd_kernel.specs.Tasks.{register_at, with_phase}

-- the number that an operand stands for
abbrev pub operand_value : Snapshot → ℕ → Operand → ℕ
operand_value s task (Number value) = value
operand_value s task (Register register) = register_at s task register

-- the deadline of a block time that begins at a tick
abbrev pub deadline_after : ℕ → ℕ → Option ℕ
deadline_after tick time = if nat_eq time max_delay then None else Some (tick + time)

-- A block time is read at the first try alone. Whoever tries again has the deadline of then.
abbrev pub deadline_of : Snapshot → ℕ → Operand → Option ℕ
deadline_of s task wait =
    if is_first (task_at s task).phase
    then deadline_after s.tick (operand_value s task wait)
    else kept_deadline (task_at s task).phase

-- A call may wait as long as its deadline is ahead. The deadline of the block time 0 never is.
abbrev pub may_wait : Snapshot → ℕ → Operand → Bool
may_wait s task wait = is_ahead s.tick (deadline_of s task wait)

-- In the words of a block time: the first try of a call waits exactly where the time isn't 0.
abbrev pub FirstTriesWait : Type 0
FirstTriesWait =
    (s : Snapshot) (task : ℕ) (wait : Operand) → is_first (task_at s task).phase ≡ true
    → may_wait s task wait ≡ nat_lt 0 (operand_value s task wait)

-- the state with the task in a list, after those of at least its priority
abbrev pub with_waiter : List ℕ → Snapshot → Listed → ℕ → Snapshot
with_waiter priorities s list task =
    with_waiting_at s list (joined priorities (waiting_at s list) task) []

-- the objects, once the member at that index of the list has left it
abbrev pub objects_without : ObjectsSnapshot → Listed → Option ℕ → ObjectsSnapshot
objects_without o list None = o
objects_without o list (Some index) =
    objects_then o list (remove (waiting_in o list) index) (remove (wishes_in o list) index)

-- the objects, once the task has left a place: it leaves the list, if it stood there; a buffer's
-- place goes on naming it, and an entry stays as it is
abbrev pub objects_left : ObjectsSnapshot → Place → ℕ → ObjectsSnapshot
objects_left o (sort.Listed list) task =
    objects_without o list (position (λ member. nat_eq member task) (waiting_in o list))
objects_left o (sort.Held held) task = o
objects_left o (sort.Entry index) task = o

abbrev pub left : Snapshot → Place → ℕ → Snapshot
left s place task = record s { objects = objects_left s.objects place task }

-- The ready list has room for one task more.
abbrev pub ReadyHasRoom : Snapshot → Type 0
ReadyHasRoom s = length s.ready < length s.tasks

-- It has, wherever a task waits, and wherever one stands in a list of those who wait.
pub record WaitersLeaveRoom (s : Snapshot) : Type 0 where
  pub anywhere : (task : ℕ) → task < length s.tasks → IsSome (waits_at (task_at s task).phase)
      → ReadyHasRoom s
  pub in_lists : (list : Listed) → HasList s list → 0 < length (waiting_at s list)
      → ReadyHasRoom s

-- Whoever waits isn't ready: in a valid state that leaves room to wake, whoever calls or nobody.
abbrev pub WhoWaitsLeavesRoom : Type 0
WhoWaitsLeavesRoom = (app : Application) (s : Snapshot) → IsValid app s → WaitersLeaveRoom s

-- the phase that a waking leads to
abbrev pub phase_woken : Waking → Phase → Phase
phase_woken TriesAgain phase = Again (kept_deadline phase)
phase_woken (IsGiven bits) phase = Given bits

-- The bits that a waking gives are some that an event group can have.
abbrev pub IsSizedWaking : Waking → Type 0
IsSizedWaking TriesAgain = Unit {0}
IsSizedWaking (IsGiven bits) = bits ≤ MAX_BITS

-- A task that waits leaves its place, is in the phase that its waking leads to, and joins the ready
-- list.
abbrev pub woken_at : List ℕ → Waking → Snapshot → ℕ → Option Place → Snapshot
woken_at priorities waking s task None = s
woken_at priorities waking s task (Some place) =
    record (with_phase (left s place task) task
    (phase_woken waking (task_at s task).phase))
    { ready = joined priorities s.ready task }

abbrev pub woken : List ℕ → Waking → Snapshot → ℕ → Snapshot
woken priorities waking s task = woken_at priorities waking s task (waits_at (task_at s task).phase)

-- these tasks, one after the other
abbrev pub woken_all : List ℕ → Waking → Snapshot → List ℕ → Snapshot
woken_all priorities waking s tasks = fold (woken priorities waking) s tasks

-- the first to be served of a list, if anyone waits there, which tries its call again
abbrev pub woken_first : List ℕ → Snapshot → Listed → Snapshot
woken_first priorities s list =
    woken_all priorities TriesAgain s (option_to_list (slice_get (waiting_at s list) 0))

-- Is it the end of a task's waiting?
abbrev pub is_due : ℕ → Phase → Bool
is_due tick phase = is_some (waits_at phase) && not (is_ahead tick (kept_deadline phase))

-- a task, if its time is up
abbrev pub if_due : Snapshot → ℕ → List ℕ
if_due s task = if is_due s.tick (task_at s task).phase then task ∷ [] else []

-- of the first n tasks, those whose time is up, by rising number
abbrev pub due_below : Snapshot → ℕ → List ℕ
due_below s zero = []
due_below s (suc n) = due_below s n ++ if_due s n

-- They are woken.
abbrev pub timed_out : List ℕ → ℕ → Snapshot → Snapshot
timed_out priorities n s = woken_all priorities TriesAgain s (due_below s n)
