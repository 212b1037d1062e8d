-- Tasks that wait for an entry of their own, and how they are told through it.
use Rattle.std.specs.Prelude.{ℕ, ◌∷◌, ◌&&◌, [], Bool, false, List, nat_eq, if◌then◌else◌}
use Rattle.std.specs.Prelude.{Option, None, Some}
use Rattle.std.specs.Option.{option_and_then}
use Rattle.rd_notify.specs.declared.action.Action.{Action}
use Rattle.rd_notify.specs.declared.entries.Entry.{Entry}
use Rattle.rd_notify.specs.Entries.{entry_notified, entry_waiting, is_left_alone}
use Rattle.rd_app.specs.declared.instr.Operand.{Operand}
use Rattle.rd_state.specs.declared.phase.Place.TheVariants as sort
use Rattle.rd_state.specs.Phases.{is_first, waits_at}
use Rattle.rd_state.specs.Snapshot.{Snapshot, task_at}
use Rattle.rd_state.specs.Waiting.{entry_of}
use Rattle.rd_kernel.specs.declared.outcome.Outcome.TheVariants.{Waits}
use Rattle.rd_kernel.specs.declared.waking.Waking.TheVariants.{TriesAgain}
use Rattle.rd_kernel.specs.Outcomes.{Called}
use Rattle.rd_kernel.specs.Tasks.{entry_at, with_entry}
use Rattle.rd_kernel.specs.Waking.{deadline_of, may_wait, woken_all}

-- Does a call wait that waits once alone? It does at its first try, where its block time isn't 0.
abbrev pub waits_once : Snapshot → ℕ → Operand → Bool
waits_once s task wait = is_first (task_at s task).phase && may_wait s task wait

-- a task waits for an entry of its own, which is this one then
abbrev pub waits_for_entry : Snapshot → ℕ → ℕ → Entry → Operand → Called
waits_for_entry s task index entry wait = record {
  state = with_entry s task index (entry_waiting entry);
  outcome = Waits (sort.Entry index) (deadline_of s task wait);
}

-- Is it that entry through which a task is told?
abbrev pub is_that_entry : ℕ → Option ℕ → Bool
is_that_entry index None = false
is_that_entry index (Some other) = nat_eq other index

-- the task, if it waits to be told through its entry
abbrev pub if_waiting_for : Snapshot → ℕ → ℕ → List ℕ
if_waiting_for s task index =
    if is_that_entry index (option_and_then entry_of (waits_at (task_at s task).phase))
    then task ∷ [] else []

-- a task told through its entry, which is this one then: if it waits for that, it is woken
abbrev pub told : List ℕ → Snapshot → ℕ → ℕ → Entry → Snapshot
told priorities s task index entry =
    with_entry (woken_all priorities TriesAgain s (if_waiting_for s task index)) task index entry

-- a notification that comes to an entry of a task, which is taken or leaves all as it is
abbrev pub notified : List ℕ → Snapshot → ℕ → ℕ → Action → ℕ → Snapshot
notified priorities s task index action value =
    if is_left_alone action (entry_at s task index).state then s
    else told priorities s task index (entry_notified action value (entry_at s task index))
