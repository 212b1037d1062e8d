-- Tasks that wait as the reader or the writer of a buffer, how they try again, and how their
-- waiting is completed.
use Rattle.std.specs.Prelude.{ℕ, ◌<◌, Bool, false, List, length, nat_eq, if◌then◌else◌}
use Rattle.std.specs.Prelude.{Option, None, Some}
use Rattle.rd_notify.specs.declared.action.Action.TheVariants.{LeaveValue}
use Rattle.rd_notify.specs.Entries.{entry_idle, entry_waiting}
use Rattle.rd_stream.specs.declared.side.Side.{Side}
use Rattle.rd_stream.specs.declared.side.Side.TheVariants.{Reader, Writer}
use Rattle.rd_app.specs.declared.instr.Operand.{Operand}
use Rattle.rd_state.specs.declared.phase.Cause.{Cause}
use Rattle.rd_state.specs.declared.phase.Cause.TheVariants.{TwoReaders, TwoWriters}
use Rattle.rd_state.specs.declared.phase.Held.{Held}
use Rattle.rd_state.specs.declared.phase.Place.TheVariants as sort
use Rattle.rd_state.specs.Phases.{tries_again}
use Rattle.rd_state.specs.Snapshot.{Snapshot, task_at}
use Rattle.rd_state.specs.Waiting.{held_side, holder_at, with_holder}
use Rattle.rd_kernel.specs.declared.outcome.Outcome.TheVariants.{Fails, Waits}
use Rattle.rd_kernel.specs.Outcomes.{Called}
use Rattle.rd_kernel.specs.Tasks.{entry_at, with_entry}
use Rattle.rd_kernel.specs.Telling.{notified}
use Rattle.rd_kernel.specs.Waking.{deadline_of, ReadyHasRoom}

-- why a task fails that is to wait at a side where another does
abbrev pub cause_of_side : Side → Cause
cause_of_side Reader = TwoReaders
cause_of_side Writer = TwoWriters

-- Does a place that names this one, or nobody, name the task?
abbrev pub is_named : ℕ → Option ℕ → Bool
is_named task None = false
is_named task (Some holder) = nat_eq holder task

-- the state with the task's name gone from the place, if it stood there
abbrev pub name_gone : Snapshot → Held → ℕ → Snapshot
name_gone s held task = if is_named task (holder_at s held) then with_holder s held None else s

-- So begins a call that is tried again: the place doesn't name its task any more, whose entry 0 is
-- idle.
abbrev pub come_back : Snapshot → ℕ → Held → Snapshot
come_back s task held =
    if tries_again (task_at s task).phase
    then with_entry (name_gone s held task) task 0 (entry_idle (entry_at s task 0))
    else s

-- A task is to wait in a place that names this one, or nobody. Where it names nobody, the task's
-- name is put in, and its entry 0 waits. Where it names another, the call fails, and so does the
-- task.
abbrev pub waits_where : Option ℕ → Snapshot → ℕ → Held → Operand → Called
waits_where None s task held wait = record {
  state = with_entry (with_holder s held (Some task)) task 0 (entry_waiting (entry_at s task 0));
  outcome = Waits (sort.Held held) (deadline_of s task wait);
}
waits_where (Some other) s task held wait =
    record { state = s; outcome = Fails (cause_of_side (held_side held)) }

abbrev pub waits_held : Snapshot → ℕ → Held → Operand → Called
waits_held s task held wait = waits_where (holder_at s held) s task held wait

-- Whoever is named by a place is notified through entry 0, which keeps its value, and isn't named
-- any more.
abbrev pub completed_for : Option ℕ → List ℕ → Snapshot → Held → Snapshot
completed_for None priorities s held = s
completed_for (Some task) priorities s held =
    with_holder (notified priorities s task 0 LeaveValue 0) held None

abbrev pub completed : List ℕ → Snapshot → Held → Snapshot
completed priorities s held = completed_for (holder_at s held) priorities s held

-- What completing relies on: the ready list has room, and each task has an entry 0.
pub record CanComplete (s : Snapshot) : Type 0 where
  pub room : ReadyHasRoom s
  pub entries : (task : ℕ) → task < length s.tasks → 0 < length (task_at s task).entries
