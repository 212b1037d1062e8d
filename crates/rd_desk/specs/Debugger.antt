-- The sequential debugger: what it has, and the target that it shows.
use Rattle.std.specs.Prelude.{ℕ, List, Option, None, Some, [], nat_eq, if◌then◌else◌, Bool}
use Rattle.std.specs.Prelude.{false}
use Rattle.rd_names.specs.Apps.{AppView}
use Rattle.rd_state.specs.Change.{Change}
use Rattle.rd_state.specs.Snapshot.{Snapshot}
use Rattle.rd_timeline.specs.Runs.{Moves, state_of}
use Rattle.rd_desk.specs.Sessions.{SessionsView, WatchesView, watches_of, with_watches}

-- the application, how many moves may be done, the moves done from the start and those undone, the
-- session that has the wheel, if one has, and the sessions with their watches
pub record Debugger : Type 0 where
  pub app : AppView
  pub most_moves : ℕ
  pub moves : Moves
  pub wheel : Option ℕ
  pub sessions : SessionsView

-- a debugger, and the records that it holds of the last moves done, from the base on
pub record MachineView : Type 0 where
  pub debugger : Debugger
  pub log : List (List Change)

-- the debugger as it begins
abbrev pub opening : AppView → ℕ → Debugger
opening app most_moves = record {
  app = app;
  most_moves = most_moves;
  moves = record { done = []; undone = []; base = 0 };
  wheel = None;
  sessions = [];
}

-- the target: what the moves done, and not undone, give from the start
abbrev pub target_of : Debugger → Snapshot
target_of d = state_of d.app.runs d.moves

-- ---- the wheel

-- Has the session the wheel?
abbrev pub is_holder : Option ℕ → ℕ → Bool
is_holder None who = false
is_holder (Some holder) who = nat_eq holder who

-- another session that has the wheel, if one has
abbrev pub other_holder : Option ℕ → ℕ → Option ℕ
other_holder None who = None
other_holder (Some holder) who = if nat_eq holder who then None else Some holder

-- who has the wheel once a session has given it or left
abbrev pub freed : Option ℕ → ℕ → Option ℕ
freed wheel who = if is_holder wheel who then None else wheel

-- ---- watches

-- the watches of a session
abbrev pub own_watches : Debugger → ℕ → WatchesView
own_watches d who = watches_of d.sessions who

-- the debugger where a session has other watches
abbrev pub watching : Debugger → ℕ → WatchesView → Debugger
watching d who watches = record d { sessions = with_watches d.sessions who watches }
