-- The sessions of a debugger, and their watches.
use Rattle.std.specs.Prelude.{ℕ, ◌-◌, ◌<◌, List, [], is_some, IsSome, replicate}
use Rattle.std.specs.Prelude.{Option, None, count_by, slice_index_or, slice_set, unwrap_or, Some}
use Rattle.std.specs.Prelude.{All, IfSome, ◌≡◌, ◌++◌, ◌∷◌, length, sum_by}
use Rattle.rd_app.specs.Application.{Application}
use Rattle.rd_command.specs.declared.binding.TheConstants.{MAX_WATCHES}
use Rattle.rd_condition.specs.declared.condition.Condition.{Condition}
use Rattle.rd_condition.specs.Conditions.{IsConditionOf}

-- ---- watches

-- the watches of a session, by their numbers; where there is none, the number is free
abbrev pub WatchesView : Type 0
WatchesView = List (Option Condition)

abbrev pub no_watches : WatchesView
no_watches = replicate MAX_WATCHES None

-- the condition of the watch with that number, if there is one
abbrev pub watch_at : WatchesView → ℕ → Option Condition
watch_at watches number = slice_index_or watches number None

-- ---- sessions

-- of each session that has entered, in the order of their numbers, which begin with 1: its watches,
-- or nothing where it has left
abbrev pub SessionsView : Type 0
SessionsView = List (Option WatchesView)

-- the watches of a session, if it is present
abbrev pub session_at : SessionsView → ℕ → Option WatchesView
session_at sessions who = slice_index_or sessions (who - 1) None

-- The session has entered, and not left.
pub record IsPresent (sessions : SessionsView) (who : ℕ) : Type 0 where
  pub numbered : 0 < who
  pub there : IsSome (session_at sessions who)

-- how many sessions are present
abbrev pub present_count : SessionsView → ℕ
present_count sessions = count_by is_some sessions

-- the watches of a session that is present
abbrev pub watches_of : SessionsView → ℕ → WatchesView
watches_of sessions who = unwrap_or (session_at sessions who) []

-- how many watches a session keeps, if it is present
abbrev pub kept_by : Option WatchesView → ℕ
kept_by None = 0
kept_by (Some watches) = count_by is_some watches

-- how many watches the sessions that are present keep together
abbrev pub watch_count : SessionsView → ℕ
watch_count sessions = sum_by kept_by sessions

-- one session more, without watches
abbrev pub joined : SessionsView → SessionsView
joined sessions = sessions ++ Some no_watches ∷ []

-- the sessions where one has other watches
abbrev pub with_watches : SessionsView → ℕ → WatchesView → SessionsView
with_watches sessions who watches = slice_set sessions (who - 1) (Some watches)

-- the sessions where one has left
abbrev pub without : SessionsView → ℕ → SessionsView
without sessions who = slice_set sessions (who - 1) None

-- A session has a place for each number of a watch, and its watches name what the application has.
pub record AreWatchesOf (app : Application) (watches : WatchesView) : Type 0 where
  pub numbers : length watches ≡ MAX_WATCHES
  pub named : All (λ watch. IfSome watch (IsConditionOf app)) watches

abbrev pub AreSessionsOf : Application → SessionsView → Type 0
AreSessionsOf app sessions = All (λ session. IfSome session (AreWatchesOf app)) sessions
