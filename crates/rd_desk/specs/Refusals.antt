-- Refusals for want of a place in the history.
use Rattle.std.specs.Prelude.{◌≡◌, ◌+◌, ◌<◌, ◌≤◌, Bool, true, false, length, ⊤, Result, Ok, Err}
use Rattle.rd_desk.specs.declared.desk.EnterError.{EnterError}
use Rattle.rd_desk.specs.declared.desk.EnterError.TheVariants as enter
use Rattle.rd_desk.specs.declared.desk.NotServed.{NotServed}
use Rattle.rd_desk.specs.declared.desk.NotServed.TheVariants as serve
use Rattle.rd_desk.specs.declared.sessions.TheConstants.{MAX_JOINS}
use Rattle.rd_desk.specs.DeskView.{DeskView, used}
use Rattle.rd_desk.specs.Sessions.{present_count}
use Rattle.rd_desk.specs.TallyView.{TallyView}

-- the numbers of the desk
abbrev pub tally_of : DeskView → TallyView
tally_of d = record {
  entries = length d.history;
  present = present_count d.debugger.sessions;
  limit = d.most_entries;
}

-- One session more may enter: not as many have as may, and two places of the history are free, for
-- its entering and for its departure.
pub record LetsIn (d : DeskView) : Type 0 where
  pub joins : length d.debugger.sessions < MAX_JOINS
  pub free : used d + 2 ≤ d.most_entries

-- Why the desk lets nobody in: as many have entered as may; or else fewer than two places of the
-- history are free; or else there is no memory, and one more might enter but for that.
abbrev pub IsWhyNotLetIn : DeskView → EnterError → Type 0
IsWhyNotLetIn d enter.Full = length d.debugger.sessions ≡ MAX_JOINS
IsWhyNotLetIn d (enter.HistoryFull tally) =
    (tally ≡ tally_of d)
    × (length d.debugger.sessions < MAX_JOINS)
    × (d.most_entries < used d + 2)
IsWhyNotLetIn d enter.NoMemory = LetsIn d

-- what is known of the tally of a refusal, if it has one
abbrev pub IfEnterFull : EnterError → (TallyView → Type 0) → Type 0
IfEnterFull enter.Full P = ⊤
IfEnterFull (enter.HistoryFull tally) P = P tally
IfEnterFull enter.NoMemory P = ⊤

abbrev pub IfServeFull : NotServed → (TallyView → Type 0) → Type 0
IfServeFull (serve.HistoryFull tally) P = P tally
IfServeFull serve.NoMemory P = ⊤
IfServeFull serve.Broken P = ⊤

-- Was there no free place to enter, or for a command?
abbrev pub is_enter_full : {T : Type 0} → Result T EnterError → Bool
is_enter_full (Ok done) = false
is_enter_full (Err enter.Full) = false
is_enter_full (Err (enter.HistoryFull tally)) = true
is_enter_full (Err enter.NoMemory) = false

abbrev pub is_serve_full : {T : Type 0} → Result T NotServed → Bool
is_serve_full (Ok done) = false
is_serve_full (Err (serve.HistoryFull tally)) = true
is_serve_full (Err serve.NoMemory) = false
is_serve_full (Err serve.Broken) = false
