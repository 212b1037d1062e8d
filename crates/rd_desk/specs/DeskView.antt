-- What a contract sees of a desk, and of what a call did to it.
use Rattle.std.specs.Prelude.{ℕ, ◌≡◌, ◌+◌, ◌≤◌, List, [], ◌∷◌, ◌++◌, length, Ok}
use Rattle.rd_app.specs.Application.{Application}
use Rattle.rd_state.specs.Change.{Change}
use Rattle.rd_state.specs.Snapshot.{Snapshot}
use Rattle.rd_timeline.specs.History.{state_after, CanRewind, Retraces}
use Rattle.rd_timeline.specs.Runs.{Moves, kept}
use Rattle.rd_desk.specs.declared.entry.HistoryEntry.{HistoryEntry}
use Rattle.rd_desk.specs.declared.entry.Event.{Event}
use Rattle.rd_desk.specs.declared.entry.Receipt.{Receipt}
use Rattle.rd_desk.specs.declared.sessions.TheConstants.{MAX_JOINS}
use Rattle.rd_desk.specs.Debugger.{Debugger, target_of}
use Rattle.rd_desk.specs.Legal.{IsLegal}
use Rattle.rd_desk.specs.Serving.{MayAct, reply_of, served}
use Rattle.rd_desk.specs.Sessions.{present_count}
use Rattle.rd_desk.specs.Views.{AreNamesOf}

-- the debugger, the records that it holds of the last moves done, how many entries the history may
-- have, and the history
pub record DeskView : Type 0 where
  pub debugger : Debugger
  pub log : List (List Change)
  pub most_entries : ℕ
  pub history : List HistoryEntry

-- a desk, for how many entries more its history has room, and for how many bytes of theirs
pub record RoomedDesk : Type 0 where
  pub desk : DeskView
  pub row_room : ℕ
  pub byte_room : ℕ

-- the places of the history that are taken, or reserved for departures
abbrev pub used : DeskView → ℕ
used d = length d.history + present_count d.debugger.sessions

-- These are the records of the moves done from the base on, one for each. Going back from the state
-- by the last ones, as many as one likes, can be done, and gives the whole state that the moves
-- before them gave.
pub record LeadsBack (app : Application) (moves : Moves) (s : Snapshot)
    (records : List (List Change)) : Type 0 where
  pub base : moves.base ≤ length moves.done
  pub each : length records ≡ kept moves
  pub can : CanRewind s records
  pub back : Retraces app moves.base moves.done records s

-- The history is one of the sequential debugger, and each session that is present has a place for
-- its departure. The moves done, and not undone, give the target from the start, and the
-- records that are held, those of the last ones from the base on, lead back from it. There are as
-- many names as things in it.
pub record IsSound (d : DeskView) : Type 0 where
  pub legal : IsLegal d.history d.debugger
  pub within : used d ≤ d.most_entries
  pub joins : length d.debugger.sessions ≤ MAX_JOINS
  pub leads : state_after d.debugger.app.runs d.debugger.moves.done ≡ Ok (target_of d.debugger)
  pub leads_back : LeadsBack d.debugger.app.runs d.debugger.moves (target_of d.debugger) d.log
  pub paired : AreNamesOf (target_of d.debugger) d.debugger.app.names

-- the entry of an event
abbrev pub entry_of : Debugger → ℕ → Event → HistoryEntry
entry_of d who event = record { who = who; event = event; reply = reply_of d who event }

-- The event was done: just its entry was appended, and the receipt is that entry with its place.
pub record Does (old : DeskView) (who : ℕ) (event : Event) (new : DeskView) (receipt : Receipt)
    : Type 0 where
  pub may : MayAct old.debugger who event
  pub debugger : new.debugger ≡ served old.debugger who event
  pub history : new.history ≡ old.history ++ entry_of old.debugger who event ∷ []
  pub most_entries : new.most_entries ≡ old.most_entries
  pub place : receipt.place ≡ length old.history
  pub entry : receipt.entry ≡ entry_of old.debugger who event
