-- What one may count on, whatever is asked by whom.
use Rattle.std.specs.Prelude.{ℕ, ◌≡◌, ◌≢◌, ◌<◌, ◌≤◌, List, None, length, slice_get}
use Rattle.rd_refusal.specs.declared.refusal.Refusal.{Refusal}
use Rattle.rd_moves.specs.Moves.{PlainMove}
use Rattle.rd_moves.specs.declared.request.Request.TheVariants.{Go, Back, Trim}
use Rattle.rd_command.specs.Commands.{CommandView}
use Rattle.rd_command.specs.declared.view.Overview.TheVariants as overview
use Rattle.rd_command.specs.declared.view.View.{View}
use Rattle.rd_command.specs.declared.view.View.TheVariants.{Overview}
use Rattle.rd_desk.specs.declared.entry.HistoryEntry.{HistoryEntry}
use Rattle.rd_desk.specs.declared.entry.Event.{Event}
use Rattle.rd_desk.specs.declared.entry.Receipt.{Receipt}
use Rattle.rd_desk.specs.Debugger.{Debugger, own_watches, target_of, watching}
use Rattle.rd_desk.specs.DeskView.{DeskView, Does}
use Rattle.rd_desk.specs.Legal.{IsLegal}
use Rattle.rd_desk.specs.Serving.{after_command, after_request, refused, reply_of}
use Rattle.rd_desk.specs.Serving.{reply_to_command, reply_to_request, served, view_of}
use Rattle.rd_desk.specs.Serving.{MayAct}
use Rattle.rd_desk.specs.Sessions.{IsPresent, WatchesView}
use Rattle.rd_desk.specs.Wheel.{holder_after}

-- A refused command changes nothing: no move done or undone, no base, no wheel and no watch, so no
-- target.
abbrev pub RefusedCommandsChangeNothing : Type 0
RefusedCommandsChangeNothing =
    (d : Debugger) (who : ℕ) (command : CommandView) (refusal : Refusal)
    → reply_to_command d who command ≡ refused refusal → after_command d who command ≡ d

-- Taking back a move that was made, an edit or an interrupt among them, gives back the whole target
-- before it, whatever was trimmed before. It was made if it wasn't refused.
abbrev pub BackGivesTheTargetBack : Type 0
BackGivesTheTargetBack =
    (d : Debugger) (move : PlainMove) → d.moves.base ≤ length d.moves.done
    → ((refusal : Refusal) → reply_to_request d (Go move) ≢ refused refusal)
    → target_of (after_request (after_request d (Go move)) (Back 1)) ≡ target_of d

-- Trimming is seen in `show moves`, and in nothing else that is shown.
abbrev pub TrimmingIsSeenInMovesAlone : Type 0
TrimmingIsSeenInMovesAlone =
    (d : Debugger) (who keep : ℕ) (view : View) → view ≢ Overview overview.Moves
    → view_of (after_request d (Trim keep)) who view ≡ view_of d who view

-- Who has the wheel is the last who took it, and neither gave it nor left: the history alone tells.
abbrev pub TheHolderTookTheWheelLast : Type 0
TheHolderTookTheWheelLast =
    (d : Debugger) (history : List HistoryEntry) → IsLegal history d → d.wheel ≡ holder_after None history

-- What a session does leaves the watches of every other as they are.
abbrev pub WatchesAreDroppedByTheirSession : Type 0
WatchesAreDroppedByTheirSession =
    (d : Debugger) (who other : ℕ) (event : Event) → MayAct d who event
    → IsPresent d.sessions other → who ≢ other
    → own_watches (served d who event) other ≡ own_watches d other

-- What is replied to a session is the same whatever the others watch.
abbrev pub WatchesAreSeenByTheirSession : Type 0
WatchesAreSeenByTheirSession =
    (d : Debugger) (who other : ℕ) (watches : WatchesView) (event : Event) → MayAct d who event
    → IsPresent d.sessions other → who ≢ other
    → reply_of (watching d other watches) who event ≡ reply_of d who event

-- No entry of the history is lost or changed.
abbrev pub TheHistoryStays : Type 0
TheHistoryStays =
    (old new : DeskView) (who : ℕ) (event : Event) (receipt : Receipt)
    → Does old who event new receipt
    → (place : ℕ) → place < length old.history
    → slice_get new.history place ≡ slice_get old.history place
