-- What a contract sees of a history.
use Rattle.std.specs.Prelude.{ℕ, ◌≡◌, ⊤, List, [], IsSome, Some, slice_get}
use Rattle.rd_text.specs.Words.{words_of}
use Rattle.rd_command.specs.Commands.{command_of}
use Rattle.rd_desk.specs.declared.entry.HistoryEntry.{HistoryEntry}
use Rattle.rd_desk.specs.declared.entry.Event.{Event}
use Rattle.rd_desk.specs.declared.entry.Event.TheVariants as event
use Rattle.rd_desk.specs.declared.entry.Receipt.{Receipt}
use Rattle.rd_desk.specs.declared.rows.Deed.{Deed}
use Rattle.rd_desk.specs.declared.rows.Deed.TheVariants.{Enter, Ask, Leave}
use Rattle.rd_desk.specs.declared.reply.DeskReply.{DeskReply}
use Rattle.rd_desk.specs.declared.reply.DeskReply.TheVariants.{Done, Told, Shown}
use Rattle.rd_desk.specs.Asked.{asked_by}

-- the entries, for how many more there is room, and for how many bytes of theirs
pub record HistoryView : Type 0 where
  pub entries : List HistoryEntry
  pub row_room : ℕ
  pub byte_room : ℕ

-- what was done, with the line of the command that was asked for
abbrev pub deed_event : Deed → List ℕ → Event
deed_event Enter line = event.Enter
deed_event Ask line = event.Ask (asked_by line)
deed_event Leave line = event.Leave

-- what was done, but for the line of a command
abbrev pub deed_of : Event → Deed
deed_of event.Enter = Enter
deed_of (event.Ask command) = Ask
deed_of event.Leave = Leave

-- The line is one of a command, if one was asked for.
abbrev pub IsLineOf : Deed → List ℕ → Type 0
IsLineOf Enter line = ⊤
IsLineOf Ask line = IsSome (command_of (words_of line))
IsLineOf Leave line = ⊤

-- The receipt is the entry at its place.
abbrev pub IsEntered : List HistoryEntry → Receipt → Type 0
IsEntered entries receipt = slice_get entries receipt.place ≡ Some receipt.entry

-- the bytes of a reply
abbrev pub reply_bytes : DeskReply → List ℕ
reply_bytes Done = []
reply_bytes (Told told) = []
reply_bytes (Shown text) = text

-- The reply is a view.
abbrev pub IsView : DeskReply → Type 0
IsView Done = ⊥
IsView (Told told) = ⊥
IsView (Shown text) = Unit {0}
