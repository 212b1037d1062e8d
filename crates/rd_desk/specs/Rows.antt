-- What a contract sees of rows.
use Rattle.std.specs.Prelude.{ℕ, ◌≡◌, ◌≤◌, List, Option, None, Some}
use Rattle.rd_desk.specs.declared.entry.HistoryEntry.{HistoryEntry}
use Rattle.rd_desk.specs.declared.entry.Noted.{Noted}
use Rattle.rd_desk.specs.declared.entry.Receipt.{Receipt}

-- what they hold, for how many more there is room, and for how many bytes of theirs
pub record RowsView : Type 0 where
  pub noted : List Noted
  pub row_room : ℕ
  pub byte_room : ℕ

-- the entry of whom the number names
abbrev pub entry_noted : Noted → HistoryEntry
entry_noted noted = record { who = noted.number; event = noted.event; reply = noted.reply }

-- a session's receipt at the place that the number names
abbrev pub receipt_of : ℕ → Noted → Receipt
receipt_of who noted = record {
  place = noted.number;
  entry = record { who = who; event = noted.event; reply = noted.reply };
}

-- Both are there, and the same was done and replied.
abbrev pub AreSame : Option Noted → Option Noted → Type 0
AreSame None other = ⊥
AreSame (Some one) None = ⊥
AreSame (Some one) (Some other) = (one.event ≡ other.event) × (one.reply ≡ other.reply)

-- They hold the same, and have no less room.
pub record HasNoLess (old new : RowsView) : Type 0 where
  pub noted : new.noted ≡ old.noted
  pub rows : old.row_room ≤ new.row_room
  pub bytes : old.byte_room ≤ new.byte_room
