-- What the fields of `Rows` stand for.
use Rattle.std.specs.Prelude.{ℕ, zero, suc, ◌≡◌, ◌-◌, ◌≤◌, List, [], ◌∷◌, length}
use Rattle.std.specs.Prelude.{drop, slice_range, take, vec_capacity, vec_len}
use Rattle.rd_desk.specs.declared.entry.Noted.{Noted}
use Rattle.rd_desk.specs.declared.rows.KeptRow.{KeptRow}
use Rattle.rd_desk.specs.declared.rows.Rows.TheInside.{Inside}
use Rattle.rd_desk.specs.HistoryView.{deed_event, IsLineOf}
use Rattle.rd_desk.specs.Kept.{kept_of, line_end_of, reply_kept, wide}
use Rattle.rd_desk.specs.declared.kept.Kept.{Kept}
use Rattle.rd_desk.specs.Rows.{RowsView}

-- where the bytes of a row end
abbrev pub row_end : KeptRow → ℕ
row_end row = wide row.low_end row.high_end

-- what it keeps of a reply
abbrev pub row_kept : KeptRow → Kept
row_kept row = kept_of row.kind row.first row.second row.third

-- where the line ends of a row that begins there
abbrev pub line_end : ℕ → KeptRow → ℕ
line_end start row = line_end_of start (row_end row) (row_kept row)

-- what stands in a row that begins there
abbrev pub noted_in : List ℕ → ℕ → KeptRow → Noted
noted_in bytes start row = record {
  number = row.number;
  event = deed_event row.deed (slice_range bytes start (line_end start row));
  reply = reply_kept (row_kept row) (slice_range bytes (line_end start row) (row_end row));
}

-- how many bytes its line has, of all its bytes
abbrev pub line_size : KeptRow → List ℕ → ℕ
line_size row bytes = line_end_of 0 (length bytes) (row_kept row)

-- what stands in a row that has these bytes
abbrev pub noted_by : KeptRow → List ℕ → Noted
noted_by row bytes = record {
  number = row.number;
  event = deed_event row.deed (take (line_size row bytes) bytes);
  reply = reply_kept (row_kept row) (drop (line_size row bytes) bytes);
}

-- Its line is there, and is a command's, if one was asked for.
pub record IsPlaced (row : KeptRow) (bytes : List ℕ) : Type 0 where
  pub within : line_size row bytes ≤ length bytes
  pub line : IsLineOf row.deed (take (line_size row bytes) bytes)

-- The same was done and replied.
abbrev pub SaySame : Noted → Noted → Type 0
SaySame one other = (one.event ≡ other.event) × (one.reply ≡ other.reply)

-- the same of rows, each of which begins where the one before ends
abbrev pub noted_from : List ℕ → ℕ → List KeptRow → List Noted
noted_from bytes start [] = []
noted_from bytes start (row ∷ later) =
    noted_in bytes start row ∷ noted_from bytes (row_end row) later

-- where the row at an index begins
abbrev pub start_at : ℕ → List KeptRow → ℕ → ℕ
start_at start rows zero = start
start_at start [] (suc index) = start
start_at start (row ∷ later) (suc index) = start_at (row_end row) later index

-- The bytes of a row are there, and its line is a command's, if one was asked for.
pub record IsRowOf (bytes : List ℕ) (start : ℕ) (row : KeptRow) : Type 0 where
  pub ends : row_end row ≤ length bytes
  pub middles : line_end start row ≤ row_end row
  pub starts : start ≤ line_end start row
  pub line : IsLineOf row.deed (slice_range bytes start (line_end start row))

-- The same of each row, and the last one ends where the bytes do.
abbrev pub AreRows : List ℕ → ℕ → List KeptRow → Type 0
AreRows bytes start [] = start ≡ length bytes
AreRows bytes start (row ∷ later) = IsRowOf bytes start row × AreRows bytes (row_end row) later

abbrev pub rows_of : Inside → RowsView
rows_of r = record {
  noted = noted_from r.bytes.items 0 r.rows.items;
  row_room = vec_capacity r.rows - vec_len r.rows;
  byte_room = vec_capacity r.bytes - vec_len r.bytes;
}

-- The rows are there with their bytes.
abbrev pub AreRowsWhole : Inside → Type 0
AreRowsWhole r = AreRows r.bytes.items 0 r.rows.items
