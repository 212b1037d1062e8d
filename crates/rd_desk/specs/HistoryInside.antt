-- The history that the field of a `History` stands for.
use Rattle.std.specs.Prelude.{map}
use Rattle.rd_desk.specs.declared.history.History.TheInside.{Inside}
use Rattle.rd_desk.specs.HistoryView.{HistoryView}
use Rattle.rd_desk.specs.Rows.{entry_noted}

abbrev pub history_of : Inside → HistoryView
history_of h = record {
  entries = map entry_noted h.rows.noted;
  row_room = h.rows.row_room;
  byte_room = h.rows.byte_room;
}
