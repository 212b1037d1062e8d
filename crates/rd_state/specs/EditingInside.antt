-- What the fields of `Editing` stand for.
use Rattle.std.specs.Prelude.{◌≡◌, ◌≤◌, true, length, drop}
use Rattle.rd_state.specs.declared.editing.Editing.TheInside.{Inside}
use Rattle.rd_state.specs.EditingView.{EditingView, IsCalmSince, editing_of}
use Rattle.rd_state.specs.Undoing.{CanUndo}

abbrev pub editing_in : Inside → EditingView
editing_in e = editing_of e.state e.changes e.start e.was_calm e.calm

pub record IsEditing (e : Inside) : Type 0 where
  pub within : e.start ≤ length e.changes.changes
  pub can_undo : CanUndo e.state (drop e.start e.changes.changes)
  pub calm_since : e.calm ≡ true → IsCalmSince (editing_in e).outset e.state
