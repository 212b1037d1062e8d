-- The goal of `ChangeList::len` that the check left open.
use Rattle.std.proofs.Common.{◌∙◌, length, ap, sym}
use Rattle.rd_state.specs.PackedChanges.{ChangeListView}
use Rattle.rd_state.proofs.PackingLaws.{length-changes_in}
use Rattle.rd_state.proofs.change_list.ChangeList.len.Goals as goal

pub returns : goal.returns
returns c = sym (length-changes_in c.self.inside.count c.self.inside.bytes.bytes) ∙ ap (λ (l : ChangeListView). length l.changes) c.self.view_is
