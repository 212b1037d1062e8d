-- The goal of `ChangeList::back_to` that the check left open.
use Rattle.std.proofs.Common.{length, ap, arith}
use Rattle.rd_state.specs.PackedChanges.{ChangeListView}
use Rattle.rd_state.proofs.PackingLaws.{length-changes_in}
use Rattle.rd_state.proofs.change_list.ChangeList.back_to.Goals as goal

pub go_back-end-requires-clause-within : goal.go_back-end-requires-clause-within
go_back-end-requires-clause-within c =
    omega (arith, c.requires.within, length-changes_in c.self.inside.count c.self.inside.bytes.bytes, ap (λ (l : ChangeListView). length l.changes) c.self.view_is)
