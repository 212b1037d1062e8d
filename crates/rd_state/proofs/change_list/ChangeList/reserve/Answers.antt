-- The goals of `ChangeList::reserve` that the check left open.
use Rattle.std.proofs.Common.{ap, arith, length}
use Rattle.rd_state.specs.PackedChanges.{all_packed, ChangeListView}
use Rattle.rd_state.proofs.PackingLaws.{all_packed-changes_in}
use Rattle.rd_state.proofs.change_list.ChangeList.reserve.Goals as goal

pub returns-clause-ok : goal.returns-clause-ok
returns-clause-ok c =
    rw (c.reserve.ensures.bytes, all_packed-changes_in c.self.inside.count c.self.inside.bytes.bytes c.self.invariant) c.reserve.ensures.ok

pub returns-clause-enough : goal.returns-clause-enough
returns-clause-enough c room =
    c.reserve.ensures.enough
    (omega (
      arith,
      room,
      ap length (all_packed-changes_in c.self.inside.count c.self.inside.bytes.bytes c.self.invariant),
      ap (λ (l : ChangeListView). length (all_packed l.changes)) c.self.view_is,
      ap (λ (l : ChangeListView). l.capacity) c.self.view_is,
    ))
