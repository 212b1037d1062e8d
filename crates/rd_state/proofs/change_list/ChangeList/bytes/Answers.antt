-- The goals of `ChangeList::bytes` that the check left open.
use Rattle.std.proofs.Common.{◌≡◌, ◌∙◌, length, ap, sym, arith}
use Rattle.rd_state.specs.PackedChanges.{all_packed, ChangeListView}
use Rattle.rd_state.proofs.PackingLaws.{all_packed-changes_in, length-changes_in}
use Rattle.rd_state.proofs.change_list.ChangeList.bytes.Goals as goal

pub returns-clause-bytes : goal.returns-clause-bytes
returns-clause-bytes c =
    c.as_slice.ensures ∙ sym (all_packed-changes_in c.self.inside.count c.self.inside.bytes.bytes c.self.invariant)
    ∙ ap (λ (l : ChangeListView). all_packed l.changes) c.self.view_is

pub returns-clause-room : goal.returns-clause-room
returns-clause-room c =
    let all : all_packed c.args.self.now.changes ≡ c.self.inside.bytes.bytes =
    ap (λ (l : ChangeListView). all_packed l.changes) (sym c.self.view_is) ∙ all_packed-changes_in c.self.inside.count c.self.inside.bytes.bytes c.self.invariant in
    omega (arith, ap length all, ap (λ (l : ChangeListView). l.capacity) c.self.view_is, c.len-len.ensures.len, c.len-len.ensures.within)

pub returns-clause-changes : goal.returns-clause-changes
returns-clause-changes c =
    let n : length c.args.self.now.changes ≡ c.self.inside.count =
    ap (λ (l : ChangeListView). length l.changes) (sym c.self.view_is) ∙ length-changes_in c.self.inside.count c.self.inside.bytes.bytes in
    rw (c.as_slice.ensures, n) (ap (λ (l : ChangeListView). l.changes) c.self.view_is)

pub returns-clause-are : goal.returns-clause-are
returns-clause-are c =
    let n : length c.args.self.now.changes ≡ c.self.inside.count =
    ap (λ (l : ChangeListView). length l.changes) (sym c.self.view_is) ∙ length-changes_in c.self.inside.count c.self.inside.bytes.bytes in
    rw (c.as_slice.ensures, n) c.self.invariant
