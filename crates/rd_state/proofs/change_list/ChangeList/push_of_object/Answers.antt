-- The goals of `ChangeList::push_of_object` that the check left open.
use Rattle.std.proofs.Common.{◌+◌, ◌≤◌, length, ap, arith}
use Rattle.rd_state.specs.Change.{Object}
use Rattle.rd_state.specs.Objects.{the_object_change}
use Rattle.rd_state.specs.PackedChanges.{ChangeListView}
use Rattle.rd_state.proofs.PackingLaws.{changes_in-push, count-le, no_room_for, AreChanges-push}
use Rattle.rd_state.proofs.change_list.ChangeList.push_of_object.Goals as goal

pub returns-in_err-pack-clause-short : goal.returns-in_err-pack-clause-short
returns-in_err-pack-clause-short c =
    no_room_for c.from_residual.result c.args.self.now c.self.inside.count c.self.inside.bytes.capacity c.self.inside.bytes.bytes (Object (the_object_change c.args.change))
    (ap (λ (l : ChangeListView). l.changes) c.self.view_is) (ap (λ (l : ChangeListView). l.capacity) c.self.view_is) c.self.invariant c.in_err-pack.ensures.enough

pub overflow_add-self : goal.overflow_add-self
overflow_add-self c =
    let fits : c.self.inside.count + 1 ≤ length c.pack.new.bytes.bytes =
    count-le _ _ (rw c.in_ok-pack.ensures.ok (AreChanges-push c.self.inside.count c.self.inside.bytes.bytes (Object (the_object_change c.args.change)) c.requires c.self.invariant)) in
    omega (arith, fits, c.len-len.ensures.len)

pub invariant_of-self-2 : goal.invariant_of-self-2
invariant_of-self-2 c = rw c.in_ok-pack.ensures.ok (AreChanges-push _ _ (Object (the_object_change c.args.change)) c.requires c.self.invariant)

pub returns-clause-ok : goal.returns-clause-ok
returns-clause-ok c =
    rw (c.in_ok-pack.ensures.ok, ← c.self.view_is) (changes_in-push c.self.inside.count c.self.inside.bytes.bytes (Object (the_object_change c.args.change)) c.requires)
