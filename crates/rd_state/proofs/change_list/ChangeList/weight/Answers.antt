-- The goals of `ChangeList::weight` that the check left open.
use Rattle.std.proofs.Common.{◌≡◌, ◌∙◌, ◌-◌, length, ap, sym, arith}
use Rattle.std.proofs.lemmas.List.Sums.{sum_by_push}
use Rattle.rd_state.specs.Change.{cost_of, weight_of}
use Rattle.rd_state.specs.PackedChanges.{all_packed, before_last, changes_in, last_change, ChangeListView}
use Rattle.rd_state.proofs.PackingLaws.{all_packed-changes_in, peeled, weight-le-bytes}
use Rattle.rd_state.proofs.change_list.ChangeList.weight.Goals as goal

pub overflow_add-weight : goal.overflow_add-weight
overflow_add-weight c =
    let n = c.loop-left.left in
    let rest = c.loop-left.rest.now in
    let peel = peeled n rest (omega arith) c.loop-left.invariant.are in
    let before = changes_in (n - 1) (before_last rest) in
    let cost : c.cost-weight.result ≡ cost_of (last_change rest) = c.cost-weight.ensures ∙ ap cost_of c.last_change-last.ensures.change in
    omega (arith, ap weight_of peel.is, sum_by_push cost_of before (last_change rest), cost, c.loop-left.invariant.sum, c.loop-left.invariant.few)

pub loop-left-preserved : goal.loop-left-preserved
loop-left-preserved c =
    let n = c.loop-left.left in
    let rest = c.loop-left.rest.now in
    let peel = peeled n rest (omega arith) c.loop-left.invariant.are in
    let before = changes_in (n - 1) (before_last rest) in
    let cost : c.cost-weight.result ≡ cost_of (last_change rest) = c.cost-weight.ensures ∙ ap cost_of c.last_change-last.ensures.change in
    rw c.last_change-last.ensures.rest (record {
      are = peel.rest;
      sum = omega (arith, ap weight_of peel.is, sum_by_push cost_of before (last_change rest), cost, c.loop-left.invariant.sum);
      few = c.loop-left.invariant.few;
    })

pub last_change-last-requires : goal.last_change-last-requires
last_change-last-requires c = (peeled c.loop-left.left c.loop-left.rest.now (omega arith) c.loop-left.invariant.are).ends

pub loop-left-init : goal.loop-left-init
loop-left-init c =
    let all : all_packed c.args.self.now.changes ≡ c.self.inside.bytes.bytes =
    ap (λ (l : ChangeListView). all_packed l.changes) (sym c.self.view_is) ∙ all_packed-changes_in c.self.inside.count c.self.inside.bytes.bytes c.self.invariant in
    rw c.as_slice-rest.ensures (record {
      are = c.self.invariant;
      sum = omega (arith, ap (λ (l : ChangeListView). weight_of l.changes) c.self.view_is);
      few = omega (arith, weight-le-bytes c.args.self.now.changes, ap length all, c.len-len.ensures.len, c.len-len.type_inv);
    })
