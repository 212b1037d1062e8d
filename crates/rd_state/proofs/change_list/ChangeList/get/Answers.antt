-- The goals of `ChangeList::get` that the check left open.
use Rattle.std.proofs.Common.{◌≡◌, ◌∙◌, ◌-◌, ◌∷◌, ◌<◌, [], length, ap, sym, arith, get_or}
use Rattle.std.proofs.lemmas.List.{get_or_append_left, get_or_at}
use Rattle.rd_state.specs.Change.{no_change}
use Rattle.rd_state.specs.PackedChanges.{before_last, changes_in, last_change, ChangeListView}
use Rattle.rd_state.proofs.PackingLaws.{length-changes_in, peeled}
use Rattle.rd_state.proofs.change_list.ChangeList.get.Goals as goal

pub loop-left-init : goal.loop-left-init
loop-left-init c =
    let n = c.self.inside.count in
    let bytes = c.self.inside.bytes.bytes in
    rw c.as_slice-rest.ensures (record {
      are = c.self.invariant;
      within = omega (arith, c.requires, length-changes_in n bytes, ap (λ (l : ChangeListView). length l.changes) c.self.view_is);
      same = ap (λ (l : ChangeListView). get_or l.changes c.args.index no_change) c.self.view_is;
    })

pub loop-left-preserved : goal.loop-left-preserved
loop-left-preserved c =
    let n = c.loop-left.left in
    let rest = c.loop-left.rest.now in
    let peel = peeled n rest (omega arith) c.loop-left.invariant.are in
    let before = changes_in (n - 1) (before_last rest) in
    let there : c.args.index < length before = omega (arith, length-changes_in (n - 1) (before_last rest)) in
    let first : get_or (changes_in n rest) c.args.index no_change ≡ get_or before c.args.index no_change =
    ap (λ all. get_or all c.args.index no_change) peel.is ∙ get_or_append_left before (last_change rest ∷ []) no_change c.args.index there in
    rw c.last_change.ensures.rest (record { are = peel.rest; within = omega arith; same = sym first ∙ c.loop-left.invariant.same })

pub returns : goal.returns
returns c =
    let n = c.loop-left.left in
    let rest = c.loop-left.rest.now in
    let peel = peeled n rest (omega arith) c.loop-left.invariant.are in
    let before = changes_in (n - 1) (before_last rest) in
    let at : length before ≡ c.args.index = omega (arith, length-changes_in (n - 1) (before_last rest), c.loop-left.invariant.within) in
    c.last_change-2.ensures.change
    ∙ sym (ap (λ all. get_or all c.args.index no_change) peel.is ∙ get_or_at before (last_change rest) [] no_change c.args.index at)
    ∙ c.loop-left.invariant.same

pub last_change-requires : goal.last_change-requires
last_change-requires c = (peeled c.loop-left.left c.loop-left.rest.now (omega arith) c.loop-left.invariant.are).ends

pub last_change-requires-2 : goal.last_change-requires-2
last_change-requires-2 c = (peeled c.loop-left.left c.loop-left.rest.now (omega (arith, c.loop-left.invariant.within)) c.loop-left.invariant.are).ends
