-- The goals of `Group::bits_left` that the check left open.
use Rattle.std.proofs.Common.{rules, ◌≡◌, ◌∙◌, ◌+◌, ◌<◌, List, length, get_or, take, ap, subst, sym}
use Rattle.rd_group.specs.declared.wish.Wish.{Wish}
use Rattle.rd_group.specs.GroupSnapshot.{GroupSnapshot}
use Rattle.rd_group.specs.Wishes.{is_met, left_of}
use Rattle.rd_group.specs.GroupChanges.{no_wish}
use Rattle.rd_group.specs.Groups.{left_after}
use Rattle.rd_group.proofs.GroupLaws.{left_after-met, left_after-unmet, left_after-le}
use Rattle.rd_group.proofs.group.Group.bits_left.Goals as goal
use Rattle.rd_group.proofs.group.Group.bits_left.Goals.{then-is_met, else-is_met}

pub loop-wish-preserved : goal.loop-wish-preserved
loop-wish-preserved c =
    let bits = c.args.bits in
    let index = c.loop-wish.wish-index in
    let items : List Wish = c.deref-wish-items.result.now in
    let wish : Wish = get_or items index no_wish in
    let same : items ≡ c.args.self.now.wishes = c.deref-wish-items.ensures.value ∙ ap (λ (g : GroupSnapshot). g.wishes) c.self.view_is in
    let so_far : c.loop-wish.left ≡ left_after bits (take index items) bits = rw same c.loop-wish.invariant in
    let there : index < length items = search rules in
    let asked : c.is_met.result ≡ is_met bits wish = c.is_met.ensures in
    let now : c.if-is_met.left ≡ left_after bits (take (index + 1) items) bits =
    elim c.if-is_met.branch [
      | then-is_met w ↦
          let cleared : w.left_of-left.result ≡ left_of c.loop-wish.left wish = w.left_of-left.ensures.left in
          w.left-is ∙ cleared ∙ ap (λ left. left_of left wish) so_far ∙ sym (left_after-met bits items index no_wish bits there (sym asked ∙ w.if-is_met.true))
      | else-is_met w ↦ w.left-is ∙ so_far ∙ sym (left_after-unmet bits items index no_wish bits there (sym asked ∙ w.if-is_met.false))
    ] in
    subst (λ (wishes : List Wish). c.if-is_met.left ≡ left_after bits (take (index + 1) wishes) bits) same now

pub returns-clause-no_others : goal.returns-clause-no_others
returns-clause-no_others c =
    rw c.loop-wish.invariant (left_after-le c.args.bits (take c.loop-wish.wish-index c.args.self.now.wishes) c.args.bits)
