-- The goal of `Group::remove` that the check left open.
use Rattle.std.proofs.Common.{◌<◌, ◌≤◌, length, subst, sym, arith}
use Rattle.rd_group.specs.declared.wish.TheConstants.{MAX_BITS}
use Rattle.rd_group.specs.declared.wish.Wish.{Wish}
use Rattle.rd_group.specs.GroupSnapshot.{GroupSnapshot}
use Rattle.rd_group.proofs.GroupChangeLaws.{length-both_removed}
use Rattle.rd_group.proofs.group.Group.remove.Goals as goal
use Rattle.rd_wait.proofs.Offered.{All-remove}

pub invariant_of-self : goal.invariant_of-self
invariant_of-self c =
    let holds = c.self.invariant in
    let list = c.self.inside.waiting in
    let wishes = c.self.inside.wishes.items in
    let there : c.args.index < length list.tasks = subst (λ (g : GroupSnapshot). c.args.index < length g.waiting) (sym c.self.view_is) c.requires in
    rw (c.remove_at.ensures.rest, c.remove.ensures.items) (
      holds.0,
      All-remove (λ task. task < list.capacity) list.tasks c.args.index holds.1,
      length-both_removed list.tasks wishes c.args.index holds.2 there,
      All-remove (λ (wish : Wish). wish.bits ≤ MAX_BITS) wishes c.args.index holds.3,
      omega (arith, holds.4, c.remove.ensures.capacity),
      holds.5,
    )
