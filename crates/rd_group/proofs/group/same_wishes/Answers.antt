-- The goal of `same_wishes` that the check left open.
use Rattle.std.proofs.Common.{rules, ◌≡◌}
use Rattle.std.specs.Bool.{Decides}
use Rattle.std.proofs.lemmas.Slice.Eq.{slice_eq-Decides}
use Rattle.rd_group.specs.declared.wish.Wish.{Wish}
use Rattle.rd_group.specs.contracts.wish.WishPartialEq.TheImpl as wish
use Rattle.rd_group.proofs.group.same_wishes.Goals as goal

same_wish : (a b : Wish) → Decides (wish.eq-value.it a b) (a ≡ b)
same_wish a b = search rules

pub returns : goal.returns
returns c = slice_eq-Decides same_wish c.args.wishes.now c.args.others.now c.eq.result c.eq.ensures
