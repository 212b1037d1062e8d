use Rattle.std.proofs.Common.{◌∙◌, sym}
use Rattle.rd_hall.proofs.AccountLaws.{next_behind-some}
use Rattle.rd_hall.proofs.account.next_behind.Goals as goal

pub returns-then-who : goal.returns-then-who
returns-then-who g c =
    c.next.ensures ∙ next_behind-some c.args.gone.now.who c.args.who c.args.next c.args.gone.now.receipts (sym c.who.ensures ∙ c.if-who.true) c.by_invariant.ensures.some
