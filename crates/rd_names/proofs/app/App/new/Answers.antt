-- The goals of new that the check left open.
use Rattle.std.proofs.Common.{◌≡◌, ◌∙◌, sym, true≢false}
use Rattle.rd_names.proofs.CountLaws.{counted, passes, same_counts}
use Rattle.rd_names.proofs.app.App.new.Goals as goal

pub invariant_of-result : goal.invariant_of-result
invariant_of-result c =
    counted c.args.program c.args.names
    (sym c.counts.ensures ∙ same_counts c.counts.result c.counts_in.result (sym c.eq.ensures ∙ c.if-eq.true) ∙ c.counts_in.ensures)
