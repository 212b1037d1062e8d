-- The goal of `Recent::new` that the check left open.
use Rattle.std.proofs.Common.{rules}
use Rattle.rd_command.proofs.recent.Recent.new.Goals as goal

pub invariant_of-result : goal.invariant_of-result
invariant_of-result c = λ k. λ d. λ within.
    let learnt = (c.from_fn.ensures.items.at k d (rw c.from_fn.ensures.items.long at within)).2.met in
    search rules
