-- The goals of `together` that the check left open.
use Rattle.std.proofs.Common.{arith}
use Rattle.std.proofs.lemmas.Nat.{or_lt}
use Rattle.rd_group_calls.proofs.calls.together.Goals as goal

pub returns-clause-within : goal.returns-clause-within
returns-clause-within c =
    let both = or_lt 24 c.args.there c.args.set (omega (arith, c.requires.there)) (omega (arith, c.requires.set)) in
    omega (arith, both)
