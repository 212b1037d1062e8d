-- The goal of `Editing::settle` that the check left open.
use Rattle.std.proofs.Common.{arith, refl, sym}
use Rattle.rd_state.proofs.EndLaws.{settled-calm}
use Rattle.rd_state.proofs.editing.Editing.settle.Goals as goal

pub returns-then-is_calm-clause-ok : goal.returns-then-is_calm-clause-ok
returns-then-is_calm-clause-ok c =
    let edit = c.args.self.now in
    let since = c.is_calm.ensures.since c.if-is_calm.true in
    record {
      now = sym (settled-calm c.args.priorities.now edit.outset.state edit.now c.requires.cores (c.requires.calm since.was) since.stay);
      outset = refl;
      weight = omega arith;
      room = omega arith;
      grows = omega arith;
      shape = record { cores = refl; tasks = refl; objects = refl };
    }
