-- The goals of `come_back` that the check left open.
use Rattle.std.proofs.Common.{ℕ, rules, subst, sym}
use Rattle.std.specs.Prelude.{Result, Ok, Err, OnOk}
use Rattle.rd_state.specs.EditingView.{EditingView, Reaches}
use Rattle.rd_state.specs.Snapshot.{Snapshot}
use Rattle.rd_kernel.specs.Costs.{coming_back_cost}
use Rattle.rd_kernel.specs.Holding.{come_back, CanComplete}
use Rattle.rd_kernel.proofs.HeldStepLaws.{CanComplete-come_back}
use Rattle.rd_kernel.proofs.holding.come_back.Goals as goal

can_then : {T E : Type 0} (r : Result T E) (old new : EditingView) (s : Snapshot) (n : ℕ) → OnOk r (Reaches old new s n) → CanComplete s → OnOk r (CanComplete new.now)
can_then (Ok x) old new s n reaches can = subst CanComplete (sym reaches.now) can
can_then (Err e) old new s n reaches can = tt

pub returns-clause-can : goal.returns-clause-can
returns-clause-can c =
    let s = c.args.editing.now.now in
    can_then c.set_entry.result c.args.editing.now c.set_entry.new.editing (come_back s c.args.task c.args.held) coming_back_cost (search rules)
    (CanComplete-come_back s c.args.task c.args.held c.requires.can)
