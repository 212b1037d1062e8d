-- The goals of `State::insert_ready` that the check left open.
use Rattle.std.proofs.Common.{subst, sym}
use Rattle.rd_state.specs.Snapshot.{Snapshot}
use Rattle.rd_state.specs.Change.{Fits}
use Rattle.rd_state.specs.Change.{InsReady}
use Rattle.rd_state.proofs.SizeLaws.{HasSizes-insert}
use Rattle.rd_state.proofs.state.State.insert_ready.Goals as goal

pub invariant_of-self : goal.invariant_of-self
invariant_of-self c =
    let fits = subst (λ (s : Snapshot). Fits s (InsReady c.args.index c.args.task)) (sym c.self.view_is) c.requires in
    rw c.insert_at.ensures (HasSizes-insert c.self.inside c.args.index c.args.task fits c.self.invariant)
