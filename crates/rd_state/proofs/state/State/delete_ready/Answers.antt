-- The goals of `State::delete_ready` that the check left open.
use Rattle.std.proofs.Common.{◌<◌, length, ap, arith}
use Rattle.rd_state.specs.Snapshot.{Snapshot}
use Rattle.rd_state.proofs.SizeLaws.{HasSizes-remove}
use Rattle.rd_state.proofs.state.State.delete_ready.Goals as goal

pub invariant_of-self : goal.invariant_of-self
invariant_of-self c =
    let there : c.args.index < length c.self.inside.ready.tasks = omega (arith, c.requires, ap (λ (s : Snapshot). length s.ready) c.self.view_is) in
    rw c.remove_at.ensures.rest (HasSizes-remove c.self.inside c.args.index there c.self.invariant)
