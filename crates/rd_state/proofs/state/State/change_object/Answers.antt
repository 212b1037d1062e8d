-- The goals of `State::change_object` that the check left open.
use Rattle.rd_state.specs.Objects.{the_object_change}
use Rattle.rd_state.proofs.SizeLaws.{HasSizes-object}
use Rattle.rd_state.proofs.state.State.change_object.Goals as goal

pub invariant_of-self : goal.invariant_of-self
invariant_of-self c =
    rw c.apply.ensures (HasSizes-object c.self.inside _ (the_object_change c.args.change) c.self.view_is c.requires c.self.invariant)
