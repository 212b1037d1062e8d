-- The goals of `State::transfer_to_data` that a search finds late.
use Rattle.std.proofs.Common.{◌∙◌, ◌++◌, ap}
use Rattle.rd_state.specs.TaskChanges.{task_applied, SetData}
use Rattle.rd_state.specs.Snapshot.{TaskSnapshot}
use Rattle.rd_state.proofs.SizeLaws.{HasSizes-task, task_read}
use Rattle.rd_state.proofs.state.State.transfer_to_data.Goals as goal

pub invariant_of-self : goal.invariant_of-self
invariant_of-self c =
    let bytes = c.bytes_at.result.0.now ++ c.bytes_at.result.1.now in
    let change = SetData bytes in
    let was = task_read c.self.inside c.args.self.now c.args.task c.index_mut-target.result.now c.self.view_is c.requires.1 c.index_mut-target.ensures.value in
    HasSizes-task c.self.inside _ c.args.task change _ c.self.view_is (c.requires.1, c.bytes_at.ensures.few, tt)
    (c.set_halves.ensures ∙ ap (λ (t : TaskSnapshot). task_applied t change) was) c.self.invariant
