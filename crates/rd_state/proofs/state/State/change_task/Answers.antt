-- The goals of `State::change_task` that the check left open.
use Rattle.std.proofs.Common.{◌∙◌, ap}
use Rattle.rd_state.specs.Snapshot.{TaskSnapshot}
use Rattle.rd_state.specs.TaskChanges.{task_applied, the_task_change}
use Rattle.rd_state.proofs.SizeLaws.{HasSizes-task, task_read}
use Rattle.rd_state.proofs.state.State.change_task.Goals as goal

pub invariant_of-self : goal.invariant_of-self
invariant_of-self c =
    let was =
    task_read c.self.inside c.args.self.now c.args.task c.index_mut-target.result.now c.self.view_is c.requires.0 c.index_mut-target.ensures.value in
    HasSizes-task c.self.inside _ c.args.task (the_task_change c.args.change) _ c.self.view_is c.requires
    (c.apply.ensures ∙ ap (λ (t : TaskSnapshot). task_applied t (the_task_change c.args.change)) was) c.self.invariant
