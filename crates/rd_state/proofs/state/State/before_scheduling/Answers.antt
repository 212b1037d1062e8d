-- The goals of `State::before_scheduling` that the check left open.
use Rattle.std.proofs.Common.{length, refl, rules}
use Rattle.std.proofs.lemmas.List.{length-map}
use Rattle.rd_app.specs.Application.{priorities_of}
use Rattle.rd_app.specs.TaskScript.{TaskScript}
use Rattle.rd_state.proofs.SizeLaws.{HasSizes-new}
use Rattle.rd_state.proofs.state.State.before_scheduling.Goals as goal

pub invariant_of-result : goal.invariant_of-result
invariant_of-result c =
    let app = c.args.app.now in
    let outer = c.in_ok-ready.ensures.ok in
    let inner = rw outer.1 at c.both.ensures.ok in
    let ready = rw outer.0 at c.all_ready.ensures in
    let tasks = rw inner.0 at c.new_tasks.ensures in
    let objects = rw inner.1 at c.new.ensures in
    HasSizes-new app _ (length (priorities_of app)) c.limits.ensures c.tick.ensures refl (search rules)
    (rw c.priorities-priorities.ensures at ready)
    (rw (c.priorities-priorities.ensures, c.entries.ensures) at tasks)
    (length-map app.tasks (λ (script : TaskScript). script.priority)) objects
