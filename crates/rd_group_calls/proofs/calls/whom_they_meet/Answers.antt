-- The goals of `whom_they_meet` that the check left open.
use Rattle.std.proofs.Common.{◌∙◌, ap}
use Rattle.rd_group.specs.GroupSnapshot.{GroupSnapshot}
use Rattle.rd_group.specs.Groups.{met_by}
use Rattle.rd_state.specs.Snapshot.{Snapshot, group_at}
use Rattle.rd_group_calls.proofs.GroupCallLaws.{met_are_tasks, room_for_met}
use Rattle.rd_group_calls.proofs.calls.whom_they_meet.Goals as goal

pub returns-clause-tasks : goal.returns-clause-tasks
returns-clause-tasks c =
    met_are_tasks c.args.app.now c.args.editing.now.now c.args.group c.args.bits _ c.requires.valid c.requires.group
    (c.met.ensures ∙ ap (λ (g : GroupSnapshot). met_by g c.args.bits) c.group.ensures.group
    ∙ ap (λ (s : Snapshot). met_by (group_at s c.args.group) c.args.bits) c.state.ensures.state)

pub returns-clause-room : goal.returns-clause-room
returns-clause-room c =
    room_for_met c.args.app.now c.args.editing.now.now c.args.group c.args.bits _ c.requires.valid c.requires.group
    (c.met.ensures ∙ ap (λ (g : GroupSnapshot). met_by g c.args.bits) c.group.ensures.group
    ∙ ap (λ (s : Snapshot). met_by (group_at s c.args.group) c.args.bits) c.state.ensures.state)
