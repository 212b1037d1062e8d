-- The goals of append_task that the check left open.
use Rattle.std.proofs.Common.{rules}
use Rattle.rd_reply.proofs.PageLaws.{appends_as, appends_then}
use Rattle.rd_reply.proofs.tasks.append_task.Goals as goal

pub returns : goal.returns
returns c =
    let all = appends_then (appends_then (appends_then (appends_then
    (appends_then (appends_then (appends_then (appends_then
    (appends_then c.append.ensures c.append-2.ensures) c.append-3.ensures)
    c.append_running_core.ensures) c.append-4.ensures) c.append_number.ensures)
    c.append-5.ensures) c.append_phase.ensures) c.append_state.ensures) c.append-6.ensures in
    appends_as all (search rules)
