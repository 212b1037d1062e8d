-- The goals of append_cores that the check left open.
use Rattle.std.proofs.Common.{rules}
use Rattle.rd_reply.proofs.PageLaws.{appends_as, appends_then}
use Rattle.rd_reply.proofs.tasks.append_cores.Goals as goal

pub returns : goal.returns
returns c =
    let all = appends_then (appends_then (appends_then (appends_then
    (appends_then c.append.ensures c.append_running_names.ensures) c.append-2.ensures)
    c.append_task_names.ensures) c.append_ticks.ensures) c.append-3.ensures in
    appends_as all (search rules)
