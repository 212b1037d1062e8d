-- The goals of append_set that the check left open.
use Rattle.std.proofs.Common.{rules}
use Rattle.rd_reply.proofs.PageLaws.{appends_as, appends_then}
use Rattle.rd_reply.proofs.queues.append_queue_set.Goals as goal

pub returns : goal.returns
returns c =
    let all = appends_then (appends_then (appends_then (appends_then
    (appends_then c.append.ensures c.append-2.ensures) c.append-3.ensures)
    c.append_handles.ensures) c.append_selecting.ensures) c.append-4.ensures in
    appends_as all (search rules)
