-- The goals of append_listed that the check left open.
use Rattle.std.proofs.Common.{rules}
use Rattle.rd_reply.proofs.PageLaws.{appends_as, appends_then}
use Rattle.rd_reply.proofs.tasks.append_listed.Goals as goal

pub returns-in-Queue : goal.returns-in-Queue
returns-in-Queue c =
    let all = appends_then (appends_then c.append.ensures c.append-in-Queue.ensures)
    c.append_name.ensures in
    appends_as all (search rules)

pub returns-in-QueueSet : goal.returns-in-QueueSet
returns-in-QueueSet c =
    appends_as (appends_then c.append-in-QueueSet.ensures c.append_name-in-QueueSet.ensures)
    (search rules)
