-- The goals of append_handles that the check left open.
use Rattle.std.proofs.Common.{rules}
use Rattle.rd_reply.proofs.PageLaws.{appends_as, appends_then}
use Rattle.rd_reply.proofs.queues.append_handles.Goals as goal

pub returns : goal.returns
returns c =
    let all = appends_then (appends_then c.append_counts.ensures c.append.ensures)
    c.append_handle_names.ensures in
    appends_as all (search rules)
