-- The goals of append_state that the check left open.
use Rattle.std.proofs.Common.{rules}
use Rattle.rd_reply.proofs.PageLaws.{appends_as, appends_then}
use Rattle.rd_reply.proofs.tasks.append_state.Goals as goal

pub returns : goal.returns
returns c =
    let all = appends_then (appends_then (appends_then (appends_then
    (appends_then c.append.ensures c.append_number_list.ensures) c.append-2.ensures)
    c.append_bytes.ensures) c.append-3.ensures) c.append_entry_list.ensures in
    appends_as all (search rules)
