-- The goals of append_message_contents that the check left open.
use Rattle.std.proofs.Common.{rules}
use Rattle.rd_reply.proofs.PageLaws.{appends_as, appends_then}
use Rattle.rd_reply.proofs.buffers.append_message_contents.Goals as goal

pub returns : goal.returns
returns c =
    let all = appends_then (appends_then c.append_counts.ensures c.append.ensures)
    c.append_messages.ensures in
    appends_as all (search rules)
