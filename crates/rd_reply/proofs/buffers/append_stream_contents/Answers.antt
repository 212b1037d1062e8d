-- The goals of append_stream_contents that the check left open.
use Rattle.std.proofs.Common.{rules}
use Rattle.rd_reply.proofs.PageLaws.{appends_as, appends_then}
use Rattle.rd_reply.proofs.buffers.append_stream_contents.Goals as goal

pub returns : goal.returns
returns c =
    let all = appends_then (appends_then (appends_then (appends_then c.append_counts.ensures
    c.append.ensures) c.append_number.ensures) c.append-2.ensures)
    c.append_stream_bytes.ensures in
    appends_as all (search rules)
