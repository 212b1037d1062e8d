-- The goals of append_stream that the check left open.
use Rattle.std.proofs.Common.{rules}
use Rattle.rd_reply.proofs.PageLaws.{appends_as, appends_then}
use Rattle.rd_reply.proofs.buffers.append_stream.Goals as goal

pub returns : goal.returns
returns c =
    let all = appends_then (appends_then (appends_then (appends_then
    (appends_then c.append.ensures c.append-2.ensures) c.append-3.ensures)
    c.append_stream_contents.ensures) c.append_holders.ensures) c.append-4.ensures in
    appends_as all (search rules)
