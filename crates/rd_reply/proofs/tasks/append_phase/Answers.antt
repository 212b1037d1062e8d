-- The goals of append_phase that the check left open.
use Rattle.std.proofs.Common.{rules}
use Rattle.rd_reply.proofs.PageLaws.{appends_as, appends_then}
use Rattle.rd_reply.proofs.tasks.append_phase.Goals as goal

pub returns-in-Wait : goal.returns-in-Wait
returns-in-Wait c =
    let all = appends_then (appends_then (appends_then c.append-in-Wait.ensures
    c.append_place.ensures) c.append-in-Wait-2.ensures) c.append_deadline-in-Wait.ensures in
    appends_as all (search rules)
