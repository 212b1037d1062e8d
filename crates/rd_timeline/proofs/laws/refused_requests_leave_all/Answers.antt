-- The goal of `refused_requests_leave_all` that the check left open.
use Rattle.rd_timeline.proofs.RefusedLaws.{refused_requests_leave_all}
use Rattle.rd_timeline.proofs.laws.refused_requests_leave_all.Goals as goal

pub returns : goal.returns
returns c = refused_requests_leave_all
