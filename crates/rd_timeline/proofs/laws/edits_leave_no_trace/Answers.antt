-- The goal of `edits_leave_no_trace` that the check left open.
use Rattle.rd_timeline.proofs.TrimLaws.{edits_leave_no_trace}
use Rattle.rd_timeline.proofs.laws.edits_leave_no_trace.Goals as goal

pub returns : goal.returns
returns c = edits_leave_no_trace
