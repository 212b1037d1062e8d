-- The goals of `by_invariant` that the check left open.
use Rattle.std.proofs.Common.{subst}
use Rattle.rd_timeline.specs.Course.{IsTraced}
use Rattle.rd_timeline.proofs.TimelineLaws.{traced_now}
use Rattle.rd_timeline.proofs.timeline.Timeline.by_invariant.Goals as goal

pub returns-clause-leads : goal.returns-clause-leads
returns-clause-leads c = (traced_now c.args.self.now (subst IsTraced c.self.view_is c.self.invariant.traced)).state

pub returns-clause-valid : goal.returns-clause-valid
returns-clause-valid c = (traced_now c.args.self.now (subst IsTraced c.self.view_is c.self.invariant.traced)).valid

pub returns-clause-settled : goal.returns-clause-settled
returns-clause-settled c = (traced_now c.args.self.now (subst IsTraced c.self.view_is c.self.invariant.traced)).settled
