-- The goal of `forward` that the check left open.
use Rattle.rd_timeline.specs.Runs.{moves_of}
use Rattle.rd_timeline.proofs.PolicyLaws.{never_met}
use Rattle.rd_timeline.proofs.timeline.Timeline.forward.Goals as goal

pub returns-clause-ends : goal.returns-clause-ends
returns-clause-ends c =
    let old = c.args.self.now in
    never_met old.app old.limit (moves_of old) (moves_of c.run_by_policy.new.self) c.args.count c.in_ok-run_by_policy.field-0 c.in_ok-run_by_policy.ensures.ends
