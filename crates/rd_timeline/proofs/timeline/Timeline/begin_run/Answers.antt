-- The goal of `begin_run` that the check left open.
use Rattle.rd_timeline.proofs.TimelineLaws.{IsWhole-aside}
use Rattle.rd_timeline.proofs.timeline.Timeline.begin_run.Goals as goal

pub invariant_of-self-2 : goal.invariant_of-self-2
invariant_of-self-2 c = IsWhole-aside c.self.inside c.set_aside.new.self c.self.invariant c.in_ok-set_aside.ensures.emptied
