-- The goals of `new` that the check left open.
use Rattle.rd_timeline.proofs.TimelineLaws.{IsWhole-new}
use Rattle.rd_timeline.proofs.timeline.Timeline.new.Goals as goal

pub invariant_of-result : goal.invariant_of-result
invariant_of-result c =
    IsWhole-new (record { app = c.args.app; limit = c.args.limit; journal = c.in_ok-journal.journal; others = c.new-2.result }) _ c.limits.ensures c.in_ok-target.ensures.state c.in_ok-target.ensures.valid c.in_ok-target.ensures.settled
    c.in_ok-journal.ensures.target c.in_ok-journal.ensures.done c.in_ok-journal.ensures.records c.in_ok-journal.ensures.undone c.new-2.ensures
