-- The goals of `cancel_run` that the check left open.
use Rattle.std.proofs.Common.{◌≡◌, ◌∙◌, ◌-◌, ap, arith, length, subst, sym}
use Rattle.rd_timeline.specs.Course.{Course}
use Rattle.rd_timeline.specs.Starts.{CanCancel}
use Rattle.rd_timeline.proofs.HistoryLaws.{CanRewind-later}
use Rattle.rd_timeline.proofs.TimelineLaws.{IsWhole-cancel}
use Rattle.rd_timeline.proofs.timeline.Timeline.cancel_run.Goals as goal

pub take_back-requires-clause-can_rewind : goal.take_back-requires-clause-can_rewind
take_back-requires-clause-can_rewind c =
    CanRewind-later c.self.inside.journal.target c.self.inside.journal.records
    (length c.self.inside.journal.records - (c.at.result - c.args.start.done)) c.self.invariant.traced.rewinds

pub invariant_of-self : goal.invariant_of-self
invariant_of-self c =
    let t = c.self.inside in
    let start = c.args.start in
    let taken = c.take_back.ensures in
    let put = c.put_back.ensures in
    let can = subst (λ (course : Course). CanCancel course start) (sym c.self.view_is) c.requires in
    let made : c.at.result - start.done ≡ length t.journal.done - start.done =
    omega (arith, c.at.ensures, ap (λ (course : Course). length course.done) c.self.view_is) in
    IsWhole-cancel t c.put_back.new.self c.more-self-inside.result start (c.at.result - start.done) made c.self.invariant can (put.target ∙ taken.target) (put.done ∙ taken.done)
    (put.records ∙ taken.records) put.undone (record {
      moves = omega (arith, put.grows, taken.same_capacity);
      carried = omega (arith, put.more_carried, taken.same_carried_capacity);
      bytes = omega (arith, taken.same_memory, put.same_memory);
    })
    (omega (arith, put.read, taken.read, c.self.invariant.others, c.more-self-inside.ensures, c.count-before.ensures, c.count.ensures))
