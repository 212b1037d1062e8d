-- The goals of `go_back` that the check left open.
use Rattle.std.proofs.Common.{◌≡◌, ◌-◌, ap, arith, length, subst}
use Rattle.rd_timeline.specs.Course.{Course}
use Rattle.rd_timeline.specs.Inside.{course_of}
use Rattle.rd_timeline.specs.Runs.{back_at, moves_of}
use Rattle.rd_timeline.proofs.HistoryLaws.{CanRewind-later}
use Rattle.rd_timeline.proofs.MovesLaws.{back_moves}
use Rattle.rd_timeline.proofs.TimelineLaws.{IsWhole-back}
use Rattle.rd_timeline.proofs.timeline.Timeline.go_back.Goals as goal

pub take_back-requires-clause-can_rewind : goal.take_back-requires-clause-can_rewind
take_back-requires-clause-can_rewind c =
    CanRewind-later c.self.inside.journal.target c.self.inside.journal.records (length c.self.inside.journal.records - c.args.n) c.self.invariant.traced.rewinds

pub invariant_of-self : goal.invariant_of-self
invariant_of-self c =
    let t = c.self.inside in
    let taken = c.take_back.ensures in
    IsWhole-back t c.take_back.new.self c.more-self-inside.result c.args.n (omega (arith, ap (λ (course : Course). length course.log) c.self.view_is)) c.self.invariant taken.target taken.done taken.records taken.undone
    (record { moves = omega (arith, taken.same_capacity); carried = omega (arith, taken.same_carried_capacity); bytes = omega (arith, taken.same_memory) })
    (omega (arith, taken.read, c.self.invariant.others, c.more-self-inside.ensures, c.count-before.ensures, c.count.ensures))

pub returns-clause-moves : goal.returns-clause-moves
returns-clause-moves c =
    let t = c.self.inside in
    let taken = c.take_back.ensures in
    let new : Course = course_of (record t { journal = c.take_back.new.self; others = c.more-self-inside.result }) in
    subst (λ (course : Course). moves_of new ≡ back_at (moves_of course) (length course.done - c.args.n)) c.self.view_is
    (back_moves (course_of t) new c.args.n c.self.invariant.traced.records (omega (arith, ap (λ (course : Course). length course.log) c.self.view_is))
    taken.done taken.undone taken.records)
