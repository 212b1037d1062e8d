-- The goals of `trim` that the check left open.
use Rattle.std.proofs.Common.{◌≡◌, arith, subst}
use Rattle.rd_timeline.specs.Course.{Course}
use Rattle.rd_timeline.specs.Inside.{course_of}
use Rattle.rd_timeline.specs.Runs.{moves_of, trimmed}
use Rattle.rd_timeline.proofs.MovesLaws.{trimmed_moves}
use Rattle.rd_timeline.proofs.TimelineLaws.{IsWhole-trim}
use Rattle.rd_timeline.proofs.timeline.Timeline.trim.Goals as goal

pub invariant_of-self : goal.invariant_of-self
invariant_of-self c =
    let kept = c.keep_last.ensures in
    IsWhole-trim c.self.inside c.keep_last.new.self c.more-self-inside.result c.args.keep c.self.invariant kept.target kept.done kept.records kept.undone
    (record { moves = omega (arith, kept.same_capacity); carried = omega (arith, kept.same_carried_capacity); bytes = omega (arith, kept.same_memory) })
    (omega (arith, kept.read, c.self.invariant.others, c.more-self-inside.ensures, c.count-before.ensures, c.count.ensures))

pub returns-clause-moves : goal.returns-clause-moves
returns-clause-moves c =
    let t = c.self.inside in
    let kept = c.keep_last.ensures in
    let new : Course = course_of (record t { journal = c.keep_last.new.self; others = c.more-self-inside.result }) in
    subst (λ (course : Course). moves_of new ≡ trimmed (moves_of course) c.args.keep) c.self.view_is
    (trimmed_moves (course_of t) new c.args.keep c.self.invariant.traced.records kept.done kept.undone kept.records)
