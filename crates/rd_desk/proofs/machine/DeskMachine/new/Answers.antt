-- The goal of new that the check left open.
use Rattle.std.proofs.Common.{rules, ◌∙◌, ap, arith, subst, sym}
use Rattle.rd_app.specs.Application.{Application}
use Rattle.rd_names.specs.Apps.{AreAsMany}
use Rattle.rd_names.specs.Names.{NamesView}
use Rattle.rd_timeline.specs.Course.{Course}
use Rattle.rd_desk.proofs.machine.DeskMachine.new.Goals as goal

pub invariant_of-result : goal.invariant_of-result
invariant_of-result c =
    let timeline = c.in_ok-timeline.timeline in
    let runs = ap (λ (course : Course). course.app) c.in_ok-timeline.ensures ∙ c.split-program.ensures.runs in
    record {
      named = subst (λ (names : NamesView). AreAsMany timeline.app names) (sym c.split-program.ensures.names)
          (subst (λ (app : Application). AreAsMany app c.args.app.names) (sym runs) c.limits.ensures.paired);
      few = omega (arith, ap (λ (course : Course). course.limit) c.in_ok-timeline.ensures, c.ranges.moves.fits);
      watches = rw c.in_ok-sessions.ensures (search rules);
    }
