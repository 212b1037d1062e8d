-- The goals of `run_by_policy` that the check left open.
use Rattle.std.proofs.Common.{◌≡◌, ◌∙◌, ◌-◌, [], length, ap, arith, refl, rules, subst, take}
use Rattle.std.specs.Prelude.{Err, IsErrOf}
use Rattle.rd_calls.specs.Step.{policy_of}
use Rattle.rd_refusal.specs.declared.refusal.Refusal.TheVariants.{NoMemory}
use Rattle.rd_timeline.specs.Course.{Course, IsWhyNot}
use Rattle.rd_timeline.specs.Recorded.{StandsOn}
use Rattle.rd_timeline.specs.Running.{IsWhyNoRun, MayLackMemory, RunLacksRoom}
use Rattle.rd_timeline.proofs.MovesLaws.{same_course, same_target}
use Rattle.rd_timeline.proofs.RecordedLaws.{each_has_more}
use Rattle.rd_timeline.proofs.RunsLaws.{lacks_from_aside, why_from_aside, why_no_run}
use Rattle.rd_timeline.proofs.timeline.Timeline.run_by_policy.Goals as goal

pub returns-in_default-clause-refusals : goal.returns-in_default-clause-refusals
returns-in_default-clause-refusals c =
    let old = c.args.self.now in
    let why = subst (λ (course : Course). IsWhyNot course (policy_of course.target) c.why_no_move.result) c.in_default.ensures.err c.why_no_move.ensures in
    why_no_run old (record old { undone = [] }) c.args.goal 0 c.args.count c.why_no_move.result refl refl refl c.by_invariant.ensures.leads c.requires.some why

pub returns-in-Err-clause-refusals : goal.returns-in-Err-clause-refusals
returns-in-Err-clause-refusals c =
    why_from_aside c.args.self.now c.args.goal c.args.count c.in-Err.refusal
    (subst (λ (course : Course). IsWhyNoRun course c.args.goal c.args.count c.in-Err.refusal) c.in-Ok.ensures.emptied c.in-Err.ensures.refusals)

pub cancel_run-requires : goal.cancel_run-requires
cancel_run-requires c =
    let ran = c.go_on.new.self in
    let stands = subst (λ (course : Course). StandsOn course ran) c.in-Ok.ensures.emptied c.go_on.ensures.stands in
    let more = each_has_more (record c.args.self.now { undone = [] }) ran stands in search rules

pub returns-in-Err-clause-err : goal.returns-in-Err-clause-err
returns-in-Err-clause-err c =
    let old = c.args.self.now in
    let start = c.in-Ok.ensures.start in
    let cancelled = c.cancel_run.ensures in
    let ran = c.go_on.new.self in
    let stands = subst (λ (course : Course). StandsOn course ran) c.in-Ok.ensures.emptied c.go_on.ensures.stands in
    let more = each_has_more (record old { undone = [] }) ran stands in
    let app = cancelled.app ∙ stands.app in
    let done = cancelled.done ∙ ap (λ k. take k ran.done) start.done ∙ stands.done in
    let records : length ran.log - (length ran.done - c.in-Ok.start.done) ≡ length old.log =
    omega (arith, start.done, more.more, more.records) in
    let log = cancelled.log ∙ ap (λ k. take k ran.log) records ∙ stands.recorded.log in
    same_course old c.cancel_run.new.self app (cancelled.limit ∙ stands.limit)
    (same_target old c.cancel_run.new.self app done c.by_invariant.ensures.leads cancelled.leads) done log (cancelled.undone ∙ start.undone)
    (cancelled.read ∙ stands.read)

pub returns-in-Err-clause-short : goal.returns-in-Err-clause-short
returns-in-Err-clause-short c =
    let run : IsErrOf (Err c.in-Err.refusal) NoMemory → MayLackMemory c.args.self.now c.args.goal c.args.count =
    λ is. lacks_from_aside c.args.self.now c.args.goal c.args.count
    (subst (λ (course : Course). RunLacksRoom course c.args.goal c.args.count) c.in-Ok.ensures.emptied (c.in-Err.ensures.short is)) in
    search rules
