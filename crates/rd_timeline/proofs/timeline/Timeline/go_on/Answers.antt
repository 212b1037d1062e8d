-- The goals of `go_on` that the check left open.
use Rattle.std.proofs.Common.{◌≢◌, ◌+◌, ◌∙◌, ap, arith, length, rules, sym, subst, true, false}
use Rattle.std.specs.Prelude.{Err, IsErrOf, List}
use Rattle.rd_moves.specs.Moves.{IsMoveOf, PlainMove}
use Rattle.rd_calls.specs.Step.{policy_of}
use Rattle.rd_refusal.specs.declared.refusal.Refusal.TheVariants.{NoMemory}
use Rattle.rd_timeline.specs.Course.{LacksRoom, IsWhyNot}
use Rattle.rd_timeline.specs.Running.{IsWhyNoRun, RunLacksRoom}
use Rattle.rd_timeline.specs.Runs.{Going, moves_of}
use Rattle.rd_timeline.proofs.RecordedLaws.{StandsOn-here}
use Rattle.rd_timeline.proofs.PolicyLaws.{policy_named}
use Rattle.rd_timeline.proofs.RunsLaws.{one_more, stays_there, why_no_run}
use Rattle.rd_timeline.proofs.timeline.Timeline.go_on.Goals as goal

pub loop-init : goal.loop-init
loop-init c = record {
  going = ap (λ (us : List PlainMove). Going (record (moves_of c.args.self.now) { undone = us })) (sym c.requires.none_undone);
  stands = StandsOn-here c.args.self.now;
  ahead = λ some. absurd (omega (arith, some));
}

pub go-requires : goal.go-requires
go-requires c = record {
  named =
      subst (IsMoveOf c.loop.self.app) (sym (c.policy-action.ensures ∙ ap policy_of c.target.ensures))
      (policy_named c.loop.self.app c.loop.self.target c.by_invariant-in-loop.ensures.valid);
}

pub returns-in_err-go-clause-refusals : goal.returns-in_err-go-clause-refusals
returns-in_err-go-clause-refusals c =
    let i = c.loop.invariant in
    let why =
    subst (λ (move : PlainMove). IsWhyNot c.loop.self move c.in_err-go.field-0.0) (c.policy-action.ensures ∙ ap policy_of c.target.ensures)
    c.in_err-go.ensures.refusals in
    let refused : IsWhyNoRun c.args.self.now c.args.goal c.args.count c.in_err-go.field-0.0 =
    why_no_run c.args.self.now c.loop.self c.args.goal c.loop.counter c.args.count c.in_err-go.field-0.0 i.going i.stands.app i.stands.limit
    c.by_invariant-in-loop.ensures.leads (omega (arith, c.loop-test.true)) why in
    search rules

pub returns-in_err-go-clause-short : goal.returns-in_err-go-clause-short
returns-in_err-go-clause-short c =
    let i = c.loop.invariant in
    let beyond : IsErrOf (Err c.in_err-go.field-0.0) NoMemory → RunLacksRoom c.args.self.now c.args.goal c.args.count = λ is. record {
      made = c.loop.counter;
      fewer = omega (arith, c.loop-test.true);
      now = c.loop.self;
      going = i.going;
      stands = i.stands;
      lacks =
          subst (LacksRoom c.loop.self) (c.policy-action.ensures ∙ ap policy_of c.target.ensures) (c.in_err-go.ensures.short is);
    } in
    search rules

pub returns-then-meets : goal.returns-then-meets
returns-then-meets c =
    let i = c.loop.invariant in
    let made = c.in_ok-go.ensures in
    let more : length c.loop.self.done ≢ c.loop.self.limit = search rules in
    let next =
    one_more c.args.self.now c.loop.self c.go.new.self c.args.goal c.loop.counter true c.policy-action.result i.going i.stands
    c.by_invariant-in-loop.ensures.leads (c.policy-action.ensures ∙ ap policy_of c.target.ensures) more made.step made.moves made.app made.limit made.recorded
    made.ahead c.go.ensures.grows made.read (sym c.meets.ensures ∙ c.if-meets.true) in record {
      ends =
          stays_there c.args.self.now c.go.new.self c.args.goal (c.loop.counter + 1) c.args.count next.run (omega (arith, c.loop-test.true));
      ahead = λ some. next.ahead;
      stands = next.stands;
      refusals = tt;
      short = search rules;
    }

pub loop-preserved : goal.loop-preserved
loop-preserved c =
    let i = c.loop.invariant in
    let made = c.in_ok-go.ensures in
    let more : length c.loop.self.done ≢ c.loop.self.limit = search rules in
    let next =
    one_more c.args.self.now c.loop.self c.go.new.self c.args.goal c.loop.counter false c.policy-action.result i.going i.stands
    c.by_invariant-in-loop.ensures.leads (c.policy-action.ensures ∙ ap policy_of c.target.ensures) more made.step made.moves made.app made.limit made.recorded
    made.ahead c.go.ensures.grows made.read (sym c.meets.ensures ∙ c.if-meets.false) in
    record { going = next.run; stands = next.stands; ahead = λ some. next.ahead }
