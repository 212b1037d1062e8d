use Rattle.std.proofs.Common.{◌≡◌, ◌+◌, List, [], ◌∷◌, ◌++◌, take, sym, subst}
use Rattle.std.specs.Prelude.{All, string_bytes}
use Rattle.std.proofs.lemmas.List.Elements.{All-push}
use Rattle.rd_moves.specs.Carried.{IsCarriedOf}
use Rattle.rd_reach.specs.Plans.{IsrPlan}
use Rattle.rd_question.specs.Asked.{AreEach, IsCallOf, IsIsrFor, IsWhyNoCalls, IsWhyNoIsrs}
use Rattle.rd_question.proofs.AskedLaws.{AreEach-more, is_isr, no_isrs_at}
use Rattle.rd_question.proofs.WrongLaws.{given_back}
use Rattle.rd_question.proofs.planning.isrs_of.Goals as goal

pub loop-handler-preserved : goal.loop-handler-preserved
loop-handler-preserved c =
    let app = c.args.app.now in
    let handler = c.handler-item.result in
    let isr = c.new-isr.result in
    let calls = c.in_ok-calls.calls.items in
    let grown : c.push.new.self.items ≡ c.loop-handler.isrs.items ++ isr ∷ [] = c.in_ok-push.ensures.items in
    let said = subst (λ lines. AreEach (λ line call. IsCallOf app (string_bytes line) call) lines calls) c.as_slice.ensures.value c.in_ok-calls.ensures.said in
    record {
      said =
          subst (λ (isrs : List IsrPlan). AreEach (IsIsrFor app) (take (c.loop-handler.handler-index + 1) c.args.handlers.now) isrs) (sym grown)
          (AreEach-more (IsIsrFor app) c.args.handlers.now c.loop-handler.handler-index handler c.loop-handler.isrs.items isr
          c.loop-handler-test.true c.handler-item.is c.loop-handler.invariant.said (is_isr app handler isr calls c.new-isr.ensures said));
      named =
          subst (λ (isrs : List IsrPlan). All (λ (i : IsrPlan). All (IsCarriedOf app.runs) i.calls) isrs) (sym grown)
          (All-push (λ (i : IsrPlan). All (IsCarriedOf app.runs) i.calls) c.loop-handler.isrs.items isr c.loop-handler.invariant.named
          (subst (λ (i : IsrPlan). All (IsCarriedOf app.runs) i.calls) (sym c.new-isr.ensures) c.in_ok-calls.ensures.named));
    }

pub returns-in_err-calls-clause-wrong : goal.returns-in_err-calls-clause-wrong
returns-in_err-calls-clause-wrong c =
    let app = c.args.app.now in
    let why = c.in_err-calls.field-0.0 in
    let wrong = subst (λ lines. IsWhyNoCalls app lines why) c.as_slice.ensures.value c.in_err-calls.ensures.wrong in
    given_back c.from_residual.result why (IsWhyNoIsrs app c.args.handlers.now) c.from_residual.ensures.1
    (no_isrs_at app c.args.handlers.now c.loop-handler.handler-index c.handler-item.result why c.loop-handler-test.true c.handler-item.is wrong)
