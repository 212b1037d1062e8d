use Rattle.std.proofs.Common.{IfErr, inr, subst, sym}
use Rattle.rd_question.specs.Asked.{AreEach, IsIsrFor, IsWhyNoIsrs, IsWhyNoPlan}
use Rattle.rd_question.proofs.AskedLaws.{too_many}
use Rattle.rd_question.proofs.WrongLaws.{given_back}
use Rattle.rd_question.proofs.planning.schedule_of.Goals as goal

pub returns-in_err-isrs-clause-wrong : goal.returns-in_err-isrs-clause-wrong
returns-in_err-isrs-clause-wrong c =
    let app = c.args.app.now in
    let why = c.in_err-isrs.field-0.0 in
    let wrong = subst (λ handlers. IsWhyNoIsrs app handlers why) c.as_slice-handlers.ensures.value c.in_err-isrs.ensures.wrong in
    given_back c.from_residual-in_err-isrs.result why (IsWhyNoPlan app c.args.question.now) c.from_residual-in_err-isrs.ensures.1 (inr (inr wrong))

pub returns-clause-wrong : goal.returns-clause-wrong
returns-clause-wrong c =
    let app = c.args.app.now in
    let said = subst (λ handlers. AreEach (IsIsrFor app) handlers c.in_ok-isrs.isrs.items) c.as_slice-handlers.ensures.value c.in_ok-isrs.ensures.said in
    subst (λ made. IfErr made (IsWhyNoPlan app c.args.question.now)) (sym c.ok_or.ensures.value)
    (too_many app c.args.question.now c.in_ok-isrs.isrs.items c.new.result said c.new.ensures.some)
