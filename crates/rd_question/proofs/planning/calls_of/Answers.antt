use Rattle.std.proofs.Common.{◌≡◌, ◌+◌, ℕ, List, [], ◌∷◌, ◌++◌, take, sym, subst}
use Rattle.std.specs.Prelude.{All, string_bytes}
use Rattle.std.proofs.lemmas.List.Elements.{All-push}
use Rattle.rd_moves.specs.Carried.{IsCarriedOf, PlainCarried}
use Rattle.rd_question.specs.Asked.{AreEach, IsCallOf, IsWhyNoCall, IsWhyNoCalls}
use Rattle.rd_question.proofs.AskedLaws.{AreEach-more, no_calls_at}
use Rattle.rd_question.proofs.WrongLaws.{given_back}
use Rattle.rd_question.proofs.planning.calls_of.Goals as goal

pub loop-line-preserved : goal.loop-line-preserved
loop-line-preserved c =
    let app = c.args.app.now in
    let call = c.in_ok-call.call in
    let grown : c.push.new.self.items ≡ c.loop-line.calls.items ++ call ∷ [] = c.in_ok-push.ensures.items in
    let said = subst (λ (text : List ℕ). IsCallOf app text call) c.as_str.ensures.value c.in_ok-call.ensures.said in
    record {
      said =
          subst (λ (calls : List PlainCarried). AreEach (λ line call. IsCallOf app (string_bytes line) call) (take (c.loop-line.line-index + 1) c.args.lines.now) calls) (sym grown)
          (AreEach-more (λ line call. IsCallOf app (string_bytes line) call) c.args.lines.now c.loop-line.line-index c.line-item.result c.loop-line.calls.items call
          c.loop-line-test.true c.line-item.is c.loop-line.invariant.said said);
      named =
          subst (λ (calls : List PlainCarried). All (IsCarriedOf app.runs) calls) (sym grown)
          (All-push (IsCarriedOf app.runs) c.loop-line.calls.items call c.loop-line.invariant.named c.in_ok-call.ensures.named);
    }

pub returns-in_err-call-clause-wrong : goal.returns-in_err-call-clause-wrong
returns-in_err-call-clause-wrong c =
    let app = c.args.app.now in
    let why = c.in_err-call.field-0.0 in
    let wrong = subst (λ (text : List ℕ). IsWhyNoCall app text why) c.as_str.ensures.value c.in_err-call.ensures.wrong in
    given_back c.from_residual.result why (IsWhyNoCalls app c.args.lines.now) c.from_residual.ensures.1
    (no_calls_at app c.args.lines.now c.loop-line.line-index c.line-item.result why c.loop-line-test.true c.line-item.is wrong)
