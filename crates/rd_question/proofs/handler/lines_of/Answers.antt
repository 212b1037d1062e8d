use Rattle.std.proofs.Common.{◌++◌, ◌∷◌, ◌∙◌, [], List, ℕ, String, Global, ap, lit<, subst, sym}
use Rattle.std.specs.Borrow.{Bor}
use Rattle.std.specs.Prelude.{string_bytes}
use Rattle.std.proofs.lemmas.Iterator.Consumers.{YieldsList-end}
use Rattle.std.proofs.lemmas.Iterator.Splits.{YieldsList-from_str_split}
use Rattle.std.specs.Str.Iter.{split_has_more, split_pattern, split_text}
use Rattle.rd_question.specs.Asked.{AreEach}
use Rattle.rd_question.specs.Handlers.{IsLineOf}
use Rattle.rd_question.proofs.AskedLaws.{AreEach-map, AreEach-push}
use Rattle.rd_question.proofs.handler.lines_of.Goals as goal

abbrev IsLineFor : Bor (List ℕ) → String Global → Type 0
IsLineFor call line = IsLineOf call.now (string_bytes line)

pub loop-call-preserved : goal.loop-call-preserved
loop-call-preserved c =
    let before = c.loop-call.yielded ++ c.in-Some.call ∷ [] in
    subst (λ (lines : List (String Global)). AreEach IsLineFor before lines) (sym {A = List (String Global)} c.in_ok-push.ensures.items)
    (AreEach-push IsLineFor c.loop-call.yielded c.loop-call.lines.items c.in-Some.call c.in_ok-line_of.field-0 c.loop-call.invariant c.in_ok-line_of.ensures)

pub returns : goal.returns
returns c =
    let start = c.into_iter-call-iterator.ensures.into_iter_gives in
    let parts = YieldsList-from_str_split {s = c.into_iter-call-iterator.result} 59 c.args.calls.now (lit< tt)
    (ap split_text start ∙ c.split-call-items.ensures.text) (ap split_has_more start ∙ c.split-call-items.ensures.has_more)
    (ap split_pattern start ∙ c.split-call-items.ensures.pattern) in
    let end = YieldsList-end parts c.loop-call.yielded _ c.loop-call.yielded_by _ _ c.in-None.is c.next.ensures.steps in
    subst (λ (calls : List (List ℕ)). AreEach (λ call line. IsLineOf call (string_bytes line)) calls c.loop-call.lines.items) end.0
    (AreEach-map (λ call line. IsLineOf call (string_bytes line)) (λ (call : Bor (List ℕ)). call.now) c.loop-call.yielded c.loop-call.lines.items c.loop-call.invariant)
