-- What an option more says.
use Rattle.std.proofs.Common.{◌≡◌, ◌∙◌, ap, inl, refl, subst, sym, List, ℕ, Some, true, false, codes}
use Rattle.rd_question.specs.IsrWords.{IsWhole, SaysIsr, SaysTwice, before_word, last_word}
use Rattle.rd_question.specs.declared.handler.NoHandler.{NoHandler}
use Rattle.rd_question.proofs.IsrLaws.{says_after, says_apart, says_times, says_twice}
use Rattle.rd_question.proofs.WrongLaws.{given_back}
use Rattle.rd_question.proofs.engine_isr.without_last.Goals as goal

pub returns-then-not-is_whole-clause-bare : goal.returns-then-not-is_whole-clause-bare
returns-then-not-is_whole-clause-bare c = λ none.
    let calls = c.last_word-2.ensures.front ∙ ap before_word c.last_word.ensures.front in
    inl (subst (λ (text : List ℕ). IsWhole text false) calls (subst (IsWhole c.last_word-2.result.0.now) c.if-not-is_whole.true c.is_whole.ensures))

pub returns-in_err-times-in-times-clause-twice : goal.returns-in_err-times-in-times-clause-twice
returns-in_err-times-in-times-clause-twice c =
    let why = c.in_err-times-in-times.field-0.0 in
    let calls = c.last_word-2.ensures.front ∙ ap before_word c.last_word.ensures.front in
    let whole = subst (λ (text : List ℕ). IsWhole text true) calls (subst (IsWhole c.last_word-2.result.0.now) c.if-not-is_whole.false c.is_whole.ensures) in
    let name = sym (c.last_word-2.ensures.word ∙ ap last_word c.last_word.ensures.front) ∙ c.in-times.is in
    given_back c.from_residual.result why (λ (w : NoHandler). (text : List ℕ) → SaysIsr text c.args.said → SaysTwice text w) c.from_residual.ensures.1
    (λ text s. says_twice text (codes "times") c.args.said c.args.said.times why _ s whole name s.times c.in_err-times-in-times.ensures.twice.1 c.in_err-times-in-times.ensures.twice.0 refl)

pub returns-in_ok-times-in-times-clause-says : goal.returns-in_ok-times-in-times-clause-says
returns-in_ok-times-in-times-clause-says c = λ text s.
    let calls = c.last_word-2.ensures.front ∙ ap before_word c.last_word.ensures.front in
    let whole = subst (λ (text : List ℕ). IsWhole text true) calls (subst (IsWhole c.last_word-2.result.0.now) c.if-not-is_whole.false c.is_whole.ensures) in
    let name = sym (c.last_word-2.ensures.word ∙ ap last_word c.last_word.ensures.front) ∙ c.in-times.is in
    says_times text c.args.said _ s whole name calls c.in_ok-times-in-times.ensures.once (c.in_ok-times-in-times.ensures.said ∙ ap Some c.last_word.ensures.word) refl refl

pub returns-in_err-after-in-after-clause-twice : goal.returns-in_err-after-in-after-clause-twice
returns-in_err-after-in-after-clause-twice c =
    let why = c.in_err-after-in-after.field-0.0 in
    let calls = c.last_word-2.ensures.front ∙ ap before_word c.last_word.ensures.front in
    let whole = subst (λ (text : List ℕ). IsWhole text true) calls (subst (IsWhole c.last_word-2.result.0.now) c.if-not-is_whole.false c.is_whole.ensures) in
    let name = sym (c.last_word-2.ensures.word ∙ ap last_word c.last_word.ensures.front) ∙ c.in-after.is in
    given_back c.from_residual-in_err-after-in-after.result why (λ (w : NoHandler). (text : List ℕ) → SaysIsr text c.args.said → SaysTwice text w) c.from_residual-in_err-after-in-after.ensures.1
    (λ text s. says_twice text (codes "after") c.args.said c.args.said.after why _ s whole name s.after c.in_err-after-in-after.ensures.twice.1 c.in_err-after-in-after.ensures.twice.0 refl)

pub returns-in_ok-after-in-after-clause-says : goal.returns-in_ok-after-in-after-clause-says
returns-in_ok-after-in-after-clause-says c = λ text s.
    let calls = c.last_word-2.ensures.front ∙ ap before_word c.last_word.ensures.front in
    let whole = subst (λ (text : List ℕ). IsWhole text true) calls (subst (IsWhole c.last_word-2.result.0.now) c.if-not-is_whole.false c.is_whole.ensures) in
    let name = sym (c.last_word-2.ensures.word ∙ ap last_word c.last_word.ensures.front) ∙ c.in-after.is in
    says_after text c.args.said _ s whole name calls c.in_ok-after-in-after.ensures.once (c.in_ok-after-in-after.ensures.said ∙ ap Some c.last_word.ensures.word) refl refl

pub returns-in_err-apart-in-apart-clause-twice : goal.returns-in_err-apart-in-apart-clause-twice
returns-in_err-apart-in-apart-clause-twice c =
    let why = c.in_err-apart-in-apart.field-0.0 in
    let calls = c.last_word-2.ensures.front ∙ ap before_word c.last_word.ensures.front in
    let whole = subst (λ (text : List ℕ). IsWhole text true) calls (subst (IsWhole c.last_word-2.result.0.now) c.if-not-is_whole.false c.is_whole.ensures) in
    let name = sym (c.last_word-2.ensures.word ∙ ap last_word c.last_word.ensures.front) ∙ c.in-apart.is in
    given_back c.from_residual-in_err-apart-in-apart.result why (λ (w : NoHandler). (text : List ℕ) → SaysIsr text c.args.said → SaysTwice text w) c.from_residual-in_err-apart-in-apart.ensures.1
    (λ text s. says_twice text (codes "apart") c.args.said c.args.said.apart why _ s whole name s.apart c.in_err-apart-in-apart.ensures.twice.1 c.in_err-apart-in-apart.ensures.twice.0 refl)

pub returns-in_ok-apart-in-apart-clause-says : goal.returns-in_ok-apart-in-apart-clause-says
returns-in_ok-apart-in-apart-clause-says c = λ text s.
    let calls = c.last_word-2.ensures.front ∙ ap before_word c.last_word.ensures.front in
    let whole = subst (λ (text : List ℕ). IsWhole text true) calls (subst (IsWhole c.last_word-2.result.0.now) c.if-not-is_whole.false c.is_whole.ensures) in
    let name = sym (c.last_word-2.ensures.word ∙ ap last_word c.last_word.ensures.front) ∙ c.in-apart.is in
    says_apart text c.args.said _ s whole name calls c.in_ok-apart-in-apart.ensures.once (c.in_ok-apart-in-apart.ensures.said ∙ ap Some c.last_word.ensures.word) refl refl
