use Rattle.std.proofs.Common.{◌≡◌, ◌⊎◌, ◌∙◌, ◌+◌, List, [], Err, ap, get_or, refl, subst, sym, take}
use Rattle.std.proofs.lemmas.List.{get_or_default, take_all}
use Rattle.std.specs.Borrow.{Bor}
use Rattle.clap.specs.Words.{Text, found_of, rows_of}
use Rattle.rd_question.specs.Asked.{AreEach}
use Rattle.rd_question.specs.CommandLine.{IsWrongIn}
use Rattle.rd_question.specs.Handlers.{HasCalls}
use Rattle.rd_question.specs.declared.handler.Handler.{Handler}
use Rattle.rd_question.specs.declared.handler.NoHandler.{NoHandler}
use Rattle.rd_question.specs.declared.handler.NoHandler.TheVariants.{NoMemory}
use Rattle.rd_question.proofs.AskedLaws.{AreEach-map, AreEach-more}
use Rattle.rd_question.proofs.LineLaws.{texts_found}
use Rattle.rd_question.proofs.WrongLaws.{given_back, wrong_in}
use Rattle.rd_question.proofs.isr_options.handlers_in.Goals as goal
use Rattle.std.specs.Prelude.{codes}

abbrev HasCallsOf : Bor Text → Handler → Type 0
HasCallsOf calls handler = HasCalls calls.now handler

nothing : Bor Text
nothing = record { ref_ptr = (0, 0); now = [] }

pub returns-in_err-handler-clause-wrong : goal.returns-in_err-handler-clause-wrong
returns-in_err-handler-clause-wrong c =
    let why = c.in_err-handler.field-0.0 in
    let h = c.in_err-handler.ensures in
    given_back c.from_residual-in_err-handler.result why (λ (w : NoHandler). (w ≡ NoMemory) ⊎ IsWrongIn (rows_of (found_of c.args.matches.now)) w) c.from_residual-in_err-handler.ensures.1
    (wrong_in (rows_of (found_of c.args.matches.now)) c.in_ok-said.said c.as_slice.result.now (Err why) why refl c.in_ok-said.ensures.options h.causes
    h.bad_times h.bad_after h.unlimited h.bad_apart)

pub loop-at-preserved : goal.loop-at-preserved
loop-at-preserved c =
    let said = c.unwrap_or-texts.result.now in
    let at = c.loop-at.at in
    let calls = get_or said at nothing in
    let handlers = c.loop-at.handlers.items in
    let handler = c.in_ok-handler.handler in
    let lt = c.loop-at-test.true in
    let same : c.in_ok-said.said.calls.now ≡ calls.now = c.in_ok-said.ensures.calls ∙ ap (λ (t : Bor Text). t.now) (get_or_default said at _ nothing lt) in
    let has : HasCallsOf calls handler = subst (λ (t : Text). HasCalls t handler) same c.in_ok-handler.ensures.calls in
    subst (λ (hs : List Handler). AreEach HasCallsOf (take (at + 1) said) hs) (sym c.in_ok-push.ensures.items)
    (AreEach-more HasCallsOf said at calls handlers handler lt (get_or_default said at nothing calls lt) c.loop-at.invariant has)

pub returns-clause-calls : goal.returns-clause-calls
returns-clause-calls c =
    let said = c.unwrap_or-texts.result.now in
    let all = texts_found (found_of c.args.matches.now) (codes "isr") c.get_strs.result _ c.unwrap_or-texts.result refl c.get_strs.ensures c.unwrap_or-texts.ensures in
    let each : AreEach HasCallsOf said c.loop-at.handlers.items =
    subst (λ (ts : List (Bor Text)). AreEach HasCallsOf ts c.loop-at.handlers.items) (take_all c.loop-at.at said c.loop-at-test.false) c.loop-at.invariant in
    subst (λ (ts : List Text). AreEach HasCalls ts c.loop-at.handlers.items) all
    (AreEach-map HasCalls (λ (t : Bor Text). t.now) said c.loop-at.handlers.items each)
