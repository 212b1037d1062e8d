-- The goals of run_command: what each step adds.
use Rattle.std.proofs.Common.{◌∙◌, ◌||◌, Bool, ap, ap₂}
use Rattle.std.proofs.lemmas.Result.{IfOk-weaker}
use Rattle.clap.specs.Words.{with_rule}
use Rattle.clap.specs.Simple.{app_of_fields}
use Rattle.rd_start.proofs.options.run_command.Goals as goal

pub returns-clause-line : goal.returns-clause-line
returns-clause-line c =
    let named = ap app_of_fields c.about.ensures ∙ c.new.ensures.app in
    let with_app = c.in_ok-arg.ensures.shape c.app_arg.ensures.local ∙ ap₂ with_rule named c.app_arg.ensures.rule in
    let with_moves = c.in_ok-arg-2.ensures.shape c.moves_arg.ensures.local ∙ ap₂ with_rule with_app c.moves_arg.ensures.rule in
    IfOk-weaker c.arg-3.result _ _
    (λ run added. added.shape c.history_arg.ensures.local ∙ ap₂ with_rule with_moves c.history_arg.ensures.rule) c.arg-3.ensures

pub returns-clause-local : goal.returns-clause-local
returns-clause-local c =
    let named = ap (λ f. f.has_globals) c.about.ensures ∙ c.new.ensures.local in
    let either = λ (a b : Bool). a || b in
    let with_app = c.in_ok-arg.ensures.globals ∙ ap₂ either named c.app_arg.ensures.local in
    let with_moves = c.in_ok-arg-2.ensures.globals ∙ ap₂ either with_app c.moves_arg.ensures.local in
    IfOk-weaker c.arg-3.result _ _ (λ run added. added.globals ∙ ap₂ either with_moves c.history_arg.ensures.local) c.arg-3.ensures
