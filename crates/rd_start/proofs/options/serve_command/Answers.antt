-- The goals of serve_command: what each step adds.
use Rattle.std.proofs.Common.{◌∙◌, ◌||◌, Bool, ap, ap₂}
use Rattle.std.proofs.lemmas.Result.{IfOk-weaker}
use Rattle.clap.specs.Words.{with_rule}
use Rattle.clap.specs.Simple.{app_of_fields}
use Rattle.rd_start.proofs.options.serve_command.Goals as goal

pub returns-clause-line : goal.returns-clause-line
returns-clause-line c =
    let named = ap app_of_fields c.about.ensures ∙ c.new.ensures.app in
    let with_app = c.in_ok-arg.ensures.shape c.served_app_arg.ensures.local ∙ ap₂ with_rule named c.served_app_arg.ensures.rule in
    let with_port = c.in_ok-arg-2.ensures.shape c.port_arg.ensures.local ∙ ap₂ with_rule with_app c.port_arg.ensures.rule in
    let with_sessions = c.in_ok-arg-3.ensures.shape c.sessions_arg.ensures.local ∙ ap₂ with_rule with_port c.sessions_arg.ensures.rule in
    let with_moves = c.in_ok-arg-4.ensures.shape c.moves_arg.ensures.local ∙ ap₂ with_rule with_sessions c.moves_arg.ensures.rule in
    IfOk-weaker c.arg-5.result _ _
    (λ serve added. added.shape c.history_arg.ensures.local ∙ ap₂ with_rule with_moves c.history_arg.ensures.rule) c.arg-5.ensures

pub returns-clause-local : goal.returns-clause-local
returns-clause-local c =
    let named = ap (λ f. f.has_globals) c.about.ensures ∙ c.new.ensures.local in
    let either = λ (a b : Bool). a || b in
    let with_app = c.in_ok-arg.ensures.globals ∙ ap₂ either named c.served_app_arg.ensures.local in
    let with_port = c.in_ok-arg-2.ensures.globals ∙ ap₂ either with_app c.port_arg.ensures.local in
    let with_sessions = c.in_ok-arg-3.ensures.globals ∙ ap₂ either with_port c.sessions_arg.ensures.local in
    let with_moves = c.in_ok-arg-4.ensures.globals ∙ ap₂ either with_sessions c.moves_arg.ensures.local in
    IfOk-weaker c.arg-5.result _ _ (λ serve added. added.globals ∙ ap₂ either with_moves c.history_arg.ensures.local) c.arg-5.ensures
