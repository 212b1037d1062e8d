-- The goal of command: what each step sets.
use Rattle.std.proofs.Common.{◌∙◌, true, ap, ap₂}
use Rattle.std.proofs.lemmas.Result.{IfOk-weaker}
use Rattle.clap.specs.Words.{App, with_subcommand}
use Rattle.clap.specs.Simple.{app_of_fields, on_top}
use Rattle.rd_start.proofs.options.command.Goals as goal

pub returns : goal.returns
returns c =
    let described = ap app_of_fields c.after_help.ensures ∙ (ap app_of_fields c.about.ensures ∙ c.new.ensures.app) in
    let named = ap app_of_fields c.in_ok-bin_name.ensures.0 ∙ described in
    let no_name = ap app_of_fields c.no_binary_name.ensures ∙ ap (on_top (λ s. record s { no_binary_name = true })) named in
    let top_is = ap app_of_fields c.subcommand_required.ensures ∙ ap (on_top (λ s. record s { subcommand_required = true })) no_name in
    let run_is = ap (λ (a : App). a.top) c.in_ok-run.ensures.line in
    let serve_is = ap (λ (a : App). a.top) c.in_ok-serve.ensures.line in
    let with_run = c.in_ok-subcommand.ensures.shape c.in_ok-run.ensures.local ∙ ap₂ with_subcommand top_is run_is in
    IfOk-weaker c.subcommand-2.result _ _
    (λ line added. added.shape c.in_ok-serve.ensures.local ∙ ap₂ with_subcommand with_run serve_is)
    c.subcommand-2.ensures
