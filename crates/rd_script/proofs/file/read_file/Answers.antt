-- The goals of read_file that the check left open.
use Rattle.std.proofs.Common.{rules, ◌∙◌, sym}
use Rattle.serde_json.specs.View.{view}
use Rattle.rd_script.specs.Draft.{app_draft_view}
use Rattle.rd_script.proofs.AppLaws.{checked_app, fault_found}
use Rattle.rd_script.proofs.file.read_file.Goals as goal

pub keep-requires : goal.keep-requires
keep-requires c =
    checked_app (view c.args.file.now) (app_draft_view c.in_ok-draft.draft) c.in_ok-draft.ensures
    (rw (← c.as_slice.ensures.value, ← c.scope.ensures) (sym c.check_scripts.ensures ∙ c.in_ok-check_scripts.was))

pub returns-in_err-check_scripts : goal.returns-in_err-check_scripts
returns-in_err-check_scripts c =
    let fault = c.in_err-check_scripts.field-0.0 in
    let found =
    fault_found (view c.args.file.now) (app_draft_view c.in_ok-draft.draft) fault c.in_ok-draft.ensures
    (rw (← c.as_slice.ensures.value, ← c.scope.ensures) (sym c.check_scripts.ensures ∙ c.in_err-check_scripts.was)) in
    rw found (search rules)
