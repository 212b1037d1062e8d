-- The goals of check_scripts that the check left open.
use Rattle.rd_script.specs.Draft.{scope_view}
use Rattle.std.proofs.Common.{◌∙◌, ◌+◌, [], List, ap, drop, map, sym}
use Rattle.rd_script.specs.Draft.{task_draft_view}
use Rattle.rd_script.specs.File.{TaskDraft, checked, scripts_after}
use Rattle.rd_script.proofs.CheckLaws.{map_from, scripts_checked}
use Rattle.rd_script.proofs.file.check_scripts.Goals as goal

pub loop-draft-preserved : goal.loop-draft-preserved
loop-draft-preserved c =
    let scope = scope_view c.args.scope in
    let drafts = c.args.drafts.now in
    let index = c.loop-draft.draft-index in
    let draft = c.draft-item.result in
    let left = map_from task_draft_view drafts index draft c.loop-draft-test.true c.draft-item.is in
    let same =
    scripts_checked scope (task_draft_view draft) (map task_draft_view (drop (index + 1) drafts)) (sym c.check_code.ensures ∙ c.in_ok-check_code.was) in
    sym same ∙ ap (λ (ds : List TaskDraft). checked (scripts_after scope [] ds)) (sym left) ∙ c.loop-draft.invariant
