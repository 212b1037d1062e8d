-- What holds in each turn of check_scripts's loop.
use Rattle.rd_script.specs.Draft.{scope_view}
use Rattle.std.proofs.Common.{◌≡◌, [], drop, map}
use Rattle.rd_script.specs.Draft.{task_draft_view}
use Rattle.rd_script.specs.File.{checked, scripts_after}
use Rattle.rd_script.proofs.file.check_scripts.Given as goal

-- the drafts that are left decide
abbrev pub invariant-loop-draft : goal.invariant-loop-draft
invariant-loop-draft l =
    checked (scripts_after (scope_view l.scope) [] (map task_draft_view (drop l.draft-index l.drafts)))
    ≡ checked (scripts_after (scope_view l.scope) [] (map task_draft_view l.drafts))
