-- What holds in each turn of keep_scripts's loop.
use Rattle.rd_script.specs.Draft.{scope_view}
use Rattle.std.proofs.Common.{◌≡◌, [], drop, map}
use Rattle.rd_script.specs.Draft.{task_draft_view}
use Rattle.rd_script.specs.File.{scripts_after}
use Rattle.rd_script.proofs.file.keep_scripts.Given as goal

-- the scripts so far, and those of the drafts that are left
abbrev pub invariant-loop-draft : goal.invariant-loop-draft
invariant-loop-draft l =
    let scope = scope_view l.scope in
    scripts_after scope l.scripts.items (map task_draft_view (drop l.draft-index l.drafts))
    ≡ scripts_after scope [] (map task_draft_view l.drafts)
