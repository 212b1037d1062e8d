-- The goal of keep_program that the check left open.
use Rattle.std.proofs.Common.{rules}
use Rattle.std.proofs.lemmas.Result.{IfOk-weaker}
use Rattle.rd_script.specs.Draft.{app_draft_view}
use Rattle.rd_script.proofs.AppLaws.{draft_runs}
use Rattle.rd_script.proofs.file.keep_program.Goals as goal

pub returns : goal.returns
returns c =
    let read = rw (c.as_slice-tasks.ensures.value, c.scope.ensures) at c.in_ok-tasks.ensures in
    IfOk-weaker c.new.result _ _
    (λ program is. draft_runs (app_draft_view c.args.draft.now) c.in_ok-tasks.tasks.items program read (search (rules, is, c.in_ok-objects.ensures)))
    c.new.ensures
