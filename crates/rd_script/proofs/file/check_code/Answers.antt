-- The goals of check_code that the check left open.
use Rattle.rd_script.specs.Draft.{scope_view}
use Rattle.serde_json.specs.View.{items_view}
use Rattle.rd_script.proofs.FileLemmas.{items_count}
use Rattle.rd_script.proofs.CheckLaws.{check_is}
use Rattle.rd_script.proofs.file.check_code.Goals as goal

pub loop-value-init : goal.loop-value-init
loop-value-init c =
    rw (← items_count c.args.values.now) (check_is (scope_view c.args.scope) (items_view c.args.values.now))
