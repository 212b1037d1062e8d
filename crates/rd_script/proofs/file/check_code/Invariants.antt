-- What holds in each turn of check_code's loop.
use Rattle.rd_script.specs.Draft.{scope_view}
use Rattle.std.proofs.Common.{◌≡◌, drop, length}
use Rattle.serde_json.specs.View.{items_view}
use Rattle.rd_script.specs.File.{checked, instrs_of}
use Rattle.rd_script.proofs.CheckLaws.{check_values}
use Rattle.rd_script.proofs.file.check_code.Given as goal

-- the values that are left decide
abbrev pub invariant-loop-value : goal.invariant-loop-value
invariant-loop-value l =
    check_values (scope_view l.scope) (length l.values) l.ended (items_view (drop l.value-index l.values))
    ≡ checked (instrs_of (scope_view l.scope) (items_view l.values))
