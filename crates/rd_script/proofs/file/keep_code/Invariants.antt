-- What holds in each turn of keep_code's loop.
use Rattle.rd_script.specs.Draft.{scope_view}
use Rattle.std.proofs.Common.{◌≡◌, [], drop, length}
use Rattle.serde_json.specs.View.{items_view}
use Rattle.rd_script.specs.File.{instrs_after}
use Rattle.rd_script.proofs.file.keep_code.Given as goal

-- the instructions so far, and those of the values that are left
abbrev pub invariant-loop-value : goal.invariant-loop-value
invariant-loop-value l =
    let scope = scope_view l.scope in
    instrs_after scope (length l.values) l.code.items (items_view (drop l.value-index l.values))
    ≡ instrs_after scope (length l.values) [] (items_view l.values)
