-- What holds in each turn of are_texts's loop.
use Rattle.std.proofs.Common.{◌≡◌, drop}
use Rattle.serde_json.specs.View.{items_view}
use Rattle.rd_script.specs.File.{are_texts}
use Rattle.rd_script.proofs.file.are_texts.Given as goal

-- the values that are left decide
abbrev pub invariant-loop-value : goal.invariant-loop-value
invariant-loop-value l = are_texts (items_view (drop l.value-index l.values)) ≡ are_texts (items_view l.values)
