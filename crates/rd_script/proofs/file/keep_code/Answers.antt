-- The goals of keep_code that the check left open.
use Rattle.rd_script.specs.Draft.{scope_view}
use Rattle.std.proofs.Common.{◌≡◌, ◌∙◌, ◌+◌, [], List, Ok, IsOk, ap, drop, is_ok, length, sym}
use Rattle.std.proofs.lemmas.List.{drop_all}
use Rattle.serde_json.specs.Data.{Items}
use Rattle.serde_json.specs.View.{view, items_view}
use Rattle.serde_json.specs.declared.value.Value.{Value}
use Rattle.rd_script.specs.File.{instrs_after}
use Rattle.rd_script.proofs.CheckLaws.{code_kept, value_is_ok, values_are_ok}
use Rattle.rd_script.proofs.FileLemmas.{items_count, items_from}
use Rattle.rd_script.proofs.file.keep_code.Goals as goal

pub unwrap-requires : goal.unwrap-requires
unwrap-requires c =
    let scope = scope_view c.args.scope in
    let values = c.args.values.now in
    let index = c.loop-value.value-index in
    let value = c.value-item.result in
    let code = c.loop-value.code.items in
    let all : IsOk (instrs_after scope (length values) [] (items_view values)) = rw (← items_count values) (values_are_ok scope (items_view values) c.requires) in
    let left = items_from values index value c.loop-value-test.true c.value-item.is in
    let here = ap is_ok (ap (λ (ds : Items). instrs_after scope (length values) code ds) (sym left) ∙ c.loop-value.invariant) ∙ all in
    ap is_ok c.read_value.ensures ∙ value_is_ok scope (length values) code (view value) (items_view (drop (index + 1) values)) here

pub returns : goal.returns
returns c =
    let scope = scope_view c.args.scope in
    let values = c.args.values.now in
    let code = c.loop-value.code.items in
    let none : drop c.loop-value.value-index values ≡ [] = drop_all c.loop-value.value-index values c.loop-value-test.false in
    let all : instrs_after scope (length values) [] (items_view values) ≡ Ok code =
    sym (ap (λ (vs : List Value). instrs_after scope (length values) code (items_view vs)) (sym none) ∙ c.loop-value.invariant) in
    code_kept scope (items_view values) code c.requires (rw (items_count values) all)
