-- The goal of new that the check left open.
use Rattle.std.proofs.Common.{◌≡◌, ◌∙◌, true, false, [], List, ℕ, String, Global, HashSet, ap, get_or, map, string_bytes, subst, sym}
use Rattle.rd_text.specs.Names.{AreDistinctNames}
use Rattle.rd_text.specs.Words.{is_name, texts}
use Rattle.rd_names.specs.NameSets.{names_among, with_name}
use Rattle.rd_names.proofs.SetLaws.{inserted, left_out, names_step, with_name-distinct}
use Rattle.rd_names.proofs.name_set.NameSet.new.Goals as goal
use Rattle.rd_names.proofs.name_set.NameSet.new.Goals.{then-is_name+in_ok-from_str+in_ok-insert, else-is_name}

pub loop-name-preserved : goal.loop-name-preserved
loop-name-preserved c =
    let names = c.args.names.now in
    let index = c.loop-name.name-index in
    let text = (get_or names index (record { ref_ptr = (0, 0); now = [] })).now in
    let before = map string_bytes c.loop-name.ordered.keys in
    let tested = ap is_name (sym c.as_bytes.ensures.value) ∙ sym c.is_name.ensures in
    let is : map string_bytes c.if-is_name.ordered.keys ≡ with_name before text = elim c.if-is_name.branch [
      | then-is_name+in_ok-from_str+in_ok-insert w ↦
          rw w.ordered-is (ap (λ (keys : List (String Global)). map string_bytes keys) w.in_ok-insert.ensures.keys
          ∙ inserted c.loop-name.ordered.keys w.in_ok-from_str.field-0 text w.in_ok-from_str.ensures.ok (tested ∙ w.if-is_name.true))
      | else-is_name w ↦ rw w.ordered-is (sym (left_out before text (tested ∙ w.if-is_name.false)))
    ] in (
      names_step before (map string_bytes c.if-is_name.ordered.keys) (names_among (texts names)) names index _ c.loop-name-test.true is c.loop-name.invariant.0,
      subst AreDistinctNames (sym is) (with_name-distinct before text c.loop-name.invariant.1),
    )
