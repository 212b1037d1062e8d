-- An event group that is read is spelled by its value, and what spells an event group is read.
use Rattle.std.proofs.Common.{◌≡◌, ◌∙◌, ℕ, codes, List, Some, Ok, refl, ap, subst}
use Rattle.serde_json.specs.Data.{Data, string}
use Rattle.rd_app.specs.declared.objects.GroupShape.{GroupShape}
use Rattle.rd_script.specs.Values.{object_with, field, new_name}
use Rattle.rd_script.specs.Objects.{IsGroup, group_keys, group_of}
use Rattle.rd_text.proofs.Offered.{IsNewName}
use Rattle.rd_script.proofs.Steps.{bind_ok, then_is}
use Rattle.rd_script.proofs.ValueLaws.{object_again, field_again, name_again, object_ok, field_ok, name_ok}

pub group_takes : (names : List (List ℕ)) (d : Data) (g : List ℕ × GroupShape) → group_of names d ≡ Ok g → IsGroup d g.0 g.1 × IsNewName names g.0
unfolding group_of
group_takes names d g e =
    let keys = bind_ok (object_with group_keys d) _ g e in
    let name = bind_ok (field (codes "name") d) _ g keys.2 in
    let text = bind_ok (new_name names name.0) _ g name.2 in
    let is : (text.0, record {}) ≡ g = cc in
    let named = name_ok names name.0 text.0 text.1 in
    subst (λ (g : List ℕ × GroupShape). IsGroup d g.0 g.1 × IsNewName names g.0) is (
      record {
        keys = object_ok group_keys d keys.0 keys.1;
        name_at = field_ok (codes "name") d name.0 name.1 ∙ ap Some named.0;
      },
      record { named = named.1; fresh = named.2 },
    )

-- ---- what spells an event group is read

pub group_again : (names : List (List ℕ)) (d : Data) (name : List ℕ) (shape : GroupShape) → IsGroup d name shape → IsNewName names name
    → group_of names d ≡ Ok (name, shape)
unfolding group_of
group_again names d name shape h new =
    then_is (object_with group_keys d) _ tt _ (object_again group_keys d h.keys)
    (then_is (field (codes "name") d) _ (string name) _ (field_again (codes "name") d _ h.name_at)
    (then_is (new_name names (string name)) _ name _ (name_again names (string name) name refl new.named new.fresh)
    refl))
