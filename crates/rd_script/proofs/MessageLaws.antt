-- A message buffer that is read is spelled by its value, and what spells a message buffer is read.
use Rattle.std.proofs.Common.{◌≡◌, ◌∙◌, ℕ, codes, List, Some, Ok, refl, ap, subst}
use Rattle.serde_json.specs.Data.{Data, number, unsigned, string}
use Rattle.rd_app.specs.declared.objects.MessageShape.{MessageShape}
use Rattle.rd_app.specs.Objects.{IsMessageShape}
use Rattle.rd_script.specs.Values.{object_with, field, number_in, new_name}
use Rattle.rd_script.specs.Objects.{IsMessage, message_keys, message_of}
use Rattle.rd_text.proofs.Offered.{IsNewName}
use Rattle.rd_script.proofs.Steps.{bind_ok, then_is}
use Rattle.rd_script.proofs.ValueLaws.{object_again, field_again, name_again, limits_again, object_ok, field_ok, number_ok, name_ok}

pub message_takes : (names : List (List ℕ)) (d : Data) (m : List ℕ × MessageShape) → message_of names d ≡ Ok m
    → IsMessage d m.0 m.1 × IsNewName names m.0 × IsMessageShape m.1
unfolding message_of
message_takes names d m e =
    let keys = bind_ok (object_with message_keys d) _ m e in
    let name = bind_ok (field (codes "name") d) _ m keys.2 in
    let size = bind_ok (field (codes "size") d) _ m name.2 in
    let text = bind_ok (new_name names name.0) _ m size.2 in
    let capacity = bind_ok (number_in 5 1024 size.0) _ m text.2 in
    let is : (text.0, record { capacity = capacity.0 }) ≡ m = cc in
    let named = name_ok names name.0 text.0 text.1 in
    let sized = number_ok 5 1024 size.0 capacity.0 capacity.1 in
    subst (λ (m : List ℕ × MessageShape). IsMessage d m.0 m.1 × IsNewName names m.0 × IsMessageShape m.1) is (
      record {
        keys = object_ok message_keys d keys.0 keys.1;
        name_at = field_ok (codes "name") d name.0 name.1 ∙ ap Some named.0;
        size_at = field_ok (codes "size") d size.0 size.1 ∙ ap Some sized.0;
      },
      record { named = named.1; fresh = named.2 },
      (sized.1, sized.2),
    )

-- ---- what spells a message buffer is read

pub message_again : (names : List (List ℕ)) (d : Data) (name : List ℕ) (shape : MessageShape) → IsMessage d name shape → IsNewName names name → IsMessageShape shape
    → message_of names d ≡ Ok (name, shape)
unfolding message_of
message_again names d name shape h new limits =
    then_is (object_with message_keys d) _ tt _ (object_again message_keys d h.keys)
    (then_is (field (codes "name") d) _ (string name) _ (field_again (codes "name") d _ h.name_at)
    (then_is (field (codes "size") d) _ (number (unsigned shape.capacity)) _ (field_again (codes "size") d _ h.size_at)
    (then_is (new_name names (string name)) _ name _ (name_again names (string name) name refl new.named new.fresh)
    (then_is (number_in 5 1024 (number (unsigned shape.capacity))) _ shape.capacity _ (limits_again 5 1024 shape.capacity limits.0 limits.1)
    refl))))
