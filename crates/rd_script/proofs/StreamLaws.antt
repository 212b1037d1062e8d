-- A stream buffer that is read is spelled by its value, and what spells a stream buffer is read.
use Rattle.std.proofs.Common.{◌≡◌, ◌∙◌, ℕ, codes, List, Some, Ok, refl, ap, subst, arith}
use Rattle.serde_json.specs.Data.{Data, number, unsigned, string}
use Rattle.rd_app.specs.declared.objects.StreamShape.{StreamShape}
use Rattle.rd_app.specs.Objects.{IsStreamShape}
use Rattle.rd_script.specs.Values.{object_with, field, number_in, new_name}
use Rattle.rd_script.specs.Objects.{IsStream, stream_keys, stream_of}
use Rattle.rd_text.proofs.Offered.{IsNewName}
use Rattle.rd_script.proofs.Steps.{bind_ok, then_is}
use Rattle.rd_script.proofs.ValueLaws.{object_again, field_again, name_again, limits_again, object_ok, field_ok, number_ok, name_ok}

pub stream_takes : (names : List (List ℕ)) (d : Data) (s : List ℕ × StreamShape) → stream_of names d ≡ Ok s
    → IsStream d s.0 s.1 × IsNewName names s.0 × IsStreamShape s.1
unfolding stream_of
stream_takes names d s e =
    let keys = bind_ok (object_with stream_keys d) _ s e in
    let name = bind_ok (field (codes "name") d) _ s keys.2 in
    let size = bind_ok (field (codes "size") d) _ s name.2 in
    let level = bind_ok (field (codes "trigger") d) _ s size.2 in
    let text = bind_ok (new_name names name.0) _ s level.2 in
    let capacity = bind_ok (number_in 1 1024 size.0) _ s text.2 in
    let trigger = bind_ok (number_in 0 capacity.0 level.0) _ s capacity.2 in
    let is : (text.0, record { capacity = capacity.0; trigger = trigger.0 }) ≡ s = cc in
    let named = name_ok names name.0 text.0 text.1 in
    let first = number_ok 1 1024 size.0 capacity.0 capacity.1 in
    let second = number_ok 0 capacity.0 level.0 trigger.0 trigger.1 in
    subst (λ (s : List ℕ × StreamShape). IsStream d s.0 s.1 × IsNewName names s.0 × IsStreamShape s.1) is (
      record {
        keys = object_ok stream_keys d keys.0 keys.1;
        name_at = field_ok (codes "name") d name.0 name.1 ∙ ap Some named.0;
        size_at = field_ok (codes "size") d size.0 size.1 ∙ ap Some first.0;
        trigger_at = field_ok (codes "trigger") d level.0 level.1 ∙ ap Some second.0;
      },
      record { named = named.1; fresh = named.2 },
      (omega (arith, first.1), first.2, second.2),
    )

-- ---- what spells a stream buffer is read

pub stream_again : (names : List (List ℕ)) (d : Data) (name : List ℕ) (shape : StreamShape) → IsStream d name shape → IsNewName names name → IsStreamShape shape
    → stream_of names d ≡ Ok (name, shape)
unfolding stream_of
stream_again names d name shape h new limits =
    then_is (object_with stream_keys d) _ tt _ (object_again stream_keys d h.keys)
    (then_is (field (codes "name") d) _ (string name) _ (field_again (codes "name") d _ h.name_at)
    (then_is (field (codes "size") d) _ (number (unsigned shape.capacity)) _ (field_again (codes "size") d _ h.size_at)
    (then_is (field (codes "trigger") d) _ (number (unsigned shape.trigger)) _ (field_again (codes "trigger") d _ h.trigger_at)
    (then_is (new_name names (string name)) _ name _ (name_again names (string name) name refl new.named new.fresh)
    (then_is (number_in 1 1024 (number (unsigned shape.capacity))) _ shape.capacity _ (limits_again 1 1024 shape.capacity (omega (arith, limits.0)) limits.1)
    (then_is (number_in 0 shape.capacity (number (unsigned shape.trigger))) _ shape.trigger _
    (limits_again 0 shape.capacity shape.trigger (omega arith) limits.2)
    refl))))))
