-- A queue that is read is spelled by its value, and what spells a queue is read.
use Rattle.std.proofs.Common.{◌≡◌, ◌∙◌, ℕ, codes, List, Some, Ok, refl, ap, subst, arith}
use Rattle.serde_json.specs.Data.{Data, number, unsigned, string}
use Rattle.rd_app.specs.declared.objects.QueueShape.{QueueShape}
use Rattle.rd_app.specs.Objects.{IsQueueShape}
use Rattle.rd_script.specs.Values.{object_with, field, number_in, new_name}
use Rattle.rd_script.specs.Objects.{IsQueue, queue_keys, queue_of}
use Rattle.rd_text.proofs.Offered.{IsNewName}
use Rattle.rd_script.proofs.Steps.{bind_ok, then_is}
use Rattle.rd_script.proofs.ValueLaws.{object_again, field_again, name_again, limits_again, object_ok, field_ok, number_ok, name_ok}

pub queue_takes : (names : List (List ℕ)) (d : Data) (q : List ℕ × QueueShape) → queue_of names d ≡ Ok q
    → IsQueue d q.0 q.1 × IsNewName names q.0 × IsQueueShape q.1
unfolding queue_of
queue_takes names d q e =
    let keys = bind_ok (object_with queue_keys d) _ q e in
    let name = bind_ok (field (codes "name") d) _ q keys.2 in
    let length = bind_ok (field (codes "length") d) _ q name.2 in
    let size = bind_ok (field (codes "item") d) _ q length.2 in
    let text = bind_ok (new_name names name.0) _ q size.2 in
    let capacity = bind_ok (number_in 1 64 length.0) _ q text.2 in
    let item_size = bind_ok (number_in 1 64 size.0) _ q capacity.2 in
    let is : (text.0, record { capacity = capacity.0; item_size = item_size.0 }) ≡ q = cc in
    let named = name_ok names name.0 text.0 text.1 in
    let first = number_ok 1 64 length.0 capacity.0 capacity.1 in
    let second = number_ok 1 64 size.0 item_size.0 item_size.1 in
    subst (λ (q : List ℕ × QueueShape). IsQueue d q.0 q.1 × IsNewName names q.0 × IsQueueShape q.1) is (
      record {
        keys = object_ok queue_keys d keys.0 keys.1;
        name_at = field_ok (codes "name") d name.0 name.1 ∙ ap Some named.0;
        length_at = field_ok (codes "length") d length.0 length.1 ∙ ap Some first.0;
        item_at = field_ok (codes "item") d size.0 size.1 ∙ ap Some second.0;
      },
      record { named = named.1; fresh = named.2 },
      (omega (arith, first.1), first.2, omega (arith, second.1), second.2),
    )

-- ---- what spells a queue is read

pub queue_again : (names : List (List ℕ)) (d : Data) (name : List ℕ) (shape : QueueShape) → IsQueue d name shape → IsNewName names name → IsQueueShape shape
    → queue_of names d ≡ Ok (name, shape)
unfolding queue_of
queue_again names d name shape h new limits =
    then_is (object_with queue_keys d) _ tt _ (object_again queue_keys d h.keys)
    (then_is (field (codes "name") d) _ (string name) _ (field_again (codes "name") d _ h.name_at)
    (then_is (field (codes "length") d) _ (number (unsigned shape.capacity)) _ (field_again (codes "length") d _ h.length_at)
    (then_is (field (codes "item") d) _ (number (unsigned shape.item_size)) _ (field_again (codes "item") d _ h.item_at)
    (then_is (new_name names (string name)) _ name _ (name_again names (string name) name refl new.named new.fresh)
    (then_is (number_in 1 64 (number (unsigned shape.capacity))) _ shape.capacity _ (limits_again 1 64 shape.capacity (omega (arith, limits.0)) limits.1)
    (then_is (number_in 1 64 (number (unsigned shape.item_size))) _ shape.item_size _ (limits_again 1 64 shape.item_size (omega (arith, limits.2)) limits.3)
    refl))))))
