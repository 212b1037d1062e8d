-- Laws of rings that hold items, one for each call of a queue.
use Rattle.std.proofs.Common.{◌≡◌, ◌∙◌, ℕ, suc, ◌+◌, ◌-◌, ◌*◌, ◌%◌, ◌<◌, ◌≤◌, ◌↔◌, List, [], ◌∷◌, ◌++◌, length, get_or, set, take, drop, refl, ap, sym, arith}
use Rattle.std.proofs.Math.Nat.{mul-le-mul_right, eq_of_mul-eq-mul_right, mul-mod_left}
use Rattle.std.proofs.lemmas.List.{length-append, length-take-le, length-drop}
use Rattle.std.specs.List.{concat}
use Rattle.rd_ring.proofs.Offered.{whole_pieces_stay_whole}
use Rattle.rd_ring.specs.RingView.{RingView}
use Rattle.rd_ring.specs.Rings.{HasWholePieces, with_contents, with_back, without_back, with_front, without_front, with_piece}
use Rattle.rd_queue.specs.ItemRings.{HoldsItems}
use Rattle.rd_queue.specs.Queues.{count_in, items_in}
use Rattle.rd_queue.proofs.ItemLaws.{count_in_whole, length-items_in, concat-items_in, same_items, whole-append, items_in-push_back, items_in-push_front, item_at, items_in-with_piece, items_before, items_behind}

-- A ring of so many whole items.
held : (ring : RingView) (capacity size count : ℕ) → HasWholePieces ring size → ring.capacity ≡ capacity * size → length ring.bytes ≡ count * size
    → count ≤ capacity → HoldsItems ring capacity size
held ring capacity size count pieces reserved whole room =
    let is = count_in_whole size count ring.bytes pieces.some_bytes whole in
    record { whole = whole ∙ ap (λ n. n * size) (sym is); room = omega (arith, is, room); reserved = reserved; pieces = pieces }

-- the items of a ring, of which one is at that index
record IsItem (ring : RingView) (size index : ℕ) : Type 0 where
  more : ℕ
  count : count_in size ring.bytes ≡ index + suc more
  whole : length ring.bytes ≡ (index + suc more) * size

is_item : (ring : RingView) (capacity size index : ℕ) → HoldsItems ring capacity size → index < length (items_in size ring.bytes) → IsItem ring size index
is_item ring capacity size index holds there =
    let more = count_in size ring.bytes - suc index in
    let count : count_in size ring.bytes ≡ index + suc more = omega (arith, there, length-items_in size ring.bytes) in
    record { more = more; count = count; whole = holds.whole ∙ ap (λ n. n * size) count }

whole_item : (size : ℕ) → size % size ≡ 0
whole_item size = ap (λ n. n % size) (omega arith) ∙ mul-mod_left 1 size

-- there is space for items that are put at the back, or for one at the front
pub held_back : (ring : RingView) (capacity size more : ℕ) (bytes : List ℕ) → HoldsItems ring capacity size → length bytes ≡ more * size
    → length (items_in size ring.bytes) + more ≤ capacity
    → (length ring.bytes + length bytes ≤ ring.capacity) × HoldsItems (with_back ring bytes) capacity size
held_back ring capacity size more bytes holds whole space =
    let count = count_in size ring.bytes in
    let fits : count + more ≤ capacity = omega (arith, space, length-items_in size ring.bytes) in (
      omega (arith, mul-le-mul_right size fits, holds.whole, whole, holds.reserved),
      held (with_back ring bytes) capacity size (count + more) ((whole_pieces_stay_whole size).changed ring (ring.bytes ++ bytes) holds.pieces) holds.reserved
          (whole-append size count more ring.bytes bytes holds.whole whole) fits,
    )

pub held_front : (ring : RingView) (capacity size : ℕ) (item : List ℕ) → HoldsItems ring capacity size → length item ≡ size
    → length (items_in size ring.bytes) < capacity
    → (length ring.bytes + length item ≤ ring.capacity) × HoldsItems (with_front ring item) capacity size
held_front ring capacity size item holds is space =
    let count = count_in size ring.bytes in
    let fits : 1 + count ≤ capacity = omega (arith, space, length-items_in size ring.bytes) in (
      omega (arith, mul-le-mul_right size fits, holds.whole, is, holds.reserved),
      held (with_front ring item) capacity size (1 + count)
          ((whole_pieces_stay_whole size).put_front ring item holds.pieces (ap (λ n. n % size) is ∙ whole_item size)) holds.reserved
          (whole-append size 1 count item ring.bytes (omega (arith, is)) holds.whole) fits,
    )

-- and bytes for one that is taken at the front, or at the back
pub held_without_front : (ring : RingView) (capacity size : ℕ) → HoldsItems ring capacity size → 0 < length (items_in size ring.bytes)
    → (size ≤ length ring.bytes) × HoldsItems (without_front ring size) capacity size
held_without_front ring capacity size holds some =
    let it = is_item ring capacity size 0 holds some in (
      omega (arith, it.whole),
      held (without_front ring size) capacity size it.more ((whole_pieces_stay_whole size).taken_front ring size holds.pieces (whole_item size)) holds.reserved
          (omega (arith, length-drop size ring.bytes, it.whole)) (omega (arith, it.count, holds.room)),
    )

last_item : (ring : RingView) (capacity size : ℕ) → HoldsItems ring capacity size → 0 < length (items_in size ring.bytes)
    → length ring.bytes ≡ (length (items_in size ring.bytes) - 1 + 1) * size
last_item ring capacity size holds some =
    let count : count_in size ring.bytes ≡ length (items_in size ring.bytes) - 1 + 1 = omega (arith, length-items_in size ring.bytes, some) in
    holds.whole ∙ ap (λ n. n * size) count

pub held_without_back : (ring : RingView) (capacity size : ℕ) → HoldsItems ring capacity size → 0 < length (items_in size ring.bytes)
    → (size ≤ length ring.bytes) × HoldsItems (without_back ring size) capacity size
held_without_back ring capacity size holds some =
    let before = length (items_in size ring.bytes) - 1 in
    let at = length ring.bytes - size in
    let whole = last_item ring capacity size holds some in (
      omega (arith, whole),
      held (without_back ring size) capacity size before ((whole_pieces_stay_whole size).changed ring (take at ring.bytes) holds.pieces) holds.reserved
          (length-take-le at ring.bytes (omega arith) ∙ omega (arith, whole)) (omega (arith, length-items_in size ring.bytes, holds.room)),
    )

-- an item in the place of another, which lies within the bytes
pub held_replaced : (ring : RingView) (capacity size index : ℕ) (item : List ℕ) → HoldsItems ring capacity size → index < length (items_in size ring.bytes)
    → length item ≡ size
    → (index * size + length item ≤ length ring.bytes) × HoldsItems (with_contents ring (with_piece ring.bytes (index * size) item)) capacity size
held_replaced ring capacity size index item holds there is =
    let it = is_item ring capacity size index holds there in
    let at = index * size in
    let new = with_piece ring.bytes at item in (
      omega (arith, it.whole, is),
      held (with_contents ring new) capacity size (count_in size ring.bytes) ((whole_pieces_stay_whole size).changed ring new holds.pieces) holds.reserved
          (omega (
            arith,
            length-append (take at ring.bytes) (item ++ drop (at + length item) ring.bytes),
            length-append item (drop (at + length item) ring.bytes),
            length-take-le at ring.bytes (omega (arith, it.whole)),
            length-drop (at + length item) ring.bytes,
            is,
            it.whole,
            holds.whole,
          )) holds.room,
    )

-- what the items are then
pub back_items : (ring : RingView) (capacity size : ℕ) (item : List ℕ) → HoldsItems ring capacity size → length item ≡ size
    → items_in size (ring.bytes ++ item) ≡ items_in size ring.bytes ++ item ∷ []
back_items ring capacity size item holds is = items_in-push_back size ring.bytes item holds.pieces.some_bytes holds.whole is

pub front_items : (ring : RingView) (capacity size : ℕ) (item : List ℕ) → HoldsItems ring capacity size → length item ≡ size
    → items_in size (item ++ ring.bytes) ≡ item ∷ items_in size ring.bytes
front_items ring capacity size item holds is =
    items_in-push_front size (count_in size ring.bytes) item ring.bytes holds.pieces.some_bytes is holds.whole

pub items_without_front : (ring : RingView) (capacity size : ℕ) → HoldsItems ring capacity size → 0 < length (items_in size ring.bytes)
    → items_in size (drop size ring.bytes) ≡ drop 1 (items_in size ring.bytes)
items_without_front ring capacity size holds some =
    let it = is_item ring capacity size 0 holds some in
    items_behind size it.more ring.bytes holds.pieces.some_bytes (omega (arith, it.whole))

pub items_without_back : (ring : RingView) (capacity size : ℕ) → HoldsItems ring capacity size → 0 < length (items_in size ring.bytes)
    → items_in size (take (length ring.bytes - size) ring.bytes) ≡ take (length (items_in size ring.bytes) - 1) (items_in size ring.bytes)
items_without_back ring capacity size holds some =
    let whole = last_item ring capacity size holds some in
    items_before size (length ring.bytes - size) (length (items_in size ring.bytes) - 1) 0 ring.bytes holds.pieces.some_bytes (omega (arith, whole)) whole

pub replaced_items : (ring : RingView) (capacity size index : ℕ) (item : List ℕ) → HoldsItems ring capacity size → index < length (items_in size ring.bytes)
    → length item ≡ size → items_in size (with_piece ring.bytes (index * size) item) ≡ set (items_in size ring.bytes) index item
replaced_items ring capacity size index item holds there is =
    let it = is_item ring capacity size index holds there in
    items_in-with_piece size (index * size) index it.more ring.bytes item holds.pieces.some_bytes refl it.whole is

-- the item at an index, and where it lies
pub item_of : (ring : RingView) (capacity size index : ℕ) → HoldsItems ring capacity size → index < length (items_in size ring.bytes)
    → (index * size + size ≤ length ring.bytes) × (take size (drop (index * size) ring.bytes) ≡ get_or (items_in size ring.bytes) index [])
item_of ring capacity size index holds there =
    let it = is_item ring capacity size index holds there in (
      omega (arith, it.whole),
      item_at size (index * size) index it.more ring.bytes holds.pieces.some_bytes refl it.whole,
    )

-- The ring is full where there are as many items as there is room for.
pub full_ring : (ring : RingView) (capacity size : ℕ) → HoldsItems ring capacity size
    → (length ring.bytes ≡ ring.capacity) ↔ (length (items_in size ring.bytes) ≡ capacity)
full_ring ring capacity size holds = (
  (λ same. length-items_in size ring.bytes ∙ eq_of_mul-eq-mul_right size holds.pieces.some_bytes (count_in size ring.bytes) capacity (sym holds.whole ∙ same ∙ holds.reserved)),
  (λ same. holds.whole ∙ ap (λ n. n * size) (sym (length-items_in size ring.bytes) ∙ same) ∙ sym holds.reserved),
)

-- A ring whose items are none has no bytes.
pub empty_bytes : (ring : RingView) (capacity size : ℕ) → HoldsItems ring capacity size → items_in size ring.bytes ≡ [] → ring.bytes ≡ []
empty_bytes ring capacity size holds none = sym (concat-items_in size ring.bytes holds.whole) ∙ ap concat none

-- Two rings with room for as many items have the same items where they have the same bytes.
pub same_ring_items : (ring other : RingView) (capacity size : ℕ) → HoldsItems ring capacity size → HoldsItems other capacity size
    → ((ring.bytes ≡ other.bytes) × (ring.capacity ≡ other.capacity)) ↔ (items_in size ring.bytes ≡ items_in size other.bytes)
same_ring_items ring other capacity size holds other_holds = (
  (λ same. ap (λ (bytes : List ℕ). items_in size bytes) same.0),
  (λ same. (same_items size ring.bytes other.bytes holds.whole other_holds.whole same, holds.reserved ∙ sym other_holds.reserved)),
)
