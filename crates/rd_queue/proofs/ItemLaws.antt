-- Laws of items of one size that lie one after the other in a list of bytes.
use Rattle.std.proofs.Common.{◌≡◌, ◌∙◌, ℕ, zero, suc, ◌+◌, ◌*◌, ◌/◌, ◌<◌, ◌≤◌, List, [], ◌∷◌, ◌++◌, length, get_or, set, take, drop, refl, ap, ap₂, sym, arith}
use Rattle.std.proofs.Math.Nat.{mul-div_cancel}
use Rattle.std.proofs.lemmas.List.{length-append, length-take-le, length-drop, take_at, drop_at, drop-drop, take_all, take-append-le, drop-append-le, take-append-drop, get_or_at, set_at, nil_from_length}
use Rattle.std.proofs.lemmas.List.Elements.{All-nil, All-cons, All-head, All-tail}
use Rattle.std.specs.List.{concat}
use Rattle.std.specs.Prelude.{All}
use Rattle.rd_ring.specs.Rings.{with_piece}
use Rattle.rd_queue.specs.Queues.{count_in, first_items, items_in}

-- ---- so many items, read from their bytes

-- As many items are read as are asked for, each of that size.
pub length-first_items : (size count : ℕ) (bytes : List ℕ) → length (first_items size count bytes) ≡ count
length-first_items size zero bytes = refl
length-first_items size (suc count) bytes = ap suc (length-first_items size count (drop size bytes))

pub All-first_items : (size count : ℕ) (bytes : List ℕ) → length bytes ≡ count * size → All (λ (i : List ℕ). length i ≡ size) (first_items size count bytes)
All-first_items size zero bytes whole = All-nil (λ (i : List ℕ). length i ≡ size)
All-first_items size (suc count) bytes whole =
    let more : size ≤ length bytes = omega (arith, whole) in
    All-cons (λ (i : List ℕ). length i ≡ size) (take size bytes) (first_items size count (drop size bytes)) (length-take-le size bytes more)
    (All-first_items size count (drop size bytes) (omega (arith, whole, length-drop size bytes)))

-- Together they are the bytes again.
concat-first_items : (size count : ℕ) (bytes : List ℕ) → length bytes ≡ count * size → concat (first_items size count bytes) ≡ bytes
concat-first_items size zero bytes whole = sym (nil_from_length bytes (omega (arith, whole)))
concat-first_items size (suc count) bytes whole =
    ap (λ (rest : List ℕ). take size bytes ++ rest) (concat-first_items size count (drop size bytes) (omega (arith, whole, length-drop size bytes)))
    ∙ take-append-drop size bytes

-- Bytes behind them are more items.
first_items-append : (size count more : ℕ) (front back : List ℕ) → length front ≡ count * size
    → first_items size (count + more) (front ++ back) ≡ first_items size count front ++ first_items size more back
first_items-append size zero more front back whole =
    let none : front ≡ [] = nil_from_length front (omega (arith, whole)) in
    let count : 0 + more ≡ more = omega arith in
    ap₂ (λ (n : ℕ) (bytes : List ℕ). first_items size n (bytes ++ back)) count none
first_items-append size (suc count) more front back whole =
    let enough : size ≤ length front = omega (arith, whole) in
    let next : suc count + more ≡ suc (count + more) = omega arith in
    ap (λ (n : ℕ). first_items size n (front ++ back)) next
    ∙ ap₂ (λ (item rest : List ℕ). item ∷ first_items size (count + more) rest) (take-append-le size front back enough) (drop-append-le size front back enough)
    ∙ ap (λ (items : List (List ℕ)). take size front ∷ items)
    (first_items-append size count more (drop size front) back (omega (arith, whole, length-drop size front)))

-- ---- all items

-- how many lie in the bytes of so many
pub count_in_whole : (size count : ℕ) (bytes : List ℕ) → 0 < size → length bytes ≡ count * size → count_in size bytes ≡ count
count_in_whole size count bytes some whole = ap (λ n. n / size) whole ∙ mul-div_cancel count some

pub length-items_in : (size : ℕ) (bytes : List ℕ) → length (items_in size bytes) ≡ count_in size bytes
length-items_in size bytes = length-first_items size (count_in size bytes) bytes

items_in_whole : (size count : ℕ) (bytes : List ℕ) → 0 < size → length bytes ≡ count * size → items_in size bytes ≡ first_items size count bytes
items_in_whole size count bytes some whole = ap (λ n. first_items size n bytes) (count_in_whole size count bytes some whole)

items_in-one : (size : ℕ) (item : List ℕ) → 0 < size → length item ≡ size → items_in size item ≡ item ∷ []
items_in-one size item some is =
    items_in_whole size 1 item some (omega (arith, is)) ∙ ap (λ (i : List ℕ). i ∷ []) (take_all size item (omega (arith, is)))

pub concat-items_in : (size : ℕ) (bytes : List ℕ) → length bytes ≡ count_in size bytes * size → concat (items_in size bytes) ≡ bytes
concat-items_in size bytes whole = concat-first_items size (count_in size bytes) bytes whole

-- Bytes whose items are the same are the same.
pub same_items : (size : ℕ) (bytes others : List ℕ) → length bytes ≡ count_in size bytes * size → length others ≡ count_in size others * size
    → items_in size bytes ≡ items_in size others → bytes ≡ others
same_items size bytes others whole others_whole same =
    sym (concat-items_in size bytes whole) ∙ ap concat same ∙ concat-items_in size others others_whole

-- Two parts of whole items, one behind the other.
pub whole-append : (size count more : ℕ) (front back : List ℕ) → length front ≡ count * size → length back ≡ more * size
    → length (front ++ back) ≡ (count + more) * size
whole-append size count more front back whole back_whole = omega (arith, length-append front back, whole, back_whole)

items_in-append : (size count more : ℕ) (front back : List ℕ) → 0 < size → length front ≡ count * size → length back ≡ more * size
    → items_in size (front ++ back) ≡ items_in size front ++ items_in size back
items_in-append size count more front back some whole back_whole =
    items_in_whole size (count + more) (front ++ back) some (whole-append size count more front back whole back_whole)
    ∙ first_items-append size count more front back whole
    ∙ sym (ap₂ (λ (xs ys : List (List ℕ)). xs ++ ys) (items_in_whole size count front some whole) (items_in_whole size more back some back_whole))

-- ---- items of one size, and their bytes

pub length-concat : (size : ℕ) (items : List (List ℕ)) → All (λ (i : List ℕ). length i ≡ size) items → length (concat items) ≡ length items * size
length-concat size [] all = omega arith
length-concat size (item ∷ items) all =
    let one : length item ≡ size = All-head (λ (i : List ℕ). length i ≡ size) item items all in
    let rest = length-concat size items (All-tail (λ (i : List ℕ). length i ≡ size) item items all) in
    omega (arith, length-append item (concat items), one, rest)

pub count_in-concat : (size : ℕ) (items : List (List ℕ)) → 0 < size → All (λ (i : List ℕ). length i ≡ size) items → count_in size (concat items) ≡ length items
count_in-concat size items some all = ap (λ n. n / size) (length-concat size items all) ∙ mul-div_cancel (length items) some

-- They are read back from their bytes.
first_items-concat : (size : ℕ) (items : List (List ℕ)) → All (λ (i : List ℕ). length i ≡ size) items
    → first_items size (length items) (concat items) ≡ items
first_items-concat size [] all = refl
first_items-concat size (item ∷ items) all =
    let one : length item ≡ size = All-head (λ (i : List ℕ). length i ≡ size) item items all in
    let rest = first_items-concat size items (All-tail (λ (i : List ℕ). length i ≡ size) item items all) in
    ap (λ (i : List ℕ). i ∷ first_items size (length items) (drop size (item ++ concat items))) (take_at item (concat items) size one)
    ∙ ap (λ (bytes : List ℕ). item ∷ first_items size (length items) bytes) (drop_at item (concat items) size one)
    ∙ ap (λ (is : List (List ℕ)). item ∷ is) rest

pub items_in-concat : (size : ℕ) (items : List (List ℕ)) → 0 < size → All (λ (i : List ℕ). length i ≡ size) items → items_in size (concat items) ≡ items
items_in-concat size items some all =
    ap (λ count. first_items size count (concat items)) (count_in-concat size items some all) ∙ first_items-concat size items all

-- ---- items put in at an end, and taken out there

pub items_in-push_back : (size : ℕ) (bytes item : List ℕ) → 0 < size → length bytes ≡ count_in size bytes * size → length item ≡ size
    → items_in size (bytes ++ item) ≡ items_in size bytes ++ item ∷ []
items_in-push_back size bytes item some whole is =
    items_in-append size (count_in size bytes) 1 bytes item some whole (omega (arith, is))
    ∙ ap (λ (items : List (List ℕ)). items_in size bytes ++ items) (items_in-one size item some is)

pub items_in-push_front : (size count : ℕ) (item bytes : List ℕ) → 0 < size → length item ≡ size → length bytes ≡ count * size
    → items_in size (item ++ bytes) ≡ item ∷ items_in size bytes
items_in-push_front size count item bytes some is whole =
    items_in-append size 1 count item bytes some (omega (arith, is)) whole
    ∙ ap (λ (items : List (List ℕ)). items ++ items_in size bytes) (items_in-one size item some is)

-- before and behind an item
items_in-parts : (size count more : ℕ) (front item back : List ℕ) → 0 < size → length front ≡ count * size → length item ≡ size → length back ≡ more * size
    → items_in size (front ++ (item ++ back)) ≡ items_in size front ++ item ∷ items_in size back
items_in-parts size count more front item back some whole is back_whole =
    items_in-append size count (1 + more) front (item ++ back) some whole (omega (arith, length-append item back, is, back_whole))
    ∙ ap (λ (items : List (List ℕ)). items_in size front ++ items) (items_in-push_front size more item back some is back_whole)

-- The bytes before an item, its own, and those behind it: so many items are before it, and `more` behind it.
record ItemParts (size at count more : ℕ) (bytes : List ℕ) : Type 0 where
  front : length (take at bytes) ≡ count * size
  item : length (take size (drop at bytes)) ≡ size
  back : length (drop (at + size) bytes) ≡ more * size
  joined : take at bytes ++ (take size (drop at bytes) ++ drop (at + size) bytes) ≡ bytes

parts_at : (size at count more : ℕ) (bytes : List ℕ) → at ≡ count * size → length bytes ≡ (count + suc more) * size → ItemParts size at count more bytes
parts_at size at count more bytes is whole = record {
  front = length-take-le at bytes (omega (arith, is, whole)) ∙ is;
  item = length-take-le size (drop at bytes) (omega (arith, length-drop at bytes, is, whole));
  back = omega (arith, length-drop (at + size) bytes, is, whole);
  joined =
      ap (λ (rest : List ℕ). take at bytes ++ (take size (drop at bytes) ++ rest)) (sym (drop-drop size at bytes))
      ∙ ap (λ (rest : List ℕ). take at bytes ++ rest) (take-append-drop size (drop at bytes)) ∙ take-append-drop at bytes;
}

items_in-at : (size at count more : ℕ) (bytes : List ℕ) → 0 < size → at ≡ count * size → length bytes ≡ (count + suc more) * size
    → items_in size bytes ≡ items_in size (take at bytes) ++ take size (drop at bytes) ∷ items_in size (drop (at + size) bytes)
items_in-at size at count more bytes some is whole =
    let parts = parts_at size at count more bytes is whole in
    ap (λ (all : List ℕ). items_in size all) (sym parts.joined)
    ∙ items_in-parts size count more (take at bytes) (take size (drop at bytes)) (drop (at + size) bytes) some parts.front parts.item parts.back

length-items_before : (size at count more : ℕ) (bytes : List ℕ) → 0 < size → at ≡ count * size → length bytes ≡ (count + suc more) * size
    → length (items_in size (take at bytes)) ≡ count
length-items_before size at count more bytes some is whole =
    length-items_in size (take at bytes) ∙ count_in_whole size count (take at bytes) some (parts_at size at count more bytes is whole).front

-- the item at an index
pub item_at : (size at count more : ℕ) (bytes : List ℕ) → 0 < size → at ≡ count * size → length bytes ≡ (count + suc more) * size
    → take size (drop at bytes) ≡ get_or (items_in size bytes) count []
item_at size at count more bytes some is whole =
    sym (ap (λ (items : List (List ℕ)). get_or items count []) (items_in-at size at count more bytes some is whole)
    ∙ get_or_at (items_in size (take at bytes)) (take size (drop at bytes)) (items_in size (drop (at + size) bytes)) [] count
    (length-items_before size at count more bytes some is whole))

-- an item in the place of the one at an index
pub items_in-with_piece : (size at count more : ℕ) (bytes item : List ℕ) → 0 < size → at ≡ count * size → length bytes ≡ (count + suc more) * size
    → length item ≡ size → items_in size (with_piece bytes at item) ≡ set (items_in size bytes) count item
items_in-with_piece size at count more bytes item some is whole fits =
    let parts = parts_at size at count more bytes is whole in
    let front = items_in size (take at bytes) in
    let back = items_in size (drop (at + size) bytes) in
    ap (λ (n : ℕ). items_in size (take at bytes ++ (item ++ drop (at + n) bytes))) fits
    ∙ items_in-parts size count more (take at bytes) item (drop (at + size) bytes) some parts.front fits parts.back
    ∙ sym (ap (λ (items : List (List ℕ)). set items count item) (items_in-at size at count more bytes some is whole)
    ∙ set_at front (take size (drop at bytes)) back item count (length-items_before size at count more bytes some is whole))

-- the items before the one at an index
pub items_before : (size at count more : ℕ) (bytes : List ℕ) → 0 < size → at ≡ count * size → length bytes ≡ (count + suc more) * size
    → items_in size (take at bytes) ≡ take count (items_in size bytes)
items_before size at count more bytes some is whole =
    sym (ap (λ (items : List (List ℕ)). take count items) (items_in-at size at count more bytes some is whole)
    ∙ take_at (items_in size (take at bytes)) (take size (drop at bytes) ∷ items_in size (drop (at + size) bytes)) count
    (length-items_before size at count more bytes some is whole))

-- the items behind the first
pub items_behind : (size more : ℕ) (bytes : List ℕ) → 0 < size → length bytes ≡ suc more * size → items_in size (drop size bytes) ≡ drop 1 (items_in size bytes)
items_behind size more bytes some whole =
    sym (ap (λ (items : List (List ℕ)). drop 1 items) (ap (λ (all : List ℕ). items_in size all) (sym (take-append-drop size bytes))
    ∙ items_in-push_front size more (take size bytes) (drop size bytes) some (length-take-le size bytes (omega (arith, whole)))
    (omega (arith, length-drop size bytes, whole))))
