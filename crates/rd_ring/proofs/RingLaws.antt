-- Laws of rings: their bytes are the first so many of a memory, seen from where the front lies.
use Rattle.std.proofs.Common.{◌≡◌, ◌∙◌, ℕ, suc, ◌+◌, ◌-◌, ◌%◌, ◌<◌, ◌≤◌, List, [], ◌∷◌, ◌++◌, length, get_or, set, take, drop, refl, ap, ap₂, sym, arith, append_assoc}
use Rattle.std.proofs.Math.Seq.{take-append-add}
use Rattle.std.proofs.lemmas.List.{length-append, length-drop, length-set, length-take-le, take-append-le, drop-append-le}
use Rattle.std.proofs.lemmas.List.{take_at, drop_at, take-take, drop-drop, drop-take, get_or-take, set_split}
use Rattle.rd_ring.specs.Memory.{IsOffset, seen_from, offset_after, offset_before}
use Rattle.rd_ring.specs.RingView.{RingView}
use Rattle.rd_ring.specs.Rings.{with_contents, with_front, without_front, with_piece, HasWholePieces}
use Rattle.rd_ring.proofs.OffsetLaws.{IsOffset-offset_after, whole_piece_fits, whole-offset_after}
use Rattle.rd_ring.proofs.MemoryLaws.{length-seen_from, seen_from-rest, seen_from-offset_after, first-seen_from, seen_from-set}

-- ---- bytes put in; `old` and `new` are the memory as it is seen from the front, before and after

-- seen from where the piece begins, it stands first: so it stands there
with_piece-seen_from : (old new piece : List ℕ) (at : ℕ) → at + length piece ≤ length old → length new ≡ length old
    → seen_from at new ≡ piece ++ drop (length piece) (seen_from at old) → new ≡ with_piece old at piece
with_piece-seen_from old new piece at fits same_length written =
    let n = length piece in
    let rest = drop (at + n) old in
    sym (seen_from-rest at new) ∙ ap (λ (x : List ℕ). seen_from (length new - at) x) written
    ∙ ap (λ (x : List ℕ). seen_from (length new - at) (piece ++ x))
    (drop-append-le n (drop at old) (take at old) (omega (arith, length-drop at old)) ∙ ap (λ (x : List ℕ). x ++ take at old) (drop-drop n at old))
    ∙ ap (λ (x : List ℕ). seen_from (length new - at) x) (sym (append_assoc piece rest (take at old)))
    ∙ ap₂ (λ (x y : List ℕ). x ++ y)
    (drop_at (piece ++ rest) (take at old) (length new - at) (omega (arith, length-append piece rest, length-drop (at + n) old)))
    (take_at (piece ++ rest) (take at old) (length new - at) (omega (arith, length-append piece rest, length-drop (at + n) old)))

pushed_back : (old new bytes : List ℕ) (len : ℕ) → len + length bytes ≤ length old → length new ≡ length old
    → seen_from len new ≡ bytes ++ drop (length bytes) (seen_from len old) → take (len + length bytes) new ≡ take len old ++ bytes
pushed_back old new bytes len fits same_length written =
    let n = length bytes in
    let front = take len old in
    let length_front : length front ≡ len = length-take-le len old (omega arith) in
    ap (λ (x : List ℕ). take (len + n) x) (with_piece-seen_from old new bytes len fits same_length written)
    ∙ ap (λ (x : List ℕ). take (len + n) x) (sym (append_assoc front bytes (drop (len + n) old)))
    ∙ take_at (front ++ bytes) (drop (len + n) old) (len + n) (omega (arith, length-append front bytes, length_front))

piece_replaced : (old new piece : List ℕ) (at len : ℕ) → at + length piece ≤ len → len ≤ length old → length new ≡ length old
    → seen_from at new ≡ piece ++ drop (length piece) (seen_from at old) → take len new ≡ with_piece (take len old) at piece
piece_replaced old new piece at len within fits same_length written =
    let end = at + length piece in
    let front = take at old in
    let rest = drop end old in
    let k = len - end in
    let is_end : length (front ++ piece) ≡ end = omega (arith, length-append front piece, length-take-le at old (omega arith)) in
    let more : len ≡ length (front ++ piece) + k = omega (arith, is_end) in
    let len_is : end + k ≡ len = omega arith in
    ap (λ (x : List ℕ). take len x) (with_piece-seen_from old new piece at (omega arith) same_length written ∙ sym (append_assoc front piece rest))
    ∙ ap (λ (n : ℕ). take n ((front ++ piece) ++ rest)) more ∙ take-append-add (front ++ piece) rest k
    ∙ append_assoc front piece (take k rest)
    ∙ ap₂ (λ (x y : List ℕ). x ++ (piece ++ y)) (sym (take-take at len old (omega arith)))
    (sym (drop-take end k old) ∙ ap (λ (n : ℕ). drop end (take n old)) len_is)

pushed_front : (old moved new bytes : List ℕ) (len : ℕ) → len + length bytes ≤ length old
    → moved ≡ seen_from (length old - length bytes) old → new ≡ bytes ++ drop (length bytes) moved
    → take (len + length bytes) new ≡ bytes ++ take len old
pushed_front old moved new bytes len fits is_moved written =
    let n = length bytes in
    let others = length old - n in
    let swapped : len + n ≡ n + len = omega arith in
    ap₂ (λ (m : ℕ) (x : List ℕ). take m x) swapped written
    ∙ take-append-add bytes (drop n moved) len
    ∙ ap (λ (x : List ℕ). bytes ++ take len (drop n x)) is_moved
    ∙ ap (λ (x : List ℕ). bytes ++ take len x) (drop_at (drop others old) (take others old) n (omega (arith, length-drop others old)))
    ∙ ap (λ (x : List ℕ). bytes ++ x) (take-take len others old (omega arith))

-- ---- bytes taken out

dropped_front : (old : List ℕ) (count len : ℕ) → count ≤ len → len ≤ length old
    → take (len - count) (seen_from count old) ≡ drop count (take len old)
dropped_front old count len some fits =
    let len_is : count + (len - count) ≡ len = omega arith in
    take-append-le (len - count) (drop count old) (take count old) (omega (arith, length-drop count old))
    ∙ sym (drop-take count (len - count) old) ∙ ap (λ (n : ℕ). drop count (take n old)) len_is

-- ---- rings; `memory` is what it was, `after` what it is then

-- a ring whose bytes are the first `len` of a memory, seen from where the front lies
abbrev pub ring_in : List ℕ → ℕ → ℕ → RingView
ring_in memory start len = record { bytes = take len (seen_from start memory); capacity = length memory; start = start }

abbrev ring_of : List ℕ → ℕ → ℕ → RingView
ring_of bytes capacity start = record { bytes = bytes; capacity = capacity; start = start }

-- rings that are equal part by part
same_ring : (bytes bytes' : List ℕ) (capacity capacity' start : ℕ) → bytes ≡ bytes' → capacity ≡ capacity'
    → ring_of bytes capacity start ≡ ring_of bytes' capacity' start
same_ring bytes bytes' capacity capacity' start is_bytes is_capacity =
    ap₂ (λ (b : List ℕ) (c : ℕ). ring_of b c start) is_bytes is_capacity

pub moved_ring : (bytes bytes' : List ℕ) (capacity start start' : ℕ) → bytes ≡ bytes' → start ≡ start'
    → ring_of bytes capacity start ≡ ring_of bytes' capacity start'
moved_ring bytes bytes' capacity start start' is_bytes is_start =
    ap₂ (λ (b : List ℕ) (s : ℕ). ring_of b capacity s) is_bytes is_start

pub length-bytes : (memory : List ℕ) (start len : ℕ) → len ≤ length memory → length (take len (seen_from start memory)) ≡ len
length-bytes memory start len fits = length-take-le len (seen_from start memory) (omega (arith, length-seen_from start memory))

-- the same bytes at the same place, by other names
pub written_there : (memory lent after bytes : List ℕ) (offset there : ℕ) → offset ≡ there → lent ≡ memory
    → seen_from offset after ≡ bytes ++ drop (length bytes) (seen_from offset lent)
    → seen_from there after ≡ bytes ++ drop (length bytes) (seen_from there memory)
written_there memory lent after bytes offset there is_offset is_memory written = rw (← is_offset, ← is_memory) written

-- bytes that are put in at an offset stand there, seen from the front
written_at : (memory after bytes : List ℕ) (start at : ℕ) → IsOffset (length memory) start → at ≤ length memory → length after ≡ length memory
    → seen_from (offset_after (length memory) start at) after
    ≡ bytes ++ drop (length bytes) (seen_from (offset_after (length memory) start at) memory)
    → seen_from at (seen_from start after) ≡ bytes ++ drop (length bytes) (seen_from at (seen_from start memory))
written_at memory after bytes start at is within same_length written =
    seen_from-offset_after after start at (omega arith) (omega arith)
    ∙ ap (λ (n : ℕ). seen_from (offset_after n start at) after) same_length ∙ written
    ∙ ap (λ (x : List ℕ). bytes ++ drop (length bytes) x) (sym (seen_from-offset_after memory start at is within))

pub ring_pushed_back : (memory after bytes : List ℕ) (start len : ℕ) → IsOffset (length memory) start
    → len + length bytes ≤ length memory → length after ≡ length memory
    → seen_from (offset_after (length memory) start len) after
    ≡ bytes ++ drop (length bytes) (seen_from (offset_after (length memory) start len) memory)
    → ring_in after start (len + length bytes) ≡ with_contents (ring_in memory start len) (take len (seen_from start memory) ++ bytes)
ring_pushed_back memory after bytes start len is fits same_length written =
    let old = seen_from start memory in
    let new = seen_from start after in
    let length_old = length-seen_from start memory in
    let length_new = length-seen_from start after in
    same_ring (take (len + length bytes) new) (take len old ++ bytes) (length after) (length memory) start
    (pushed_back old new bytes len (omega (arith, length_old)) (length_new ∙ same_length ∙ sym length_old)
    (written_at memory after bytes start len is (omega arith) same_length written))
    same_length

pub ring_pushed_front : (memory after bytes : List ℕ) (start len : ℕ) → IsOffset (length memory) start
    → len + length bytes ≤ length memory → length after ≡ length memory
    → seen_from (offset_before (length memory) start (length bytes)) after
    ≡ bytes ++ drop (length bytes) (seen_from (offset_before (length memory) start (length bytes)) memory)
    → ring_in after (offset_before (length memory) start (length bytes)) (len + length bytes) ≡ with_front (ring_in memory start len) bytes
ring_pushed_front memory after bytes start len is fits same_length written =
    let n = length bytes in
    let front = offset_before (length memory) start n in
    let old = seen_from start memory in
    let length_old = length-seen_from start memory in
    same_ring (take (len + n) (seen_from front after)) (bytes ++ take len old) (length after) (length memory) front
    (pushed_front old (seen_from front memory) (seen_from front after) bytes len (omega (arith, length_old))
    (sym (seen_from-offset_after memory start (length memory - n) is (omega arith))
    ∙ ap (λ (m : ℕ). seen_from (m - n) old) (sym length_old))
    written)
    same_length

pub ring_dropped_front : (memory : List ℕ) (start len count : ℕ) → IsOffset (length memory) start → len ≤ length memory → count ≤ len
    → ring_in memory (offset_after (length memory) start count) (len - count) ≡ without_front (ring_in memory start len) count
ring_dropped_front memory start len count is fits some =
    let old = seen_from start memory in
    let front = offset_after (length memory) start count in
    same_ring (take (len - count) (seen_from front memory)) (drop count (take len old)) (length memory) (length memory) front
    (ap (λ (x : List ℕ). take (len - count) x) (sym (seen_from-offset_after memory start count is (omega arith)))
    ∙ dropped_front old count len some (omega (arith, length-seen_from start memory)))
    refl

pub ring_with_piece : (memory after piece : List ℕ) (start len at : ℕ) → IsOffset (length memory) start → len ≤ length memory
    → at + length piece ≤ len → length after ≡ length memory
    → seen_from (offset_after (length memory) start at) after
    ≡ piece ++ drop (length piece) (seen_from (offset_after (length memory) start at) memory)
    → ring_in after start len ≡ with_contents (ring_in memory start len) (with_piece (take len (seen_from start memory)) at piece)
ring_with_piece memory after piece start len at is fits within same_length written =
    let old = seen_from start memory in
    let new = seen_from start after in
    let length_old = length-seen_from start memory in
    let length_new = length-seen_from start after in
    same_ring (take len new) (with_piece (take len old) at piece) (length after) (length memory) start
    (piece_replaced old new piece at len within (omega (arith, length_old)) (length_new ∙ same_length ∙ sym length_old)
    (written_at memory after piece start at is (omega arith) same_length written))
    same_length

pub ring_with_byte : (memory : List ℕ) (start len at value : ℕ) → IsOffset (length memory) start → len ≤ length memory → at < len
    → ring_in (set memory (offset_after (length memory) start at) value) start len
    ≡ with_contents (ring_in memory start len) (set (take len (seen_from start memory)) at value)
ring_with_byte memory start len at value is fits there =
    let offset = offset_after (length memory) start at in
    let is_offset = IsOffset-offset_after (length memory) start at is (omega arith) in
    let bytes = take len (seen_from start memory) in
    let next : at + 1 ≡ suc at = omega arith in
    ring_with_piece memory (set memory offset value) (value ∷ []) start len at is fits (omega arith) (length-set memory offset value)
    (seen_from-set memory offset value (omega (arith, is_offset)))
    ∙ ap (λ (x : List ℕ). with_contents (ring_in memory start len) x)
    (ap (λ (n : ℕ). take at bytes ++ (value ∷ drop n bytes)) next
    ∙ sym (set_split bytes at value (omega (arith, length-bytes memory start len fits))))

-- ---- bytes read

pub byte_at : (memory : List ℕ) (start at len d : ℕ) → IsOffset (length memory) start → at < len → len ≤ length memory
    → get_or memory (offset_after (length memory) start at) d ≡ get_or (take len (seen_from start memory)) at d
byte_at memory start at len d is there fits =
    let offset = offset_after (length memory) start at in
    let seen = seen_from start memory in
    let is_offset = IsOffset-offset_after (length memory) start at is (omega arith) in
    let in_memory : offset < length memory = omega (arith, is_offset) in
    sym (first-seen_from offset memory d in_memory)
    ∙ ap (λ (x : List ℕ). get_or x 0 d) (sym (seen_from-offset_after memory start at is (omega arith)))
    ∙ first-seen_from at seen d (omega (arith, length-seen_from start memory)) ∙ sym (get_or-take len seen at d there)

pub piece_at : (memory : List ℕ) (start at size len : ℕ) → IsOffset (length memory) start → at + size ≤ len → len ≤ length memory
    → HasWholePieces (ring_in memory start len) size → at % size ≡ 0
    → (offset_after (length memory) start at + size ≤ length memory)
    × (take size (drop (offset_after (length memory) start at) memory) ≡ take size (drop at (take len (seen_from start memory))))
piece_at memory start at size len is there fits whole begins =
    let is_offset = IsOffset-offset_after (length memory) start at is (omega arith) in
    let some : 0 < size = whole.some_bytes in
    let in_memory : offset_after (length memory) start at + size ≤ length memory =
    whole_piece_fits (length memory) (offset_after (length memory) start at) size whole.capacity
    (whole-offset_after (length memory) start at size whole.capacity whole.start begins) (omega (arith, is_offset, some)) in
    let offset = offset_after (length memory) start at in
    let seen = seen_from start memory in
    let len_is : at + (len - at) ≡ len = omega arith in (
      in_memory,
      sym (take-append-le size (drop offset memory) (take offset memory) (omega (arith, length-drop offset memory, in_memory)))
          ∙ ap (λ (x : List ℕ). take size x) (sym (seen_from-offset_after memory start at is (omega arith)))
          ∙ take-append-le size (drop at seen) (take at seen) (omega (arith, length-drop at seen, length-seen_from start memory))
          ∙ sym (take-take size (len - at) (drop at seen) (omega arith))
          ∙ ap (λ (x : List ℕ). take size x) (sym (drop-take at (len - at) seen) ∙ ap (λ (n : ℕ). drop at (take n seen)) len_is),
    )

-- bytes from an offset on, seen from there
pub range_at : (memory : List ℕ) (start at count len : ℕ) → IsOffset (length memory) start → at + count ≤ len → len ≤ length memory
    → take count (seen_from (offset_after (length memory) start at) memory) ≡ take count (drop at (take len (seen_from start memory)))
range_at memory start at count len is there fits =
    let seen = seen_from start memory in
    let len_is : at + (len - at) ≡ len = omega (arith, there) in
    let rest : length (drop at seen) ≡ length memory - at = omega (arith, length-drop at seen, length-seen_from start memory) in
    ap (λ (x : List ℕ). take count x) (sym (seen_from-offset_after memory start at is (omega (arith, there, fits))))
    ∙ take-append-le count (drop at seen) (take at seen) (omega (arith, rest, there, fits))
    ∙ sym (take-take count (len - at) (drop at seen) (omega (arith, there)))
    ∙ ap (λ (x : List ℕ). take count x) (sym (drop-take at (len - at) seen) ∙ ap (λ (n : ℕ). drop at (take n seen)) len_is)
