-- Laws of a memory that is read and written around its end.
use Rattle.std.proofs.Common.{◌≡◌, ◌∙◌, ℕ, ◌+◌, ◌-◌, ◌<◌, ◌≤◌, inl, inr, List, [], ◌∷◌, ◌++◌, length, get_or, set, take, drop, refl, ap, ap₂, subst, sym, arith, append_assoc, append-nil}
use Rattle.std.specs.Prelude.{min}
use Rattle.std.proofs.Math.Seq.{take-append-add, drop-append-add}
use Rattle.std.proofs.lemmas.Bool.{cases_lt}
use Rattle.std.proofs.lemmas.List.{length-append, length-drop, length-take, length-take-le, take-append-drop, take-append-le, drop-append-le}
use Rattle.std.proofs.lemmas.List.{take_at, drop_at, take_all, drop_all, take-take, drop-drop}
use Rattle.std.proofs.lemmas.List.{take-set, drop-set, get_or-drop, get_or_append_left}
use Rattle.rd_ring.specs.Memory.{IsOffset, seen_from, offset_after}
use Rattle.rd_ring.proofs.OffsetLaws.{place_after_wraps}

-- ---- lists that are seen from an offset

pub length-seen_from : (offset : ℕ) (xs : List ℕ) → length (seen_from offset xs) ≡ length xs
length-seen_from offset xs = omega (arith, length-append (drop offset xs) (take offset xs), length-drop offset xs, length-take offset xs)

-- two parts, seen from where the second begins
seen_from-append : (front back : List ℕ) (n : ℕ) → length front ≡ n → seen_from n (front ++ back) ≡ back ++ front
seen_from-append front back n is = ap₂ (λ (x y : List ℕ). x ++ y) (drop_at front back n is) (take_at front back n is)

-- seen from the old beginning again
pub seen_from-rest : (n : ℕ) (xs : List ℕ) → seen_from (length xs - n) (seen_from n xs) ≡ xs
seen_from-rest n xs = seen_from-append (drop n xs) (take n xs) (length xs - n) (length-drop n xs) ∙ take-append-drop n xs

-- the first member is the one at the offset
pub first-seen_from : (offset : ℕ) (xs : List ℕ) (d : ℕ) → offset < length xs → get_or (seen_from offset xs) 0 d ≡ get_or xs offset d
first-seen_from offset xs d there =
    let same : offset + 0 ≡ offset = omega arith in
    get_or_append_left (drop offset xs) (take offset xs) d 0 (omega (arith, length-drop offset xs)) ∙ get_or-drop offset xs 0 d
    ∙ ap (λ (p : ℕ). get_or xs p d) same

-- three parts
in_parts : (xs : List ℕ) (n m : ℕ) → take n xs ++ (take m (drop n xs) ++ drop m (drop n xs)) ≡ xs
in_parts xs n m = ap (λ (rest : List ℕ). take n xs ++ rest) (take-append-drop m (drop n xs)) ∙ take-append-drop n xs

near_parts : (a b c : List ℕ) (n m : ℕ) → length a ≡ n → length b ≡ m
    → seen_from m (seen_from n (a ++ (b ++ c))) ≡ seen_from (n + m) (a ++ (b ++ c))
near_parts a b c n m is_n is_m =
    ap (λ (x : List ℕ). seen_from m x) (seen_from-append a (b ++ c) n is_n ∙ append_assoc b c a)
    ∙ seen_from-append b (c ++ a) m is_m ∙ append_assoc c a b
    ∙ sym (ap (λ (x : List ℕ). seen_from (n + m) x) (sym (append_assoc a b c))
    ∙ seen_from-append (a ++ b) c (n + m) (omega (arith, length-append a b)))

far_parts : (a b c : List ℕ) (n m k : ℕ) → length a ≡ k → length (a ++ b) ≡ n → length (c ++ a) ≡ m
    → seen_from m (seen_from n (a ++ (b ++ c))) ≡ seen_from k (a ++ (b ++ c))
far_parts a b c n m k is_k is_n is_m =
    ap (λ (x : List ℕ). seen_from m x)
    (ap (λ (x : List ℕ). seen_from n x) (sym (append_assoc a b c)) ∙ seen_from-append (a ++ b) c n is_n ∙ sym (append_assoc c a b))
    ∙ seen_from-append (c ++ a) b m is_m ∙ sym (append_assoc b c a) ∙ sym (seen_from-append a (b ++ c) k is_k)

-- seen from an offset, and from there from another, up to the end or around it
near : (xs : List ℕ) (n m : ℕ) → n + m ≤ length xs → seen_from m (seen_from n xs) ≡ seen_from (n + m) xs
near xs n m fits =
    subst (λ (ys : List ℕ). seen_from m (seen_from n ys) ≡ seen_from (n + m) ys) (in_parts xs n m)
    (near_parts (take n xs) (take m (drop n xs)) (drop m (drop n xs)) n m
    (length-take-le n xs (omega arith)) (length-take-le m (drop n xs) (omega (arith, length-drop n xs))))

far : (xs : List ℕ) (n m : ℕ) → n ≤ length xs → m ≤ length xs → length xs ≤ n + m
    → seen_from m (seen_from n xs) ≡ seen_from (n + m - length xs) xs
far xs n m n_fits m_fits wraps =
    let k = n + m - length xs in
    let a = take k xs in
    let b = take (n - k) (drop k xs) in
    let c = drop (n - k) (drop k xs) in
    let is_k : length a ≡ k = length-take-le k xs (omega arith) in
    let is_b : length b ≡ n - k = length-take-le (n - k) (drop k xs) (omega (arith, length-drop k xs)) in
    subst (λ (ys : List ℕ). seen_from m (seen_from n ys) ≡ seen_from k ys) (in_parts xs k (n - k))
    (far_parts a b c n m k is_k (omega (arith, length-append a b, is_k, is_b))
    (omega (arith, length-append c a, is_k, length-drop (n - k) (drop k xs), length-drop k xs)))

pub seen_from-offset_after : (memory : List ℕ) (offset count : ℕ) → IsOffset (length memory) offset → count ≤ length memory
    → seen_from count (seen_from offset memory) ≡ seen_from (offset_after (length memory) offset count) memory
seen_from-offset_after memory offset count is fits = elim (place_after_wraps (length memory) offset count is fits) [
  | inl w ↦ near memory offset count (omega (arith, w.0)) ∙ ap (λ (p : ℕ). seen_from p memory) (sym w.1)
  | inr w ↦ far memory offset count (omega arith) fits w.0 ∙ ap (λ (p : ℕ). seen_from p memory) (sym w.1)
]

-- ---- reading and writing

pub take-seen_from : (memory : List ℕ) (offset count first : ℕ) → offset ≤ length memory → count ≤ length memory
    → first ≡ min count (length memory - offset)
    → take first (drop offset memory) ++ take (count - first) memory ≡ take count (seen_from offset memory)
take-seen_from memory offset count first there fits is = elim (cases_lt (length memory - offset) count) [
  | inl long ↦
      let up_to_end = drop offset memory in
      let more : count ≡ length up_to_end + (count - first) = omega (arith, length-drop offset memory, is, long) in
      ap₂ (λ (x y : List ℕ). x ++ y) (take_all first up_to_end (omega (arith, length-drop offset memory, is, long)))
      (sym (take-take (count - first) offset memory (omega (arith, is, long))))
      ∙ sym (ap (λ (n : ℕ). take n (seen_from offset memory)) more ∙ take-append-add up_to_end (take offset memory) (count - first))
  | inr short ↦
      let all : first ≡ count = omega (arith, is, short) in
      let none : count - first ≡ 0 = omega (arith, is, short) in
      ap₂ (λ (n m : ℕ). take n (drop offset memory) ++ take m memory) all none ∙ append-nil (take count (drop offset memory))
      ∙ sym (take-append-le count (drop offset memory) (take offset memory) (omega (arith, length-drop offset memory, short)))
]

-- bytes that are put into the memory in two pieces, up to its end and then from its beginning on
pub written_in_pieces : (memory bytes : List ℕ) (offset first : ℕ) → offset ≤ length memory → length bytes ≤ length memory
    → first ≡ min (length bytes) (length memory - offset)
    → seen_from offset (drop first bytes ++ drop (length bytes - first) (take offset memory ++ (take first bytes ++ drop first (drop offset memory))))
    ≡ bytes ++ drop (length bytes) (seen_from offset memory)
written_in_pieces memory bytes offset first there fits is =
    let n = length bytes in
    let up_to_end = drop offset memory in
    let before = take offset memory in
    let length_before : length before ≡ offset = length-take-le offset memory there in
    let length_end : length up_to_end ≡ length memory - offset = length-drop offset memory in
    elim (cases_lt (length memory - offset) n) [
      | inl long ↦
          let one = take first bytes in
          let two = drop first bytes in
          let k = n - first in
          let more : n ≡ length up_to_end + k = omega (arith, length_end, is, long) in
          ap (λ (rest : List ℕ). seen_from offset (two ++ drop k (before ++ (one ++ rest)))) (drop_all first up_to_end (omega (arith, length_end, is, long)))
          ∙ ap (λ (x : List ℕ). seen_from offset (two ++ drop k (before ++ x))) (append-nil one)
          ∙ ap (λ (x : List ℕ). seen_from offset (two ++ x)) (drop-append-le k before one (omega (arith, length_before, is, long)))
          ∙ ap (λ (x : List ℕ). seen_from offset x) (sym (append_assoc two (drop k before) one))
          ∙ seen_from-append (two ++ drop k before) one offset
          (omega (arith, length-append two (drop k before), length-drop first bytes, length-drop k before, length_before, is, long))
          ∙ sym (append_assoc one two (drop k before)) ∙ ap (λ (x : List ℕ). x ++ drop k before) (take-append-drop first bytes)
          ∙ ap (λ (x : List ℕ). bytes ++ x) (sym (ap (λ (m : ℕ). drop m (up_to_end ++ before)) more ∙ drop-append-add up_to_end before k))
      | inr short ↦
          let all : first ≡ n = omega (arith, is, short) in
          let none : n - first ≡ 0 = omega (arith, is, short) in
          ap (λ (m : ℕ). seen_from offset (drop m bytes ++ drop (n - first) (before ++ (take m bytes ++ drop m up_to_end)))) all
          ∙ ap (λ (k : ℕ). seen_from offset (drop n bytes ++ drop k (before ++ (take n bytes ++ drop n up_to_end)))) none
          ∙ ap₂ (λ (x y : List ℕ). seen_from offset (x ++ (before ++ (y ++ drop n up_to_end)))) (drop_all n bytes (omega arith)) (take_all n bytes (omega arith))
          ∙ seen_from-append before (bytes ++ drop n up_to_end) offset length_before
          ∙ append_assoc bytes (drop n up_to_end) before
          ∙ ap (λ (x : List ℕ). bytes ++ x) (sym (drop-append-le n up_to_end before (omega (arith, length_end, short))))
    ]

-- one byte put at an offset
pub seen_from-set : (memory : List ℕ) (offset value : ℕ) → offset < length memory
    → seen_from offset (set memory offset value) ≡ (value ∷ []) ++ drop 1 (seen_from offset memory)
seen_from-set memory offset value there =
    ap₂ (λ (x y : List ℕ). x ++ y) (drop-set memory offset value there) (take-set memory offset value)
    ∙ ap (λ (x : List ℕ). value ∷ (x ++ take offset memory)) (sym (drop-drop 1 offset memory))
    ∙ ap (λ (x : List ℕ). value ∷ x) (sym (drop-append-le 1 (drop offset memory) (take offset memory) (omega (arith, length-drop offset memory, there))))

-- ---- two lists in two parts each

pub same_parts : (a b c d : List ℕ) → length a ≡ length c → a ++ b ≡ c ++ d → (a ≡ c) × (b ≡ d)
same_parts a b c d is same = (
  sym (take_at a b (length c) is) ∙ ap (λ (x : List ℕ). take (length c) x) same ∙ take_at c d (length c) refl,
  sym (drop_at a b (length c) is) ∙ ap (λ (x : List ℕ). drop (length c) x) same ∙ drop_at c d (length c) refl,
)
