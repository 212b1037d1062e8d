-- What is put into a ring at an end and taken out again, or taken out and put in again, leaves it as it was.
use Rattle.std.proofs.Common.{◌≡◌, ◌∙◌, ℕ, zero, suc, ◌+◌, ◌-◌, ◌%◌, ◌≤◌, List, ◌++◌, length, take, drop, refl, ap, ap₂, sym, arith, append_assoc, mod-eq_of_lt}
use Rattle.std.proofs.Math.Nat.{mod-zero, mod-add-mod, add-mod_right}
use Rattle.std.proofs.lemmas.List.{length-append, length-drop, length-take-le, take_at, drop_at, drop-drop, take-append-drop}
use Rattle.rd_ring.specs.Memory.{IsOffset, offset_after, offset_before}
use Rattle.rd_ring.specs.Rings.{with_contents, with_piece, EachRingChangeIsUndone}
use Rattle.rd_ring.proofs.RingLaws.{moved_ring}

stays : (capacity offset : ℕ) → IsOffset capacity offset → offset % capacity ≡ offset
stays zero offset is = mod-zero offset
stays (suc c) offset is = mod-eq_of_lt (omega arith)

-- once around the memory, in two steps
around : (capacity offset n m : ℕ) → IsOffset capacity offset → n + m ≡ capacity → offset_after capacity (offset_after capacity offset n) m ≡ offset
around capacity offset n m is all =
    let same : offset + n + m ≡ offset + capacity = omega arith in
    mod-add-mod (offset + n) capacity m ∙ ap (λ (k : ℕ). k % capacity) same ∙ add-mod_right offset capacity ∙ stays capacity offset is

-- a piece that is replaced, and then what was there put back
replaced_back : (bytes piece : List ℕ) (at : ℕ) → at + length piece ≤ length bytes
    → with_piece (with_piece bytes at piece) at (take (length piece) (drop at bytes)) ≡ bytes
replaced_back bytes piece at there =
    let n = length piece in
    let before = take at bytes in
    let old = take n (drop at bytes) in
    let behind = drop (at + n) bytes in
    let length_before : length before ≡ at = length-take-le at bytes (omega arith) in
    let length_old : length old ≡ n = length-take-le n (drop at bytes) (omega (arith, length-drop at bytes)) in
    let end : at + length old ≡ length (before ++ piece) = omega (arith, length_old, length_before, length-append before piece) in
    ap₂ (λ (x y : List ℕ). x ++ (old ++ y)) (take_at before (piece ++ behind) at length_before)
    (ap₂ (λ (m : ℕ) (x : List ℕ). drop m x) end (sym (append_assoc before piece behind)) ∙ drop_at (before ++ piece) behind (length (before ++ piece)) refl)
    ∙ ap (λ (x : List ℕ). before ++ (old ++ x)) (sym (drop-drop n at bytes))
    ∙ ap (λ (x : List ℕ). before ++ x) (take-append-drop n (drop at bytes)) ∙ take-append-drop at bytes

pub ring_change_is_undone : EachRingChangeIsUndone
ring_change_is_undone ring sized = record {
  put_back =
      (λ bytes. ap (λ (x : List ℕ). with_contents ring x)
      (take_at ring.bytes bytes (length (ring.bytes ++ bytes) - length bytes) (omega (arith, length-append ring.bytes bytes))));
  taken_back = (λ count. ap (λ (x : List ℕ). with_contents ring x) (take-append-drop (length ring.bytes - count) ring.bytes));
  put_front =
      (λ bytes fits. moved_ring (drop (length bytes) (bytes ++ ring.bytes)) ring.bytes ring.capacity
      (offset_after ring.capacity (offset_before ring.capacity ring.start (length bytes)) (length bytes)) ring.start
      (drop_at bytes ring.bytes (length bytes) refl)
      (around ring.capacity ring.start (ring.capacity - length bytes) (length bytes) sized.start (omega arith)));
  taken_front =
      (λ count some.
      let few : count ≤ ring.capacity = omega (arith, sized.room, some) in
      let first = take count ring.bytes in
      let is_count : length first ≡ count = length-take-le count ring.bytes some in
      moved_ring (first ++ drop count ring.bytes) ring.bytes ring.capacity
      (offset_before ring.capacity (offset_after ring.capacity ring.start count) (length first)) ring.start
      (take-append-drop count ring.bytes)
      (ap (λ (n : ℕ). offset_before ring.capacity (offset_after ring.capacity ring.start count) n) is_count
      ∙ around ring.capacity ring.start count (ring.capacity - count) sized.start (omega arith)));
  cleared = refl;
  restored = (λ at piece there. replaced_back ring.bytes piece at there);
}
