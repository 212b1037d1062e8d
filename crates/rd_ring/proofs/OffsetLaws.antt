-- Laws of offsets in a memory, and of whole pieces.
use Rattle.std.proofs.Common.{◌≡◌, ◌∙◌, ℕ, zero, suc, ◌+◌, ◌-◌, ◌%◌, ◌<◌, ◌≤◌, ◌⊎◌, inl, inr, length, arith, mod-eq_of_lt}
use Rattle.std.proofs.Math.Nat.{mod-zero, zero-mod, mod-eq-sub-mod, mod-mod_of_dvd, dvd_of_mod-eq-zero, mod-eq-zero_of_dvd, dvd-add, dvd-sub, le_of_dvd}
use Rattle.std.proofs.lemmas.Bool.{cases_lt}
use Rattle.rd_ring.specs.Memory.{IsOffset, offset_after, offset_before}
use Rattle.rd_ring.specs.Rings.{WholePiecesStayWhole}

-- ---- offsets

-- an offset that is so many behind another lies around the end once at the most
pub place_after_wraps : (capacity offset count : ℕ) → IsOffset capacity offset → count ≤ capacity
    → ((offset + count < capacity) × (offset_after capacity offset count ≡ offset + count))
    ⊎ ((capacity ≤ offset + count) × (offset_after capacity offset count ≡ offset + count - capacity))
place_after_wraps zero offset count is fits = inr (omega arith, omega (arith, mod-zero (offset + count)))
place_after_wraps (suc c) offset count is fits = elim (cases_lt (offset + count) (suc c)) [
  | inl low ↦ inl (low, mod-eq_of_lt low)
  | inr high ↦ inr (high, mod-eq-sub-mod high ∙ mod-eq_of_lt (omega arith))
]

pub IsOffset-offset_after : (capacity offset count : ℕ) → IsOffset capacity offset → count ≤ capacity → IsOffset capacity (offset_after capacity offset count)
IsOffset-offset_after capacity offset count is fits = elim (place_after_wraps capacity offset count is fits) [
  | inl near ↦ omega (arith, near.0, near.1)
  | inr far ↦ omega (arith, far.0, far.1)
]

-- ---- whole pieces

-- a piece that begins in a memory of whole pieces ends there
pub whole_piece_fits : (capacity offset size : ℕ) → capacity % size ≡ 0 → offset % size ≡ 0 → offset < capacity → offset + size ≤ capacity
whole_piece_fits capacity offset size whole begins there =
    let rest : size ≤ capacity - offset =
    le_of_dvd (omega arith) (dvd-sub size (dvd_of_mod-eq-zero size whole) (dvd_of_mod-eq-zero size begins)) in
    omega arith

pub whole-offset_after : (capacity offset count size : ℕ) → capacity % size ≡ 0 → offset % size ≡ 0 → count % size ≡ 0
    → offset_after capacity offset count % size ≡ 0
whole-offset_after capacity offset count size whole begins pieces =
    mod-mod_of_dvd size (offset + count) (dvd_of_mod-eq-zero size whole)
    ∙ mod-eq-zero_of_dvd size (dvd-add size (dvd_of_mod-eq-zero size begins) (dvd_of_mod-eq-zero size pieces))

whole-offset_before : (capacity offset count size : ℕ) → capacity % size ≡ 0 → offset % size ≡ 0 → count % size ≡ 0
    → offset_before capacity offset count % size ≡ 0
whole-offset_before capacity offset count size whole begins pieces =
    whole-offset_after capacity offset (capacity - count) size whole begins
    (mod-eq-zero_of_dvd size (dvd-sub size (dvd_of_mod-eq-zero size whole) (dvd_of_mod-eq-zero size pieces)))

pub whole_pieces_stay_whole : WholePiecesStayWhole
whole_pieces_stay_whole size = record {
  made = (λ capacity some whole. record { some_bytes = some; capacity = whole; start = zero-mod size });
  changed = (λ ring bytes has. record { some_bytes = has.some_bytes; capacity = has.capacity; start = has.start });
  put_front =
      (λ ring bytes has pieces. record {
        some_bytes = has.some_bytes;
        capacity = has.capacity;
        start = whole-offset_before ring.capacity ring.start (length bytes) size has.capacity has.start pieces;
      });
  taken_front =
      (λ ring count has pieces. record {
        some_bytes = has.some_bytes;
        capacity = has.capacity;
        start = whole-offset_after ring.capacity ring.start count size has.capacity has.start pieces;
      });
}
