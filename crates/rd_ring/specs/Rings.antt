-- Rings as lists of bytes, and whole pieces in them.
use Rattle.std.specs.Prelude.{ℕ, ◌≡◌, ◌+◌, ◌-◌, ◌%◌, ◌<◌, ◌≤◌, List, [], ◌++◌, length, take, drop}
use Rattle.rd_ring.specs.Memory.{IsOffset, offset_after, offset_before}
use Rattle.rd_ring.specs.RingView.{RingView}

-- a new ring with room for so many bytes
abbrev pub empty_ring : ℕ → RingView
empty_ring capacity = record { bytes = []; capacity = capacity; start = 0 }

-- the ring with these bytes in place of its own, and the front where it was
abbrev pub with_contents : RingView → List ℕ → RingView
with_contents ring bytes = record ring { bytes = bytes }

-- the ring with these bytes behind its own, and without so many of its last bytes
abbrev pub with_back : RingView → List ℕ → RingView
with_back ring bytes = with_contents ring (ring.bytes ++ bytes)

abbrev pub without_back : RingView → ℕ → RingView
without_back ring count = with_contents ring (take (length ring.bytes - count) ring.bytes)

-- the ring with these bytes before its own, and without so many of its first bytes
abbrev pub with_front : RingView → List ℕ → RingView
with_front ring bytes = record {
  bytes = bytes ++ ring.bytes;
  capacity = ring.capacity;
  start = offset_before ring.capacity ring.start (length bytes);
}

abbrev pub without_front : RingView → ℕ → RingView
without_front ring count = record {
  bytes = drop count ring.bytes;
  capacity = ring.capacity;
  start = offset_after ring.capacity ring.start count;
}

-- the bytes with a piece in place of as many, from `at` on
abbrev pub with_piece : List ℕ → ℕ → List ℕ → List ℕ
with_piece bytes at piece = take at bytes ++ (piece ++ drop (at + length piece) bytes)

-- The memory is a number of pieces of that size, and the front lies where one of them begins.
pub record HasWholePieces (ring : RingView) (size : ℕ) : Type 0 where
  pub some_bytes : 0 < size
  pub capacity : ring.capacity % size ≡ 0
  pub start : ring.start % size ≡ 0

-- A new ring for a number of pieces has them whole. They stay whole where the front stays, and
-- where whole pieces are put in or taken out there.
pub record PiecesStayWhole (size : ℕ) : Type 0 where
  pub made : (capacity : ℕ) → 0 < size → capacity % size ≡ 0
      → HasWholePieces (empty_ring capacity) size
  pub changed : (ring : RingView) (bytes : List ℕ) → HasWholePieces ring size
      → HasWholePieces (with_contents ring bytes) size
  pub put_front : (ring : RingView) (bytes : List ℕ) → HasWholePieces ring size
      → length bytes % size ≡ 0 → HasWholePieces (with_front ring bytes) size
  pub taken_front : (ring : RingView) (count : ℕ) → HasWholePieces ring size → count % size ≡ 0
      → HasWholePieces (without_front ring count) size

-- whatever their size is
abbrev pub WholePiecesStayWhole : Type 0
WholePiecesStayWhole = (size : ℕ) → PiecesStayWhole size

-- What holds of every ring: its bytes fit, and its front lies in its memory.
pub record IsSizedRing (ring : RingView) : Type 0 where
  pub room : length ring.bytes ≤ ring.capacity
  pub start : IsOffset ring.capacity ring.start

-- The ring is what it was, with its bytes where they lay, once what was put in at an end is taken
-- out there, and once what was taken out, cleared or replaced is put in again.
pub record RingIsUndone (ring : RingView) : Type 0 where
  pub put_back : (bytes : List ℕ) → without_back (with_back ring bytes) (length bytes) ≡ ring
  pub taken_back : (count : ℕ)
      → with_back (without_back ring count) (drop (length ring.bytes - count) ring.bytes) ≡ ring
  pub put_front : (bytes : List ℕ) → length bytes ≤ ring.capacity
      → without_front (with_front ring bytes) (length bytes) ≡ ring
  pub taken_front : (count : ℕ) → count ≤ length ring.bytes
      → with_front (without_front ring count) (take count ring.bytes) ≡ ring
  pub cleared : with_back (with_contents ring []) ring.bytes ≡ ring
  pub restored : (at : ℕ) (piece : List ℕ) → at + length piece ≤ length ring.bytes
      → with_piece (with_piece ring.bytes at piece) at (take (length piece) (drop at ring.bytes))
      ≡ ring.bytes

-- whichever ring it is
abbrev pub EachRingChangeIsUndone : Type 0
EachRingChangeIsUndone = (ring : RingView) → IsSizedRing ring → RingIsUndone ring
