-- Bytes in the buffer, moved and read.
use Rattle.std.proofs.Common.{◌≡◌, ◌∙◌, ℕ, ◌+◌, ◌-◌, ◌≤◌, List, ◌++◌, length, take, drop, Option, Result, Ok, Err, IfOk, ap, sym, arith}
use Rattle.std.proofs.Math.Seq.{take-append-add}
use Rattle.std.proofs.lemmas.List.{drop-take, length-drop, length-take}
use Rattle.std.proofs.lemmas.List.Edits.{take-paste}
use Rattle.std.specs.Io.KnownBytes.{Consumes}
use Rattle.std.specs.List.{copy_within}
use Rattle.rd_session.specs.Lines.{AddsRead}

-- what stood from `start` to `end` stands in front
pub moved_to_front : (xs : List ℕ) (start end : ℕ) → start ≤ end → end ≤ length xs
    → take (end - start) (copy_within xs start end 0) ≡ drop start (take end xs)
moved_to_front xs start end le within =
    let n = end - start in
    let front = take-paste xs 0 (drop start xs) n (omega arith) (omega (arith, length-drop start xs)) in
    let back = drop-take start n xs in
    let none : 0 + n ≡ n = omega arith in
    let all : start + n ≡ end = omega arith in
    ap (λ (k : ℕ). take k (copy_within xs start end 0)) (sym none) ∙ front ∙ sym back ∙ ap (λ (k : ℕ). drop start (take k xs)) all

-- a read after what was there adds what it gave
pub read_adds : {E : Type 0} (r : Result ℕ E) (had has : Option (List ℕ)) (front buf before : List ℕ) (end : ℕ)
    → length front ≡ end → front ≡ before → IfOk r (λ n. n ≤ length buf)
    → IfOk r (λ n. Consumes had has (take n buf))
    → IfOk r (λ count. AddsRead before (take (end + count) (front ++ buf)) had has count)
read_adds (Ok n) had has front buf before end len is most bytes =
    let joined = take-append-add front buf n in
    record {
      bytes = take n buf;
      len = omega (arith, length-take n buf, most);
      added = rw (← len) (joined ∙ ap (λ (xs : List ℕ). xs ++ take n buf) is);
      consumed = bytes;
    }
read_adds (Err e) had has front buf before end len is most bytes = tt
