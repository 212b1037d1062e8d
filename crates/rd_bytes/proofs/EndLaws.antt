-- What stands at the end of bytes is read there, whatever is before it.
use Rattle.std.proofs.Common.{◌≡◌, ◌∙◌, ℕ, ◌+◌, ◌-◌, ◌<◌, ◌≤◌, List, ◌++◌, length, take, drop, get_or}
use Rattle.std.proofs.Common.{refl, ap, arith, append_assoc, length-append, Option, Some, None, IfSome}
use Rattle.std.proofs.lemmas.List.{get_or-append_right, length-take-le}
use Rattle.std.proofs.lemmas.Bool.Decides.{nat_tests}
use Rattle.std.proofs.Math.Seq.{take-append_seam, drop-append_seam}
use Rattle.rd_bytes.specs.Ends.{end_byte, end_short, end_word, end_long, all_but, bytes_before, byte_of_number, number_of_byte}

-- a byte so far from the end is one of the part at the end
pub end_byte_of : (b x : List ℕ) (k : ℕ) → 1 ≤ k → k ≤ length x → end_byte k (b ++ x) ≡ end_byte k x
end_byte_of b x k some there =
    let e : length (b ++ x) - k ≡ length b + (length x - k) = omega (arith, length-append b x) in
    let right : get_or (b ++ x) (length b + (length x - k)) 0 ≡ get_or x (length b + (length x - k) - length b) 0 =
    get_or-append_right b x (length b) (length b + (length x - k)) 0 refl (omega arith) in
    let i : length b + (length x - k) - length b ≡ length x - k = omega arith in
    ap (λ j. get_or (b ++ x) j 0) e ∙ right ∙ ap (λ j. get_or x j 0) i

-- and so is a number
pub end_short_of : (b x : List ℕ) (k : ℕ) → 1 ≤ k → k + 1 ≤ length x → end_short k (b ++ x) ≡ end_short k x
end_short_of b x k some there =
    rw (end_byte_of b x (k + 1) (omega arith) (omega arith), end_byte_of b x k (omega arith) (omega arith)) refl

pub end_word_of : (b x : List ℕ) (k : ℕ) → 1 ≤ k → k + 3 ≤ length x → end_word k (b ++ x) ≡ end_word k x
end_word_of b x k some there =
    rw (
      end_byte_of b x (k + 3) (omega arith) (omega arith),
      end_byte_of b x (k + 2) (omega arith) (omega arith),
      end_byte_of b x (k + 1) (omega arith) (omega arith),
      end_byte_of b x k (omega arith) (omega arith),
    ) refl

pub end_long_of : (b x : List ℕ) (k : ℕ) → 1 ≤ k → k + 7 ≤ length x → end_long k (b ++ x) ≡ end_long k x
end_long_of b x k some there =
    rw (
      end_byte_of b x (k + 7) (omega arith) (omega arith),
      end_byte_of b x (k + 6) (omega arith) (omega arith),
      end_byte_of b x (k + 5) (omega arith) (omega arith),
      end_byte_of b x (k + 4) (omega arith) (omega arith),
      end_byte_of b x (k + 3) (omega arith) (omega arith),
      end_byte_of b x (k + 2) (omega arith) (omega arith),
      end_byte_of b x (k + 1) (omega arith) (omega arith),
      end_byte_of b x k (omega arith) (omega arith),
    ) refl

-- all but the part at the end
pub all_but_end : (b x : List ℕ) (k : ℕ) → k ≡ length x → all_but k (b ++ x) ≡ b
all_but_end b x k is =
    let e : length (b ++ x) - k ≡ length b = omega (arith, is, length-append b x) in
    ap (λ n. take n (b ++ x)) e ∙ take-append_seam b x

pub length-all_but : (bytes : List ℕ) (k : ℕ) → length (all_but k bytes) ≡ length bytes - k
length-all_but bytes k = length-take-le (length bytes - k) bytes (omega arith)

-- the bytes saved before the part at the end, and what was before them
pub bytes_before_end : (b saved x : List ℕ) (k n : ℕ) → k ≡ length x → n ≡ length saved → bytes_before k n ((b ++ saved) ++ x) ≡ saved
bytes_before_end b saved x k n is size =
    let start : length ((b ++ saved) ++ x) - (k + n) ≡ length b =
    omega (arith, is, size, length-append (b ++ saved) x, length-append b saved) in
    ap (λ i. drop i (all_but k ((b ++ saved) ++ x))) start ∙ ap (drop (length b)) (all_but_end (b ++ saved) x k is) ∙ drop-append_seam b saved

pub all_but_saved : (b saved x : List ℕ) (k : ℕ) → k ≡ length x + length saved → all_but k ((b ++ saved) ++ x) ≡ b
all_but_saved b saved x k is =
    let whole : (b ++ saved) ++ x ≡ b ++ (saved ++ x) = append_assoc b saved x in
    ap (all_but k) whole ∙ all_but_end b (saved ++ x) k (omega (arith, is, length-append saved x))

-- a number or none, in one byte and back
pub number_again : (number : Option ℕ) → IfSome number (λ n. n < 255) → number_of_byte (byte_of_number number) ≡ number
number_again None fits = refl
number_again (Some n) fits = grind (arith, nat_tests)
