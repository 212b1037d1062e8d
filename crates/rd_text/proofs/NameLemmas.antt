-- Names by their bytes.
use Rattle.std.proofs.Common.{◌≡◌, ℕ, ◌+◌, ◌<◌, ◌&&◌, Bool, true, List, [], ◌∷◌, cond, map, not, refl, ap, position, IsUtf8, length}
use Rattle.std.proofs.Common.{slice_index, nat_le, inl, inr, arith}
use Rattle.std.specs.List.{list_all}
use Rattle.std.proofs.lemmas.List.{get_or_past}
use Rattle.std.proofs.lemmas.Bool.{cases_lt}
use Rattle.std.proofs.lemmas.Bool.Decides.{nat_tests}
use Rattle.std.proofs.lemmas.Str.{IsUtf8-from_ascii}
use Rattle.rd_text.specs.Words.{is_name, is_name_byte, is_letter}
use Rattle.rd_text.proofs.WordLemmas.{all_at, and_right}
use Rattle.std.proofs.lemmas.List.{length-map}
use Rattle.std.specs.List.{prefix_len}

prefix_len-map : {X Y : Type 0} (p : Y → Bool) (f : X → Y) (xs : List X) → prefix_len p (map f xs) ≡ prefix_len (λ x. p (f x)) xs
prefix_len-map p f [] = refl
prefix_len-map p f (x ∷ xs) = ap (λ n. cond (p (f x)) (1 + n) 0) (prefix_len-map p f xs)

-- where a test of f first holds is where the test first holds along f
pub position-map : {X Y : Type 0} (p : Y → Bool) (f : X → Y) (xs : List X) → position p (map f xs) ≡ position (λ x. p (f x)) xs
position-map p f xs = rw (prefix_len-map (λ y. not (p y)) f xs, length-map xs f) refl

name_byte_small : (b : ℕ) → is_name_byte b ≡ true → b < 128
name_byte_small b h = grind (arith, nat_tests)

-- a name is text
pub name-IsUtf8 : (w : List ℕ) → is_name w ≡ true → IsUtf8 w
name-IsUtf8 w h =
    let bytes = and_right (nat_le (length w) 16 && is_letter (slice_index w 0)) (list_all is_name_byte w) h in
    IsUtf8-from_ascii w (λ i. elim (cases_lt i (length w)) [
      | inl lt ↦ name_byte_small (slice_index w i) (all_at is_name_byte w i bytes lt)
      | inr le ↦ rw (get_or_past w i 0 le) (omega arith)
    ])
