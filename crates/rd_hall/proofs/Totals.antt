-- Sums over the numbers below some number.
use Rattle.std.proofs.Common.{◌≡◌, ℕ, zero, suc, ◌+◌, ◌≤◌, ◌<◌, refl, ap, sym, arith, ◌∙◌, inl, inr}
use Rattle.std.specs.Prelude.{nat_eq, if◌then◌else◌}
use Rattle.std.proofs.lemmas.Bool.{cases_lt}
use Rattle.std.proofs.lemmas.Bool.Decides.{nat_tests}

abbrev pub total : ℕ → (ℕ → ℕ) → ℕ
total zero f = 0
total (suc n) f = total n f + f n

pub total-same : (n : ℕ) (f g : ℕ → ℕ) → ((w : ℕ) → f w ≡ g w) → total n f ≡ total n g
total-same zero f g same = refl
total-same (suc n) f g same = omega (arith, total-same n f g same, same n)

pub total-add : (n : ℕ) (f g : ℕ → ℕ) → total n (λ w. f w + g w) ≡ total n f + total n g
total-add zero f g = refl
total-add (suc n) f g = omega (arith, total-add n f g)

pub total-zero : (n : ℕ) → total n (λ w. 0) ≡ 0
total-zero zero = refl
total-zero (suc n) = omega (arith, total-zero n)

-- k at one number, and nothing at the others
abbrev pub at_one : ℕ → ℕ → ℕ → ℕ
at_one a k w = if nat_eq a w then k else 0

at_other : (a k w : ℕ) → w < a → at_one a k w ≡ 0
at_other a k w less = grind (arith, nat_tests)

at_same : (a k w : ℕ) → a ≡ w → at_one a k w ≡ k
at_same a k w same = grind (arith, nat_tests, same)

total-none : (n a k : ℕ) → n ≤ a → total n (at_one a k) ≡ 0
total-none zero a k past = refl
total-none (suc n) a k past = omega (arith, total-none n a k (omega (arith, past)), at_other a k n (omega (arith, past)))

at_later : (a k w : ℕ) → a < w → at_one a k w ≡ 0
at_later a k w less = grind (arith, nat_tests)

pub total-one : (n a k : ℕ) → a < n → total n (at_one a k) ≡ k
total-one zero a k within = absurd (omega (arith, within))
total-one (suc n) a k within =
    elim (cases_lt a n) [
      | inl earlier ↦ omega (arith, total-one n a k earlier, at_later a k n earlier)
      | inr here ↦ omega (arith, total-none n a k (omega (arith, here)), at_same a k n (omega (arith, here, within)))
    ]

pub total-le : (n : ℕ) (f g : ℕ → ℕ) → ((w : ℕ) → f w ≤ g w) → total n f ≤ total n g
total-le zero f g less = omega arith
total-le (suc n) f g less = omega (arith, total-le n f g less, less n)

-- where no number has more and the sums are equal, each number has as much
pub total-exact : (n : ℕ) (f g : ℕ → ℕ) → ((w : ℕ) → f w ≤ g w) → total n f ≡ total n g → (w : ℕ) → w < n → f w ≡ g w
total-exact zero f g less same w within = absurd (omega (arith, within))
total-exact (suc n) f g less same w within =
    let below = total-le n f g less in
    let here = less n in
    let last : f n ≡ g n = omega (arith, below, here, same) in
    elim (cases_lt w n) [
      | inl earlier ↦ total-exact n f g less (omega (arith, below, here, same)) w earlier
      | inr at_end ↦ let e : w ≡ n = omega (arith, at_end, within) in ap f e ∙ last ∙ sym (ap g e)
    ]
