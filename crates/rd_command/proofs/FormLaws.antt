-- Where no word is left, none has the form of an operand that is.
use Rattle.std.proofs.Common.{◌≡◌, ◌<◌, ℕ, zero, suc, List, [], ◌∷◌, drop, length, None, refl, arith}
use Rattle.rd_command.specs.declared.keyword.CommandParameter.{CommandParameter}
use Rattle.rd_command.specs.Forms.{after_words}

pub no_words : (parameters : List CommandParameter) (index : ℕ) → index < length parameters → after_words (drop index parameters) [] ≡ None
no_words [] index there = absurd (omega (arith, there))
no_words (parameter ∷ others) zero there = refl
no_words (parameter ∷ others) (suc index) there = no_words others index (omega (arith, there))

pub nothing_left : {X : Type 0} (xs : List X) → length xs < 1 → xs ≡ []
nothing_left [] none = refl
nothing_left (x ∷ xs) none = absurd (omega (arith, none))
