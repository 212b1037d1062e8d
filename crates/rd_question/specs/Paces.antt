-- How a pace is written.
use Rattle.std.specs.Prelude.{◌≡◌, ◌≢◌, ◌⊎◌, ◌<◌, ◌≤◌, ◌∷◌, ◌++◌, ℕ, List, [], codes}
use Rattle.std.specs.Prelude.{Option, None, Some, IfSome}
use Rattle.rd_question.specs.Numbers.{small_number}
use Rattle.rd_question.specs.declared.pace.NoPace.{NoPace}
use Rattle.rd_question.specs.declared.pace.NoPace.TheVariants.{Crossed, Form}
use Rattle.rd_question.specs.declared.pace.Pace.{Pace}

-- It is the number that the text writes, and 0 where there is no text.
abbrev pub IsLeast : List ℕ → ℕ → Type 0
IsLeast [] number = number ≡ 0
IsLeast (byte ∷ bytes) number = small_number 0 (byte ∷ bytes) ≡ Some number

-- It is the number that the text writes, and none where there is no text.
abbrev pub IsMost : List ℕ → Option ℕ → Type 0
IsMost [] most = most ≡ None
IsMost (byte ∷ bytes) most =
    (number : ℕ) × (most ≡ Some number) × (small_number 1 (byte ∷ bytes) ≡ Some number)

-- Moves can come by the pace, and ticks: it asks for no more moves than it lets come, and lets some.
abbrev pub CanCome : Pace → Type 0
CanCome pace = IfSome pace.at_most (λ most. (1 ≤ most) × (pace.at_least ≤ most))

-- The word writes the pace: the least, '..', the most.
pub record IsWritten (word : List ℕ) (pace : Pace) : Type 0 where
  pub least : List ℕ
  pub most : List ℕ
  pub parts : word ≡ least ++ (codes ".." ++ most)
  pub at_least : IsLeast least pace.at_least
  pub at_most : IsMost most pace.at_most

-- The text is no least, and no most: it is some text, and no such number.
abbrev pub IsNoLeast : List ℕ → Type 0
IsNoLeast text = (text ≢ []) × (small_number 0 text ≡ None)

abbrev pub IsNoMost : List ℕ → Type 0
IsNoMost text = (text ≢ []) × (small_number 1 text ≡ None)

-- The word has no '..', or nothing beside it, or what stands there is no such number.
abbrev pub IsOutOfForm : List ℕ → Type 0
IsOutOfForm word =
    ((least most : List ℕ) → word ≢ least ++ (codes ".." ++ most))
    ⊎ ((least : List ℕ) × (most : List ℕ) × (word ≡ least ++ (codes ".." ++ most))
    × (((least ≡ []) × (most ≡ [])) ⊎ IsNoLeast least ⊎ IsNoMost most))

-- The word writes a pace by which no tick could come.
abbrev pub IsCrossed : List ℕ → Type 0
IsCrossed word = (pace : Pace) × IsWritten word pace
    × (most : ℕ) × (pace.at_most ≡ Some most) × (most < pace.at_least)

-- The word writes no pace, for that.
abbrev pub IsNoPace : NoPace → List ℕ → Type 0
IsNoPace Form word = IsOutOfForm word
IsNoPace Crossed word = IsCrossed word
