-- The line of a call, word by word.
use Rattle.std.proofs.Common.{◌≡◌, ◌∙◌, ℕ, Bool, true, false, List, [], ◌∷◌, ◌++◌, refl, ap, sym, append_assoc}
use Rattle.std.specs.Prelude.{codes, if◌then◌else◌}
use Rattle.std.specs.Borrow.{Bor}
use Rattle.std.specs.Str.{bytes_eq}
use Rattle.std.proofs.lemmas.Grind.{flat_map-append}
use Rattle.std.proofs.lemmas.List.{map-append}
use Rattle.rd_text.specs.Words.{texts}
use Rattle.rd_question.specs.Handlers.{behind_isr, isr_line, each_behind_space}

-- nothing stands before it
abbrev pub is_first : {X : Type 0} → List X → Bool
is_first [] = true
is_first (x ∷ xs) = false

-- what a word adds to the line of those before it
abbrev pub added : Bool → List ℕ → List ℕ
added first word = each_behind_space (if first then behind_isr (word ∷ []) else word ∷ [])

behind_push : (words : List (List ℕ)) (word : List ℕ) → each_behind_space (behind_isr (words ++ word ∷ []))
    ≡ each_behind_space (behind_isr words) ++ added (is_first words) word
behind_push [] word = refl
behind_push (first ∷ words) word = go (bytes_eq first (codes "isr"))
  where
    go : (is_isr : Bool) → each_behind_space (if is_isr then words ++ word ∷ [] else first ∷ (words ++ word ∷ []))
        ≡ each_behind_space (if is_isr then words else first ∷ words) ++ each_behind_space (word ∷ [])
    go true = flat_map-append (λ (w : List ℕ). 32 ∷ w) words (word ∷ [])
    go false = flat_map-append (λ (w : List ℕ). 32 ∷ w) (first ∷ words) (word ∷ [])

line_push : (words : List (List ℕ)) (word : List ℕ) → isr_line words ++ added (is_first words) word ≡ isr_line (words ++ word ∷ [])
line_push words word =
    append_assoc (codes "isr") (each_behind_space (behind_isr words)) (added (is_first words) word)
    ∙ ap (λ (rest : List ℕ). codes "isr" ++ rest) (sym (behind_push words word))

first-texts : (words : List (Bor (List ℕ))) → is_first (texts words) ≡ is_first words
first-texts [] = refl
first-texts (word ∷ words) = refl

-- the line with one word more
pub line_more : (words : List (Bor (List ℕ))) (word : Bor (List ℕ)) (line new : List ℕ) (first : Bool) → first ≡ is_first words
    → line ≡ isr_line (texts words) → new ≡ line ++ added first word.now → new ≡ isr_line (texts (words ++ word ∷ []))
line_more words word line new first none is more =
    more
    ∙ ap (λ (l : List ℕ). l ++ added first word.now) is
    ∙ ap (λ (b : Bool). isr_line (texts words) ++ added b word.now) (none ∙ sym (first-texts words))
    ∙ line_push (texts words) word.now
    ∙ ap isr_line (sym (map-append (λ (w : Bor (List ℕ)). w.now) words (word ∷ [])))

pub not_first : {X : Type 0} (xs : List X) (x : X) → false ≡ is_first (xs ++ x ∷ [])
not_first [] x = refl
not_first (y ∷ ys) x = refl
