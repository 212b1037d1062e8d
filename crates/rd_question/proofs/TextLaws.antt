-- A text in two parts.
use Rattle.std.proofs.Common.{◌≡◌, ◌∙◌, ℕ, List, [], ◌∷◌, ◌++◌, length, take, refl, ap, sym, arith, ◌+◌, ◌<◌, get_or, append_assoc}
use Rattle.std.proofs.lemmas.List.{append-nil, map-append, take-append-drop, take_more}
use Rattle.std.specs.Borrow.{Bor}
use Rattle.clap.specs.Words.{Text}
use Rattle.rd_text.specs.Words.{texts, words_of}
use Rattle.rd_goal.specs.Written.{spaced}
use Rattle.rd_question.specs.CommandLine.{words_in}
use Rattle.std.specs.Str.Pattern.{FindsText, SplitsAroundMatch}

pub in_parts : (text by front back : List ℕ) → SplitsAroundMatch (FindsText by) text front back → text ≡ front ++ (by ++ back)
in_parts text by front back h =
    let i = h.0 in
    let j = h.1 in
    sym (take-append-drop i text) ∙ ap (λ (rest : List ℕ). take i text ++ rest) h.2.1.split
    ∙ ap (λ (rest : List ℕ). take i text ++ (by ++ rest)) (sym h.4)
    ∙ ap (λ (first : List ℕ). first ++ (by ++ back)) (sym h.3)

pub no_text : (text : List ℕ) → length text ≡ 0 → text ≡ []
no_text [] none = refl
no_text (code ∷ text) none = absurd (omega (arith, none))

-- ---- words of a goal

words_in-append : (xs ys : List Text) → words_in (xs ++ ys) ≡ words_in xs ++ words_in ys
words_in-append [] ys = refl
words_in-append (x ∷ xs) ys =
    ap (λ (rest : List Text). words_of (spaced x) ++ rest) (words_in-append xs ys) ∙ sym (append_assoc (words_of (spaced x)) (words_in xs) (words_in ys))

-- the words of one text more
pub words_in-more : (said : List (Bor Text)) (at : ℕ) (d : Bor Text) → at < length said
    → words_in (texts (take (at + 1) said)) ≡ words_in (texts (take at said)) ++ words_of (spaced (get_or said at d).now)
words_in-more said at d within =
    let text = (get_or said at d).now in
    ap (λ (those : List (Bor Text)). words_in (texts those)) (take_more said at d within)
    ∙ ap words_in (map-append (λ (t : Bor Text). t.now) (take at said) (get_or said at d ∷ []))
    ∙ words_in-append (texts (take at said)) (text ∷ [])
    ∙ ap (λ (last : List Text). words_in (texts (take at said)) ++ last) (append-nil (words_of (spaced text)))
