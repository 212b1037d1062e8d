-- The words of a text with parentheses.
use Rattle.std.proofs.Common.{◌≡◌, ◌∙◌, ◌<◌, ◌≤◌, ◌+◌, ◌-◌, ◌++◌, ◌∷◌, ◌&&◌, ◌||◌, ℕ, Bool, true, false, not, List, [], cond, drop, filter, get_or, length, take, refl, sym, ap, arith, append_assoc}
use Rattle.std.specs.Prelude.{slice_index}
use Rattle.std.specs.List.{list_all, onto_first, slice_split}
use Rattle.std.proofs.lemmas.Bool.Decides.{nat_tests}
use Rattle.std.proofs.lemmas.List.{append-nil, drop_more, get_or-drop, length-drop, take_more}
use Rattle.std.proofs.lemmas.List.Folds.{list_all-append}
use Rattle.std.proofs.Math.ListN.{drop_of_length-le}
use Rattle.rd_text.specs.Words.{is_solid, is_some_word, is_space, words_of}
use Rattle.rd_goal.specs.Reading.{parenthesis_in, part_of, word_in}
use Rattle.rd_goal.specs.Written.{is_parenthesis, spaced, spaced_byte}

-- ---- one part

first_solid : (b : ℕ) (text : List ℕ) → list_all is_solid (b ∷ text) ≡ true → (is_space b ≡ false) × (list_all is_solid text ≡ true)
first_solid b text =
    elim (is_space b) as (λ s. (is_space b ≡ s) → (not s && list_all is_solid text) ≡ true → (s ≡ false) × (list_all is_solid text ≡ true)) [
      | true ↦ λ e h. let bad : false ≡ true = h in absurd cc
      | false ↦ λ e h. (refl, h)
    ] refl

-- a part that ends at a space
split_at : (part rest : List ℕ) → list_all is_solid part ≡ true → slice_split is_space (part ++ 32 ∷ rest) ≡ part ∷ slice_split is_space rest
split_at [] rest solid = refl
split_at (b ∷ part) rest solid =
    let both = first_solid b part solid in
    let more = ap (onto_first b) (split_at part rest both.1) in
    rw both.0 more

split_alone : (part : List ℕ) → list_all is_solid part ≡ true → slice_split is_space part ≡ part ∷ []
split_alone [] solid = refl
split_alone (b ∷ part) solid =
    let both = first_solid b part solid in
    let more = ap (onto_first b) (split_alone part both.1) in
    rw both.0 more

first_apart : (part : List ℕ) (parts : List (List ℕ)) → filter is_some_word (part ∷ parts) ≡ word_in part ++ filter is_some_word parts
first_apart part parts =
    elim (is_some_word part) as (λ s. cond s (part ∷ filter is_some_word parts) (filter is_some_word parts)
    ≡ cond s (part ∷ []) [] ++ filter is_some_word parts) [ true ↦ refl | false ↦ refl ]

words_at : (part rest : List ℕ) → list_all is_solid part ≡ true → words_of (part ++ 32 ∷ rest) ≡ word_in part ++ words_of rest
words_at part rest solid = ap (filter is_some_word) (split_at part rest solid) ∙ first_apart part (slice_split is_space rest)

pub words_alone : (part : List ℕ) → list_all is_solid part ≡ true → words_of (part ++ []) ≡ word_in part
words_alone part solid = ap words_of (append-nil part) ∙ ap (filter is_some_word) (split_alone part solid)

-- ---- one byte

spaced_more : (text : List ℕ) (at : ℕ) → at < length text → spaced (drop at text) ≡ spaced_byte (slice_index text at) ++ spaced (drop (at + 1) text)
spaced_more text at within = ap spaced (drop_more text at 0 within)

-- a parenthesis is no space
no_space : (b : ℕ) → is_parenthesis b ≡ true → is_space b ≡ false
no_space b is = grind (arith, nat_tests, is)

is_32 : (b : ℕ) → is_space b ≡ true → b ≡ 32
is_32 b is = grind (arith, nat_tests, is)

-- what ends a word, and what comes behind it
words_behind : (part rest : List ℕ) (b : ℕ) → list_all is_solid part ≡ true → (is_space b || is_parenthesis b) ≡ true
    → words_of (part ++ (spaced_byte b ++ rest)) ≡ (word_in part ++ parenthesis_in b) ++ words_of rest
words_behind part rest b solid ends = by (is_parenthesis b) refl
  where
    by : (p : Bool) → is_parenthesis b ≡ p → words_of (part ++ (spaced_byte b ++ rest)) ≡ (word_in part ++ parenthesis_in b) ++ words_of rest
    by true is =
        let none = no_space b is in
        let alone : list_all is_solid (b ∷ []) ≡ true = rw none refl in
        let bytes : spaced_byte b ≡ 32 ∷ b ∷ 32 ∷ [] = rw is refl in
        let word : parenthesis_in b ≡ (b ∷ []) ∷ [] = rw none refl in
        ap (λ (bytes : List ℕ). words_of (part ++ (bytes ++ rest))) bytes
        ∙ words_at part (b ∷ 32 ∷ rest) solid
        ∙ ap (λ (words : List (List ℕ)). word_in part ++ words) (words_at (b ∷ []) rest alone)
        ∙ sym (append_assoc (word_in part) ((b ∷ []) ∷ []) (words_of rest))
        ∙ ap (λ (word : List (List ℕ)). (word_in part ++ word) ++ words_of rest) (sym word)
    by false is =
        let space : is_space b ≡ true = grind (arith, nat_tests, ends, is) in
        let bytes : spaced_byte b ≡ 32 ∷ [] = rw is (ap (λ n. n ∷ []) (is_32 b space)) in
        let word : parenthesis_in b ≡ [] = rw space refl in
        ap (λ (bytes : List ℕ). words_of (part ++ (bytes ++ rest))) bytes
        ∙ words_at part rest solid
        ∙ ap (λ (words : List (List ℕ)). words ++ words_of rest) (sym (append-nil (word_in part)))
        ∙ ap (λ (word : List (List ℕ)). (word_in part ++ word) ++ words_of rest) (sym word)

pub words_ended : (text : List ℕ) (begun at : ℕ) → at < length text → list_all is_solid (part_of text begun at) ≡ true
    → (is_space (slice_index text at) || is_parenthesis (slice_index text at)) ≡ true
    → words_of (part_of text begun at ++ spaced (drop at text))
    ≡ (word_in (part_of text begun at) ++ parenthesis_in (slice_index text at)) ++ words_of (spaced (drop (at + 1) text))
words_ended text begun at within solid ends =
    ap (λ (rest : List ℕ). words_of (part_of text begun at ++ rest)) (spaced_more text at within)
    ∙ words_behind (part_of text begun at) (spaced (drop (at + 1) text)) (slice_index text at) solid ends

-- ---- a part that goes on

part_more : (text : List ℕ) (begun at : ℕ) → begun ≤ at → at < length text
    → part_of text begun (at + 1) ≡ part_of text begun at ++ slice_index text at ∷ []
part_more text begun at order within =
    let many = length-drop begun text in
    let next : at + 1 - begun ≡ at - begun + 1 = omega (arith, order) in
    let here : begun + (at - begun) ≡ at = omega (arith, order) in
    ap (λ n. take n (drop begun text)) next
    ∙ take_more (drop begun text) (at - begun) 0 (omega (arith, many, order, within))
    ∙ ap (λ b. part_of text begun at ++ b ∷ []) (get_or-drop begun text (at - begun) 0 ∙ ap (λ n. get_or text n 0) here)

plain_byte : (b : ℕ) → (is_space b || is_parenthesis b) ≡ false → (is_space b ≡ false) × (spaced_byte b ≡ b ∷ [])
plain_byte b plain =
    let no_parenthesis : is_parenthesis b ≡ false = grind (arith, nat_tests, plain) in
    let space : is_space b ≡ false = grind (arith, nat_tests, plain) in
    (space, rw no_parenthesis refl)

pub part_goes_on : (text : List ℕ) (begun at : ℕ) → begun ≤ at → at < length text
    → (is_space (slice_index text at) || is_parenthesis (slice_index text at)) ≡ false
    → part_of text begun (at + 1) ++ spaced (drop (at + 1) text) ≡ part_of text begun at ++ spaced (drop at text)
part_goes_on text begun at order within plain =
    let byte = plain_byte (slice_index text at) plain in
    ap (λ (part : List ℕ). part ++ spaced (drop (at + 1) text)) (part_more text begun at order within)
    ∙ append_assoc (part_of text begun at) (slice_index text at ∷ []) (spaced (drop (at + 1) text))
    ∙ ap (λ (bytes : List ℕ). part_of text begun at ++ (bytes ++ spaced (drop (at + 1) text))) (sym byte.1)
    ∙ ap (λ (rest : List ℕ). part_of text begun at ++ rest) (sym (spaced_more text at within))

pub part_solid : (text : List ℕ) (begun at : ℕ) → begun ≤ at → at < length text → list_all is_solid (part_of text begun at) ≡ true
    → (is_space (slice_index text at) || is_parenthesis (slice_index text at)) ≡ false → list_all is_solid (part_of text begun (at + 1)) ≡ true
part_solid text begun at order within solid plain =
    let byte = plain_byte (slice_index text at) plain in
    let last : list_all is_solid (slice_index text at ∷ []) ≡ true = rw byte.0 refl in
    ap (list_all is_solid) (part_more text begun at order within)
    ∙ list_all-append is_solid (part_of text begun at) (slice_index text at ∷ [])
    ∙ rw (solid, last) refl

-- nothing stands between a place and itself
pub part_none : (text : List ℕ) (at : ℕ) → part_of text at at ≡ []
part_none text at = let none : at - at ≡ 0 = omega arith in ap (λ n. take n (drop at text)) none

-- ---- all words

-- the words behind what ended one
pub words_kept : (text : List ℕ) (begun at : ℕ) (old new all : List (List ℕ)) → at < length text → list_all is_solid (part_of text begun at) ≡ true
    → (is_space (slice_index text at) || is_parenthesis (slice_index text at)) ≡ true
    → new ≡ (old ++ word_in (part_of text begun at)) ++ parenthesis_in (slice_index text at)
    → old ++ words_of (part_of text begun at ++ spaced (drop at text)) ≡ all
    → new ++ words_of (part_of text (at + 1) (at + 1) ++ spaced (drop (at + 1) text)) ≡ all
words_kept text begun at old new all within solid ends added was =
    let part = word_in (part_of text begun at) in
    let closed = parenthesis_in (slice_index text at) in
    let rest = words_of (spaced (drop (at + 1) text)) in
    ap (λ (part : List ℕ). new ++ words_of (part ++ spaced (drop (at + 1) text))) (part_none text (at + 1))
    ∙ ap (λ (words : List (List ℕ)). words ++ rest) (added ∙ append_assoc old part closed)
    ∙ append_assoc old (part ++ closed) rest
    ∙ ap (λ (words : List (List ℕ)). old ++ words) (sym (words_ended text begun at within solid ends))
    ∙ was

-- the words at the end
pub words_all : (text : List ℕ) (begun at : ℕ) (old new all : List (List ℕ)) → length text ≤ at → at ≤ length text
    → list_all is_solid (part_of text begun at) ≡ true → new ≡ old ++ word_in (part_of text begun (length text))
    → old ++ words_of (part_of text begun at ++ spaced (drop at text)) ≡ all → new ≡ all
words_all text begun at old new all over within solid added was =
    let none : drop at text ≡ [] = drop_of_length-le text over in
    let same : length text ≡ at = omega (arith, over, within) in
    added ∙ ap (λ n. old ++ word_in (part_of text begun n)) same ∙ ap (λ (words : List (List ℕ)). old ++ words) (sym (words_alone (part_of text begun at) solid))
    ∙ ap (λ (rest : List ℕ). old ++ words_of (part_of text begun at ++ spaced rest)) (sym none) ∙ was
