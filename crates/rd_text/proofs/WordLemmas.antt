-- The words of a line, from the first on.
use Rattle.std.proofs.Common.{◌≡◌, ◌∙◌, ℕ, zero, suc, ◌+◌, ◌-◌, ◌<◌, ◌≤◌, ◌++◌, ◌&&◌, Bool, true, false, cond, List, [], ◌∷◌, get_or}
use Rattle.std.proofs.Common.{length, take, drop, filter, not, refl, sym, ap, subst, inl, inr, arith}
use Rattle.std.proofs.lemmas.Bool.{lt-ltb, cases_lt}
use Rattle.std.proofs.lemmas.Bool.Decides.{nat_tests}
use Rattle.std.proofs.lemmas.List.{length-take, length-drop, take_at, drop_at, append-nil, take-append-drop, nil_from_length}
use Rattle.std.proofs.lemmas.List.Sums.{prefix_len-le-length}
use Rattle.std.specs.Char.{is_ascii_digit, digit_value}
use Rattle.std.specs.List.{slice_split, onto_first, prefix_len, list_all}
use Rattle.rd_text.specs.Words.{is_solid, is_word, ends_word, AreWords, is_space, is_some_word, words_of}

one_more : (n : ℕ) → 1 + n ≡ suc n
one_more n = omega arith

-- the parts after the first one
abbrev parts_after : List ℕ → List (List ℕ)
parts_after [] = []
parts_after (y ∷ ys) = slice_split is_space ys

-- the first part ends before the first space
split_first : (xs : List ℕ) → slice_split is_space xs ≡ take (prefix_len is_solid xs) xs ∷ parts_after (drop (prefix_len is_solid xs) xs)
split_first [] = refl
split_first (x ∷ xs) =
    let rest = split_first xs in
    elim (is_space x) as (λ b. cond b ([] ∷ slice_split is_space xs) (onto_first x (slice_split is_space xs)) ≡ take
    (cond (not b) (1 + prefix_len is_solid xs) 0) (x ∷ xs) ∷ parts_after (drop (cond (not b) (1 + prefix_len is_solid xs) 0) (x ∷ xs))) [
      | true ↦ refl
      | false ↦ rw (one_more (prefix_len is_solid xs)) (ap (onto_first x) rest)
    ]

-- after the first part: nothing, or a space and more parts
parts_behind : (xs : List ℕ) → filter is_some_word (parts_after (drop (prefix_len is_solid xs) xs)) ≡ words_of (drop (prefix_len is_solid xs) xs)
parts_behind [] = refl
parts_behind (x ∷ xs) =
    let rest = parts_behind xs in
    elim (is_space x) as (λ b. (is_space x ≡ b)
    → filter is_some_word (parts_after (drop (cond (not b) (1 + prefix_len is_solid xs) 0) (x ∷ xs))) ≡ words_of
    (drop (cond (not b) (1 + prefix_len is_solid xs) 0) (x ∷ xs))) [
      | true ↦ λ e. rw e refl
      | false ↦ λ e. rw (one_more (prefix_len is_solid xs)) rest
    ] refl

-- spaces before the first word don't count
words-spaces : (xs : List ℕ) → words_of xs ≡ words_of (drop (prefix_len is_space xs) xs)
words-spaces [] = refl
words-spaces (x ∷ xs) =
    let rest = words-spaces xs in
    elim (is_space x) as (λ b. (is_space x ≡ b) → words_of (x ∷ xs) ≡ words_of (drop (cond b (1 + prefix_len is_space xs) 0) (x ∷ xs))) [
      | true ↦ λ e. rw (e, one_more (prefix_len is_space xs)) rest
      | false ↦ λ e. refl
    ] refl

-- the first word, where there is one, and those after it
words_from : (xs : List ℕ) → words_of xs ≡ filter is_some_word (take (prefix_len is_solid xs) xs ∷ []) ++ words_of (drop (prefix_len is_solid xs) xs)
words_from xs =
    let part = take (prefix_len is_solid xs) xs in
    let later = parts_behind xs in
    ap (filter is_some_word) (split_first xs)
    ∙ elim (is_some_word part) as (λ b. cond b (part ∷ filter is_some_word (parts_after (drop (prefix_len is_solid xs) xs)))
    (filter is_some_word (parts_after (drop (prefix_len is_solid xs) xs))) ≡ cond b (part ∷ []) [] ++ words_of (drop (prefix_len is_solid xs) xs)) [
      | true ↦ ap (λ (ws : List (List ℕ)). part ∷ ws) later
      | false ↦ later
    ]

-- the line after the spaces that it begins with
abbrev pub unspaced : List ℕ → List ℕ
unspaced line = drop (prefix_len is_space line) line

-- a byte that is no space begins a word
stuck : (x : ℕ) (xs : List ℕ) → is_space x ≡ false → prefix_len is_solid (x ∷ xs) ≡ 0 → ⊥
stuck x xs e h = let one : 1 + prefix_len is_solid xs ≡ 0 = rw e at h in omega arith

-- where no word begins after the spaces, nothing is there
no_word : (line : List ℕ) → prefix_len is_solid (unspaced line) ≡ 0 → unspaced line ≡ []
no_word [] = λ e. refl
no_word (x ∷ xs) =
    let rest = no_word xs in
    elim (is_space x) as (λ b. (is_space x ≡ b) → prefix_len is_solid (drop (cond b (1 + prefix_len is_space xs) 0) (x ∷ xs)) ≡ 0
    → drop (cond b (1 + prefix_len is_space xs) 0) (x ∷ xs) ≡ []) [
      | true ↦ λ e. rw (one_more (prefix_len is_space xs)) rest
      | false ↦ λ e. λ h. absurd (stuck x xs e h)
    ] refl

-- a line is spaces, a word that is empty only at the end, and the rest
pub record IsCut (line word rest : List ℕ) : Type 0 where
  pub first : word ≡ take (prefix_len is_solid (unspaced line)) (unspaced line)
  pub later : rest ≡ drop (prefix_len is_solid (unspaced line)) (unspaced line)

length_first : (line word rest : List ℕ) → IsCut line word rest → length word ≡ prefix_len is_solid (unspaced line)
length_first line word rest cut =
    rw cut.first (omega (arith, length-take (prefix_len is_solid (unspaced line)) (unspaced line), prefix_len-le-length is_solid (unspaced line)))

pub cut_none : (line word rest : List ℕ) → IsCut line word rest → length word ≡ 0 → (words_of line ≡ []) × (words_of rest ≡ [])
cut_none line word rest cut e =
    let ended = no_word line (sym (length_first line word rest cut) ∙ e) in
    (words-spaces line ∙ ap words_of ended, ap words_of (cut.later ∙ ap (λ (from : List ℕ). drop (prefix_len is_solid from) from) ended))

pub cut_some : (line word rest : List ℕ) → IsCut line word rest → 0 < length word → words_of line ≡ word ∷ words_of rest
cut_some line word rest cut lt =
    let from = unspaced line in
    let n = prefix_len is_solid from in
    let some : is_some_word (take n from) ≡ true = lt-ltb _ _ (omega (arith, length_first line word rest cut, ap length cut.first)) in
    rw (cut.first, cut.later) (words-spaces line ∙ words_from from ∙ rw some refl)

pub and_left : (a b : Bool) → (a && b) ≡ true → a ≡ true
and_left true b h = refl
and_left false b h = h

pub and_right : (a b : Bool) → (a && b) ≡ true → b ≡ true
and_right true b h = h
and_right false b h = absurd cc

-- an element that passes
pub all_at : (p : ℕ → Bool) (xs : List ℕ) (i : ℕ) → list_all p xs ≡ true → i < length xs → p (get_or xs i 0) ≡ true
all_at p [] i h lt = absurd (omega arith)
all_at p (x ∷ xs) zero h lt = and_left (p x) (list_all p xs) h
all_at p (x ∷ xs) (suc i) h lt = all_at p xs i (and_right (p x) (list_all p xs) h) (omega arith)

pub digit_is : (c : ℕ) → is_ascii_digit c ≡ true → digit_value c ≡ c - 48
digit_is c h = grind (arith, nat_tests)

pub digit_small : (c : ℕ) → is_ascii_digit c ≡ true → c < 58
digit_small c h = grind (arith, nat_tests)

-- ---- spaces and words in a row

gap_words : (gap line : List ℕ) → list_all is_space gap ≡ true → words_of (gap ++ line) ≡ words_of line
gap_words [] line h = refl
gap_words (x ∷ gap) line h =
    let space : is_space x ≡ true = and_left (is_space x) (list_all is_space gap) h in
    rw space (gap_words gap line (and_right (is_space x) (list_all is_space gap) h))

word_len : (word rest : List ℕ) → list_all is_solid word ≡ true → ends_word rest ≡ true → prefix_len is_solid (word ++ rest) ≡ length word
word_len [] [] h e = refl
word_len [] (y ∷ rest) h e = ap (λ b. cond (not b) (1 + prefix_len is_solid rest) 0) e
word_len (x ∷ word) rest h e =
    let more = word_len word rest (and_right (is_solid x) (list_all is_solid word) h) e in
    let one : 1 + prefix_len is_solid (word ++ rest) ≡ suc (length word) = omega arith in
    ap (λ b. cond b (1 + prefix_len is_solid (word ++ rest)) 0) (and_left (is_solid x) (list_all is_solid word) h) ∙ one

word_words : (word rest : List ℕ) → is_word word ≡ true → ends_word rest ≡ true → words_of (word ++ rest) ≡ word ∷ words_of rest
word_words word rest h e =
    let some : is_some_word word ≡ true = and_left (is_some_word word) (list_all is_solid word) h in
    let len = word_len word rest (and_right (is_some_word word) (list_all is_solid word) h) e in
    let first = take_at word rest (length word) refl in
    let later = drop_at word rest (length word) refl in
    words_from (word ++ rest)
    ∙ ap (λ (n : ℕ). filter is_some_word (take n (word ++ rest) ∷ []) ++ words_of (drop n (word ++ rest))) len
    ∙ ap (λ (w : List ℕ). filter is_some_word (w ∷ []) ++ words_of (drop (length word) (word ++ rest))) first
    ∙ ap (λ (r : List ℕ). filter is_some_word (word ∷ []) ++ words_of r) later
    ∙ ap (λ b. cond b (word ∷ []) [] ++ words_of rest) some

pub words_only : (words : List (List ℕ)) (line : List ℕ) → AreWords words line → words ≡ words_of line
words_only [] line h = sym (ap words_of (sym (append-nil line)) ∙ gap_words line [] h)
words_only (word ∷ words) line h =
    ap (λ (ws : List (List ℕ)). word ∷ ws) (words_only words h.1 h.6)
    ∙ sym (ap words_of h.2 ∙ gap_words h.0 (word ++ h.1) h.3 ∙ word_words word h.1 h.4 h.5)

prefix_passes : (p : ℕ → Bool) (xs : List ℕ) → list_all p (take (prefix_len p xs) xs) ≡ true
prefix_passes p [] = refl
prefix_passes p (x ∷ xs) =
    let rest = prefix_passes p xs in
    elim (p x) as (λ b. (p x ≡ b) → list_all p (take (cond b (1 + prefix_len p xs) 0) (x ∷ xs)) ≡ true) [
      | true ↦ λ e. rw (one_more (prefix_len p xs)) (ap (λ b. b && list_all p (take (prefix_len p xs) xs)) e ∙ rest)
      | false ↦ λ e. refl
    ] refl

ends_prefix : (xs : List ℕ) → ends_word (drop (prefix_len is_solid xs) xs) ≡ true
ends_prefix [] = refl
ends_prefix (x ∷ xs) =
    let rest = ends_prefix xs in
    elim (is_space x) as (λ b. (is_space x ≡ b) → ends_word (drop (cond (not b) (1 + prefix_len is_solid xs) 0) (x ∷ xs)) ≡ true) [
      | true ↦ λ e. e
      | false ↦ λ e. rw (one_more (prefix_len is_solid xs)) rest
    ] refl

-- the line's first word and what stands around it
cut_of : (line : List ℕ) → IsCut line (take (prefix_len is_solid (unspaced line)) (unspaced line)) (drop (prefix_len is_solid (unspaced line)) (unspaced line))
cut_of line = record { first = refl; later = refl }

both_hold : (a b : Bool) → a ≡ true → b ≡ true → (a && b) ≡ true
both_hold a b e f = rw (e, f) refl

line_parts : (line : List ℕ)
    → line ≡ take (prefix_len is_space line) line ++
    (take (prefix_len is_solid (unspaced line)) (unspaced line) ++ drop (prefix_len is_solid (unspaced line)) (unspaced line))
line_parts line =
    sym (ap (λ (r : List ℕ). take (prefix_len is_space line) line ++ r) (take-append-drop (prefix_len is_solid (unspaced line)) (unspaced line))
    ∙ take-append-drop (prefix_len is_space line) line)

no_words : (line : List ℕ) → prefix_len is_solid (unspaced line) ≡ 0 → AreWords (words_of line) line
no_words line e =
    let ended = no_word line e in
    let none : words_of line ≡ [] = words-spaces line ∙ ap words_of ended in
    let whole : line ≡ take (prefix_len is_space line) line =
    sym (take-append-drop (prefix_len is_space line) line) ∙ ap (λ (r : List ℕ). take (prefix_len is_space line) line ++ r) ended
    ∙ append-nil (take (prefix_len is_space line) line) in
    let blank : list_all is_space line ≡ true = ap (list_all is_space) whole ∙ prefix_passes is_space line in
    subst (λ (ws : List (List ℕ)). AreWords ws line) (sym none) blank

some_words : (line : List ℕ) → 0 < prefix_len is_solid (unspaced line)
    → AreWords (words_of (drop (prefix_len is_solid (unspaced line)) (unspaced line))) (drop (prefix_len is_solid (unspaced line)) (unspaced line))
    → AreWords (words_of line) line
some_words line lt others =
    let from = unspaced line in
    let word = take (prefix_len is_solid from) from in
    let rest = drop (prefix_len is_solid from) from in
    let len = length_first line word rest (cut_of line) in
    let some : is_some_word word ≡ true = lt-ltb _ _ (omega (arith, len)) in
    let solid = prefix_passes is_solid from in
    let first = cut_some line word rest (cut_of line) (omega (arith, len)) in
    subst (λ (ws : List (List ℕ)). AreWords ws line) (sym first)
    (take (prefix_len is_space line) line, rest, line_parts line, prefix_passes is_space line, both_hold _ _ some solid, ends_prefix from, others)

words_up_to : (n : ℕ) (line : List ℕ) → length line ≤ n → AreWords (words_of line) line
words_up_to zero line h =
    let none : line ≡ [] = nil_from_length line (omega arith) in
    subst (λ (l : List ℕ). AreWords (words_of l) l) (sym none) refl
words_up_to (suc n) line h =
    let from = unspaced line in
    let shorter = length-drop (prefix_len is_solid from) from in
    let behind = length-drop (prefix_len is_space line) line in
    elim (cases_lt 0 (prefix_len is_solid from)) [
      | inl lt ↦ some_words line lt (words_up_to n (drop (prefix_len is_solid from) from) (omega (arith, shorter, behind, h, lt)))
      | inr le ↦ no_words line (omega arith)
    ]

-- the words of a line are its words
pub words_said : (line : List ℕ) → AreWords (words_of line) line
words_said line = words_up_to (length line) line (omega arith)
