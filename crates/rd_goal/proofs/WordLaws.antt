-- Words that are read, one behind another.
use Rattle.std.proofs.Common.{◌≡◌, ◌∙◌, ◌<◌, ◌≤◌, ◌+◌, ◌-◌, ℕ, Bool, true, false, List, [], ◌∷◌, ◌++◌, Bor, Option, Some, None, length, drop, get_or, refl, sym, ap, subst, arith, append_assoc, position, if◌then◌else◌, option_map}
use Rattle.std.specs.List.{list_all, position_or_len}
use Rattle.std.specs.Option.{is_some}
use Rattle.std.specs.Prelude.{option_and_then, slice_get}
use Rattle.std.specs.Str.{bytes_eq}
use Rattle.std.proofs.lemmas.Grind.{common_steps}
use Rattle.std.proofs.lemmas.List.Sums.{fails_before_first}
use Rattle.std.proofs.lemmas.List.{drop_more, length-drop, length-map}
use Rattle.std.proofs.lemmas.List.Folds.{list_all_at}
use Rattle.std.proofs.lemmas.List.Quantifiers.{position-Some}
use Rattle.std.proofs.lemmas.Option.{get_or_from_slice_get, slice_get-get_or, slice_get-map, slice_get_read, slice_get_within}
use Rattle.std.proofs.lemmas.Slice.Eq.{bytes_eq-Decides}
use Rattle.rd_text.specs.Words.{is_name, name_of, number_of, texts}
use Rattle.rd_text.specs.declared.kind.Kind.{Kind}
use Rattle.rd_names.specs.Apps.{AppView}
use Rattle.rd_names.specs.Names.{names_of}
use Rattle.rd_goal.specs.declared.reading.NoGoal.{NoGoal}
use Rattle.rd_goal.specs.declared.reading.Wanted.{Wanted}
use Rattle.rd_goal.specs.Reading.{IsLast, IsRefusal, IsWhyNot, Reads, GoalSource, WordsView, is_name_next}
use Rattle.rd_goal.specs.Written.{IsNoneBelow, IsNot, IsWordAt, IsWrongAt, Itself, Sign, StandFor, StandsFor}

-- ---- what is ahead

-- the word that comes next, and what is ahead behind it
pub next_ahead : (words : List (Bor (List ℕ))) (read : ℕ) (word : Bor (List ℕ)) → read < length words → word ≡ get_or words read word
    → drop read (texts words) ≡ word.now ∷ drop (read + 1) (texts words)
next_ahead words read word within is =
    let here : slice_get words read ≡ Some word = slice_get_read words (length words) read word refl within is in
    let there : slice_get (texts words) read ≡ Some word.now = slice_get-map (λ w. w.now) words read ∙ ap (λ o. option_map (λ w. w.now) o) here in
    drop_more (texts words) read [] (slice_get_within (texts words) read word.now there)
    ∙ ap (λ w. w ∷ drop (read + 1) (texts words)) (get_or_from_slice_get (texts words) read word.now [] there)

-- that word, where it is read
pub is_word_at : (words : List (Bor (List ℕ))) (read : ℕ) (word : Bor (List ℕ)) → read < length words → word ≡ get_or words read word
    → IsWordAt (texts words) (read + 1) word.now
is_word_at words read word within is =
    let here : slice_get words read ≡ Some word = slice_get_read words (length words) read word refl within is in
    (read, refl, slice_get-map (λ w. w.now) words read ∙ ap (λ o. option_map (λ w. w.now) o) here)

-- ---- numbers that are too large, or none

pub none_below : (limit : ℕ) (word : List ℕ) → number_of word ≡ None → IsNoneBelow limit word
none_below limit word none number is = let bad : None ≡ Some number = sym none ∙ is in absurd cc

pub not_below : (limit found : ℕ) (word : List ℕ) → number_of word ≡ Some found → limit ≤ found → IsNoneBelow limit word
not_below limit found word there large number is =
    let back : Some found ≡ Some number = sym there ∙ is in
    let same : found ≡ number = cc in
    omega (arith, large, same)

-- ---- what is wanted

pub is_wrong : (what : Wanted) (old new : WordsView) (word : List ℕ) → IsLast new word → new.source ≡ old.source → IsNot old.source.app what word
    → IsWrongAt new.source.app new.source.words what new.read
is_wrong what old new word last same is_not = (word, last, subst (λ (source : GoalSource). IsNot source.app what word) (sym same) is_not)

pub why_refused : (source other : GoalSource) (why : NoGoal) → source ≡ other → IsRefusal source why → IsWhyNot other why
why_refused source other why same h = subst (λ (s : GoalSource). IsWhyNot s why) same h.right

-- ---- how many are ahead

pub length_ahead : (words : List (Bor (List ℕ))) (read : ℕ) → length (drop read (texts words)) ≡ length words - read
length_ahead words read = length-drop read (texts words) ∙ ap (λ n. n - read) (length-map words (λ w. w.now))

-- ---- what was read

pub stand_both : (app : AppView) (one other : List Sign) (words more : List (List ℕ)) → StandFor app one words → StandFor app other more
    → StandFor app (one ++ other) (words ++ more)
stand_both app [] other words more h k = subst (λ (w : List (List ℕ)). StandFor app other (w ++ more)) (sym h) k
stand_both app (sign ∷ one) other [] more h k = absurd h
stand_both app (sign ∷ one) other (word ∷ words) more h k = (h.0, stand_both app one other words more h.1 k)

pub reads_both : (one other : List Sign) (old mid new : WordsView) → Reads one old mid → Reads other mid new → Reads (one ++ other) old new
reads_both one other old mid new h k = record {
  words = h.words ++ k.words;
  written = stand_both old.source.app one other h.words k.words h.written (subst (λ (source : GoalSource). StandFor source.app other k.words) h.source k.written);
  ahead = h.ahead ∙ ap (λ ahead. h.words ++ ahead) k.ahead ∙ sym (append_assoc h.words k.words new.ahead);
  source = k.source ∙ h.source;
}

pub reads_along : (signs : List Sign) (old old' new new' : WordsView) → old ≡ old' → new ≡ new' → Reads signs old new → Reads signs old' new'
reads_along signs old old' new new' from to h = subst (λ (w : WordsView). Reads signs w new') from (subst (λ (w : WordsView). Reads signs old w) to h)

pub reads_none : (old : WordsView) → Reads [] old old
reads_none old = record { words = []; written = refl; ahead = refl; source = refl }

pub reads_one : (sign : Sign) (old new : WordsView) (word : List ℕ) → StandsFor old.source.app sign word → old.ahead ≡ word ∷ new.ahead
    → new.source ≡ old.source → Reads (sign ∷ []) old new
reads_one sign old new word stands ahead source = record { words = word ∷ []; written = (stands, refl); ahead = ahead; source = source }

pub reads_more : (sign : Sign) (others : List Sign) (old mid new : WordsView) → Reads (sign ∷ []) old mid → Reads others mid new
    → Reads (sign ∷ others) old new
reads_more sign others old mid new h k = reads_both (sign ∷ []) others old mid new h k

-- a word by itself
pub reads_itself : (old new : WordsView) (word : List ℕ) → old.ahead ≡ word ∷ new.ahead → new.source ≡ old.source → Reads (Itself word ∷ []) old new
reads_itself old new word ahead source = reads_one (Itself word) old new word refl ahead source

-- what is read is behind, so less is ahead
pub length-both : (xs ys : List (List ℕ)) → length (xs ++ ys) ≡ length xs + length ys
length-both [] ys = omega arith
length-both (x ∷ xs) ys = let more = length-both xs ys in omega (arith, more)

at_least_one : (app : AppView) (sign : Sign) (signs : List Sign) (words : List (List ℕ)) → StandFor app (sign ∷ signs) words → 0 < length words
at_least_one app sign signs [] h = absurd h
at_least_one app sign signs (word ∷ words) h = omega arith

pub less_ahead : (sign : Sign) (signs : List Sign) (old new : WordsView) → Reads (sign ∷ signs) old new → length new.ahead < length old.ahead
less_ahead sign signs old new h =
    let more = at_least_one old.source.app sign signs h.words h.written in
    let same = ap length h.ahead ∙ length-both h.words new.ahead in
    omega (arith, more, same)

-- ---- names

pub equal_bytes : (xs ys : List ℕ) → bytes_eq xs ys ≡ true → xs ≡ ys
equal_bytes xs ys is = (bytes_eq-Decides xs ys).0 is

-- the thing that a name finds is called so
pub found_named : (names : List (List ℕ)) (word : List ℕ) (number : ℕ) → position (bytes_eq word) names ≡ Some number
    → slice_get names number ≡ Some word
found_named names word number found =
    let at = position-Some (bytes_eq word) names number [] found in
    slice_get-get_or names number [] at.0 ∙ ap Some (sym (equal_bytes word (get_or names number []) at.1))

-- a name that finds something is that thing's name
pub is_found : (names : List (List ℕ)) (word : List ℕ) → is_some (position (bytes_eq word) names) ≡ true
    → (number : ℕ) × (slice_get names number ≡ Some word)
is_found names word =
    elim (position (bytes_eq word) names) as (λ p. (position (bytes_eq word) names ≡ p) → is_some p ≡ true → (number : ℕ) × (slice_get names number ≡ Some word)) [
      | None ↦ λ e h. let bad : false ≡ true = h in absurd cc
      | Some number ↦ λ e h. (number, found_named names word number e)
    ] refl

-- a name that finds nothing is the name of nothing
pub unfound : (names : List (List ℕ)) (word : List ℕ) → position (bytes_eq word) names ≡ None → (number : ℕ) → slice_get names number ≡ Some word → ⊥
unfound names word none number is =
    let within = slice_get_within names number word is in
    let all : length names ≤ position_or_len (bytes_eq word) names = grind (arith, common_steps) in
    let fails = fails_before_first (bytes_eq word) names number [] (omega (arith, within, all)) in
    let passes : bytes_eq word (get_or names number []) ≡ true = (bytes_eq-Decides word (get_or names number [])).1 (sym (get_or_from_slice_get names number word [] is)) in
    let bad : false ≡ true = sym fails ∙ passes in
    absurd cc

-- what is among names has the form of one
pub is_name_among : (names : List (List ℕ)) (word : List ℕ) (number : ℕ) → list_all is_name names ≡ true → slice_get names number ≡ Some word → is_name word ≡ true
is_name_among names word number named is =
    elim (is_name word) as (λ b. (is_name word ≡ b) → b ≡ true) [
      | true ↦ λ e. refl
      | false ↦ λ e.
          let fails = ap is_name (get_or_from_slice_get names number word [] is) ∙ e in
          let bad : false ≡ true = sym (list_all_at is_name names number [] (slice_get_within names number word is) fails) ∙ named in
          absurd cc
    ] refl

by_name : (word name : List ℕ) (b : Bool) → (if b then Some word else None) ≡ Some name → name ≡ word
by_name word name true is = let back : Some word ≡ Some name = is in cc
by_name word name false is = let bad : None ≡ Some name = is in absurd cc

-- a word that has no name's form is the name of nothing
pub no_name : (names : List (List ℕ)) (word : List ℕ) → list_all is_name names ≡ true → name_of word ≡ None → (number : ℕ) → slice_get names number ≡ Some word → ⊥
no_name names word named none number is =
    let some = ap (λ b. if b then Some word else None) (is_name_among names word number named is) in
    let bad : None ≡ Some word = sym none ∙ some in
    absurd cc

pub is_its_name : (word name : List ℕ) → name_of word ≡ Some name → name ≡ word
is_its_name word name is = by_name word name (is_name word) is

-- the word that comes next is no name, or that of something by its place among the names
pub no_name_next : (kind : Kind) (app : AppView) (ahead rest : List (List ℕ)) (word : List ℕ) → ahead ≡ word ∷ rest → name_of word ≡ None → is_name_next kind app ahead ≡ false
no_name_next kind app ahead rest word is none =
    ap (is_name_next kind app) is
    ∙ ap (λ (name : Option (List ℕ)). is_some (option_and_then (λ n. position (bytes_eq n) (names_of kind app.names)) name)) none

pub name_next : (kind : Kind) (app : AppView) (ahead rest : List (List ℕ)) (word name : List ℕ) → ahead ≡ word ∷ rest → name_of word ≡ Some name
    → is_name_next kind app ahead ≡ is_some (position (bytes_eq name) (names_of kind app.names))
name_next kind app ahead rest word name is named =
    ap (is_name_next kind app) is
    ∙ ap (λ (n : Option (List ℕ)). is_some (option_and_then (λ m. position (bytes_eq m) (names_of kind app.names)) n)) named
