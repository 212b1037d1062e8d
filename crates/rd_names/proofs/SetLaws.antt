-- Sets of names, text by text.
use Rattle.std.proofs.Common.{◌≡◌, ◌∙◌, ℕ, ◌+◌, ◌<◌, ◌||◌, ◌&&◌, Bool, true, false, cond, not, List, [], ◌∷◌, ◌++◌, length, map, get_or, drop, refl, sym, ap}
use Rattle.std.proofs.Common.{Bor, String, Global, string_bytes, string_eq, add-one, append_assoc, drop-cons, subst, position}
use Rattle.std.proofs.Common.{zero, suc, take}
use Rattle.std.specs.Prelude.{Some, slice_get}
use Rattle.std.proofs.lemmas.List.{append-nil, length-map, map-append}
use Rattle.std.specs.List.{list_any, prefix_len}
use Rattle.std.specs.Str.{bytes_eq}
use Rattle.indexmap.specs.IndexSet.{insert_key}
use Rattle.rd_names.specs.NameSets.{names_after, names_among, with_name}
use Rattle.rd_text.specs.Names.{AreDistinctNames}
use Rattle.rd_text.specs.Words.{is_name, texts}
use Rattle.rd_text.proofs.Offered.{AreDistinctNames-push, IsNewName, IsNewName-in, not_true}

list_any-map : {X Y : Type 0} (p : Y → Bool) (f : X → Y) (xs : List X) → list_any p (map f xs) ≡ list_any (λ x. p (f x)) xs
list_any-map p f [] = refl
list_any-map p f (x ∷ xs) = ap (λ b. p (f x) || b) (list_any-map p f xs)

prefix_len-map : {X Y : Type 0} (p : Y → Bool) (f : X → Y) (xs : List X) → prefix_len p (map f xs) ≡ prefix_len (λ x. p (f x)) xs
prefix_len-map p f [] = refl
prefix_len-map p f (x ∷ xs) = ap (λ n. cond (p (f x)) (1 + n) 0) (prefix_len-map p f xs)

-- where a test of f first holds is where the test first holds along f
pub position-map : {X Y : Type 0} (p : Y → Bool) (f : X → Y) (xs : List X) → position p (map f xs) ≡ position (λ x. p (f x)) xs
position-map p f xs = rw (prefix_len-map (λ y. not (p y)) f xs, length-map xs f) refl

-- a name that is inserted
pub inserted : (keys : List (String Global)) (s : String Global) (name : List ℕ) → string_bytes s ≡ name → is_name name ≡ true
    → map string_bytes (insert_key string_eq keys s) ≡ with_name (map string_bytes keys) name
inserted keys s name is named = by (list_any (bytes_eq name) (map string_bytes keys)) refl
  where
    same : list_any (λ key. bytes_eq (string_bytes s) (string_bytes key)) keys ≡ list_any (bytes_eq name) (map string_bytes keys)
    same = rw is (sym (list_any-map (bytes_eq name) string_bytes keys))

    by : (b : Bool) → list_any (bytes_eq name) (map string_bytes keys) ≡ b
        → map string_bytes (insert_key string_eq keys s) ≡ with_name (map string_bytes keys) name
    by true there = rw (same ∙ there, named, there) refl
    by false new =
        rw (same ∙ new, named, new) (map-append string_bytes keys (s ∷ []) ∙ ap (λ (n : List ℕ). map string_bytes keys ++ n ∷ []) is)

-- a text that is no name
pub left_out : (names : List (List ℕ)) (text : List ℕ) → is_name text ≡ false → with_name names text ≡ names
left_out names text none = rw none refl

-- names stay names, no two of which are equal
pub with_name-distinct : (names : List (List ℕ)) (text : List ℕ) → AreDistinctNames names → AreDistinctNames (with_name names text)
with_name-distinct names text are = by (is_name text) (list_any (bytes_eq text) names) refl refl
  where
    by : (n b : Bool) → is_name text ≡ n → list_any (bytes_eq text) names ≡ b → AreDistinctNames (with_name names text)
    by false b none e = rw none are
    by true true named there = rw (named, there) are
    by true false named new = rw (named, new) (AreDistinctNames-push names text are (record { named = named; fresh = new }))

-- the texts from an index on
pub texts_from : (names : List (Bor (List ℕ))) (i : ℕ) (d : Bor (List ℕ)) → i < length names
    → texts (drop i names) ≡ (get_or names i d).now ∷ texts (drop (i + 1) names)
texts_from names i d lt = rw (drop-cons names i d, add-one i) refl

new_name : (names : List (List ℕ)) (text : List ℕ) → IsNewName names text → with_name names text ≡ names ++ text ∷ []
new_name names text new = rw (new.named, new.fresh) refl

-- names, no two of which are equal, are all kept
names_after-distinct : (before more : List (List ℕ)) → AreDistinctNames (before ++ more) → names_after before more ≡ before ++ more
names_after-distinct before [] are = sym (append-nil before)
names_after-distinct before (text ∷ more) are =
    let all : AreDistinctNames ((before ++ text ∷ []) ++ more) = subst AreDistinctNames (sym (append_assoc before (text ∷ []) more)) are in
    ap (λ (names : List (List ℕ)). names_after names more) (new_name before text (IsNewName-in before text more are))
    ∙ names_after-distinct (before ++ text ∷ []) more all
    ∙ append_assoc before (text ∷ []) more

pub names_among-distinct : (names : List (List ℕ)) → AreDistinctNames names → names_among names ≡ names
names_among-distinct names are = names_after-distinct [] names are

-- one element more, which was found
pub take-found : {X : Type 0} (xs : List X) (i : ℕ) (x : X) → slice_get xs i ≡ Some x → take (suc i) xs ≡ take i xs ++ x ∷ []
take-found [] i x is = absurd cc
take-found (y ∷ ys) zero x is = let same : y ≡ x = cc in ap (λ z. z ∷ []) same
take-found (y ∷ ys) (suc i) x is = ap (λ zs. y ∷ zs) (take-found ys i x is)

pub texts-push : (names : List (Bor (List ℕ))) (name : Bor (List ℕ)) → texts (names ++ name ∷ []) ≡ texts names ++ name.now ∷ []
texts-push [] name = refl
texts-push (n ∷ ns) name = ap (λ ts. n.now ∷ ts) (texts-push ns name)

-- the names after one text more
pub names_step : (before after all : List (List ℕ)) (names : List (Bor (List ℕ))) (i : ℕ) (d : Bor (List ℕ)) → i < length names
    → after ≡ with_name before (get_or names i d).now → names_after before (texts (drop i names)) ≡ all
    → names_after after (texts (drop (i + 1) names)) ≡ all
names_step before after all names i d lt is so_far =
    ap (λ (ns : List (List ℕ)). names_after ns (texts (drop (i + 1) names))) is
    ∙ sym (ap (names_after before) (texts_from names i d lt)) ∙ so_far
