-- Names of one kind: each is none of those before it.
use Rattle.std.proofs.Common.{◌≡◌, ◌∙◌, ℕ, ◌||◌, Bool, true, false, not, List, [], ◌∷◌, ◌++◌, refl, sym}
use Rattle.std.specs.List.{list_all, list_any}
use Rattle.std.specs.Str.{bytes_eq}
use Rattle.std.proofs.lemmas.List.Folds.{list_all-append, list_any-append}
use Rattle.std.proofs.lemmas.Slice.Eq.{bytes_eq-Decides}
use Rattle.rd_text.specs.Names.{AreDistinctNames, are_distinct}
use Rattle.rd_text.specs.Words.{is_name}
use Rattle.rd_text.proofs.WordLemmas.{and_left, and_right}

-- a name that is none of these
pub record IsNewName (names : List (List ℕ)) (name : List ℕ) : Type 0 where
  pub named : is_name name ≡ true
  pub fresh : list_any (bytes_eq name) names ≡ false

pub not_true : (b : Bool) → not b ≡ true → b ≡ false
not_true true e = sym e
not_true false e = refl

bytes_eq-sym : (xs ys : List ℕ) → bytes_eq xs ys ≡ true → bytes_eq ys xs ≡ true
bytes_eq-sym xs ys e = (bytes_eq-Decides ys xs).1 (sym ((bytes_eq-Decides xs ys).0 e))

apart : (xs ys : List ℕ) → bytes_eq xs ys ≡ false → bytes_eq ys xs ≡ false
apart xs ys e = elim (bytes_eq ys xs) as (λ b. (bytes_eq ys xs ≡ b) → b ≡ false) [
  | true ↦ λ h. sym (bytes_eq-sym ys xs h) ∙ e
  | false ↦ λ h. refl
] refl

or_false : (a b : Bool) → (a || b) ≡ false → (a ≡ false) × (b ≡ false)
or_false true b e = absurd cc
or_false false b e = (refl, e)

distinct_more : (names : List (List ℕ)) (name : List ℕ) → are_distinct names ≡ true → list_any (bytes_eq name) names ≡ false
    → are_distinct (names ++ name ∷ []) ≡ true
distinct_more [] name d f = refl
distinct_more (n ∷ names) name d f =
    let parts = or_false (bytes_eq name n) (list_any (bytes_eq name) names) f in
    let alone : list_any (bytes_eq n) names ≡ false = not_true _ (and_left _ _ d) in
    let still : list_any (bytes_eq n) (names ++ name ∷ []) ≡ false = list_any-append (bytes_eq n) names (name ∷ []) ∙ rw (alone, apart name n parts.0) refl in
    rw still (distinct_more names name (and_right (not (list_any (bytes_eq n) names)) _ d) parts.1)

pub AreDistinctNames-push : (names : List (List ℕ)) (name : List ℕ) → AreDistinctNames names → IsNewName names name → AreDistinctNames (names ++ name ∷ [])
AreDistinctNames-push names name are new = record {
  named = list_all-append is_name names (name ∷ []) ∙ rw (are.named, new.named) refl;
  distinct = distinct_more names name are.distinct new.fresh;
}

or_both : (a b : Bool) → a ≡ false → b ≡ false → (a || b) ≡ false
or_both a b e f = rw (e, f) refl

-- a name that stands after others, all of them distinct, is none of them
pub fresh_where_distinct : (names : List (List ℕ)) (name : List ℕ) (rest : List (List ℕ)) → are_distinct (names ++ name ∷ rest) ≡ true
    → list_any (bytes_eq name) names ≡ false
fresh_where_distinct [] name rest d = refl
fresh_where_distinct (n ∷ names) name rest d =
    let alone : list_any (bytes_eq n) (names ++ name ∷ rest) ≡ false = not_true _ (and_left _ _ d) in
    let parts = or_false (list_any (bytes_eq n) names) (list_any (bytes_eq n) (name ∷ rest)) (sym (list_any-append (bytes_eq n) names (name ∷ rest)) ∙ alone) in
    let other = (or_false (bytes_eq n name) (list_any (bytes_eq n) rest) parts.1).0 in
    or_both (bytes_eq name n) (list_any (bytes_eq name) names) (apart n name other)
    (fresh_where_distinct names name rest (and_right (not (list_any (bytes_eq n) (names ++ name ∷ rest))) _ d))

named_in : (names : List (List ℕ)) (name : List ℕ) (rest : List (List ℕ)) → list_all is_name (names ++ name ∷ rest) ≡ true → is_name name ≡ true
named_in names name rest h =
    and_left (is_name name) (list_all is_name rest) (and_right (list_all is_name names) _ (sym (list_all-append is_name names (name ∷ rest)) ∙ h))

pub IsNewName-in : (names : List (List ℕ)) (name : List ℕ) (rest : List (List ℕ)) → AreDistinctNames (names ++ name ∷ rest) → IsNewName names name
IsNewName-in names name rest are = record { named = named_in names name rest are.named; fresh = fresh_where_distinct names name rest are.distinct }
