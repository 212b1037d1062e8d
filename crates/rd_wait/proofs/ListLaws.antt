-- Laws of plain lists: edits against one another, and what holds of each member after one.
use Rattle.std.proofs.Common.{◌≡◌, ◌∙◌, ℕ, zero, suc, ◌<◌, ◌≤◌, List, [], ◌∷◌, length, get_or, set, take, drop, refl, ap, arith}
use Rattle.std.specs.Prelude.{All, insert, remove}
use Rattle.std.specs.List.{AllByRecursion}
use Rattle.std.proofs.lemmas.List.{get_or-set_same, set-set, set-get_or}
use Rattle.std.proofs.lemmas.List.Elements.{All-append, All-take, All-drop, All-cons, All-from_recursion, recursion_from_All}

pub All-remove : {X : Type 0} (P : X → Type 0) (xs : List X) (i : ℕ) → All P xs → All P (remove xs i)
All-remove P xs i h = All-append P (take i xs) (drop (suc i) xs) (All-take P i xs h) (All-drop P (suc i) xs h)

pub All-insert : {X : Type 0} (P : X → Type 0) (xs : List X) (i : ℕ) (x : X) → All P xs → P x → All P (insert xs i x)
All-insert P xs i x h here = All-append P (take i xs) (x ∷ drop i xs) (All-take P i xs h) (All-cons P x (drop i xs) here (All-drop P i xs h))

-- what was put in is taken out again
pub remove-insert : {X : Type 0} (xs : List X) (i : ℕ) (x : X) → i ≤ length xs → remove (insert xs i x) i ≡ xs
remove-insert xs zero x h = refl
remove-insert [] (suc i) x h = absurd (omega (arith, h))
remove-insert (y ∷ xs) (suc i) x h = ap (λ rest. y ∷ rest) (remove-insert xs i x (omega (arith, h)))

-- what was taken out is put in again
pub insert-remove : {X : Type 0} (xs : List X) (i : ℕ) (d : X) → i < length xs → insert (remove xs i) i (get_or xs i d) ≡ xs
insert-remove [] i d h = absurd (omega (arith, h))
insert-remove (y ∷ xs) zero d h = refl
insert-remove (y ∷ xs) (suc i) d h = ap (λ rest. y ∷ rest) (insert-remove xs i d (omega (arith, h)))

-- a member that is changed, and then changed back
pub set_back : {X : Type 0} (xs : List X) (i : ℕ) (d y : X) → set (set xs i y) i (get_or xs i d) ≡ xs
set_back xs i d y = set-set xs i y (get_or xs i d) ∙ set-get_or xs i d

-- what holds of each member by recursion, after a member was put in
-- a member that is changed, and then changed by f, which gives what was there
pub replaced_back : {X : Type 0} (xs : List X) (i : ℕ) (d y : X) (f : X → X) → i < length xs → f y ≡ get_or xs i d
    → set (set xs i y) i (f (get_or (set xs i y) i d)) ≡ xs
replaced_back xs i d y f there undoes =
    ap (λ t. set (set xs i y) i (f t)) (get_or-set_same xs i y d there) ∙ ap (λ t. set (set xs i y) i t) undoes ∙ set_back xs i d y

pub AllByRecursion-insert : {X : Type 0} (P : X → Type 0) (xs : List X) (i : ℕ) (x : X) → AllByRecursion P xs → P x → AllByRecursion P (insert xs i x)
AllByRecursion-insert P xs i x h here = recursion_from_All P (insert xs i x) (All-insert P xs i x (All-from_recursion P xs h) here)

-- and after a member was taken out
pub AllByRecursion-remove : {X : Type 0} (P : X → Type 0) (xs : List X) (i : ℕ) → AllByRecursion P xs → AllByRecursion P (remove xs i)
AllByRecursion-remove P xs i h = recursion_from_All P (remove xs i) (All-remove P xs i (All-from_recursion P xs h))

pub AllByRecursion-weaker : {X : Type 0} (P Q : X → Type 0) → ((x : X) → P x → Q x) → (xs : List X) → AllByRecursion P xs → AllByRecursion Q xs
AllByRecursion-weaker P Q f [] h = tt
AllByRecursion-weaker P Q f (x ∷ xs) h = (f x h.0, AllByRecursion-weaker P Q f xs h.1)
