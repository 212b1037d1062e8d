-- Lists of which some are done and others undone, and results.
use Rattle.std.proofs.Common.{◌≡◌, ◌∙◌, ℕ, ◌++◌, List, ap, drop, sym, take}
use Rattle.std.specs.Prelude.{Err, IsOk, Ok, OnOk, Result}
use Rattle.std.proofs.lemmas.Bool.{false≢true}
use Rattle.std.proofs.lemmas.List.{append_assoc, take-append-drop}

-- To go back leaves all moves.
pub back_same : {A : Type 0} (done undone : List A) (n : ℕ) → take n done ++ (drop n done ++ undone) ≡ done ++ undone
back_same done undone n = sym (append_assoc (take n done) (drop n done) undone) ∙ ap (λ xs. xs ++ undone) (take-append-drop n done)

-- What is said where there is a value, where there is one.
pub from_ok : {X E P : Type 0} (r : Result X E) → IsOk r → OnOk r P → P
from_ok (Ok x) is on = on
from_ok (Err e) is on = absurd (false≢true is)
