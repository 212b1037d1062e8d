-- Laws that queues and queue sets share: of the end of a list.
use Rattle.std.proofs.Common.{◌≡◌, ◌∙◌, ◌+◌, ◌-◌, ◌<◌, List, [], ◌∷◌, ◌++◌, length, get_or, take, sym, arith}
use Rattle.std.proofs.lemmas.List.{length_push, take_at, take_all, take_more}

-- the last member taken, once one was put at the back
pub last_taken_after_push : {X : Type 0} (xs : List X) (x : X) → take (length (xs ++ x ∷ []) - 1) (xs ++ x ∷ []) ≡ xs
last_taken_after_push xs x = take_at xs (x ∷ []) (length (xs ++ x ∷ []) - 1) (omega (arith, length_push xs x))

-- the last member put back, once it was taken
pub last_pushed_after_take : {X : Type 0} (xs : List X) (d : X) → 0 < length xs → take (length xs - 1) xs ++ get_or xs (length xs - 1) d ∷ [] ≡ xs
last_pushed_after_take xs d some =
    let last = length xs - 1 in
    sym (take_more xs last d (omega arith)) ∙ take_all (last + 1) xs (omega arith)
