-- To go back leaves a run all but the place where it stands.
use Rattle.std.proofs.Common.{◌≡◌, ◌∙◌, ℕ, ◌-◌, ◌++◌, List, ap, ap₂, arith, length, take}
use Rattle.std.proofs.lemmas.List.{length-take-le}
use Rattle.rd_app.specs.Application.{Application}
use Rattle.rd_moves.specs.Moves.{PlainMove}
use Rattle.rd_timeline.specs.Course.{Course, base_of}
use Rattle.rd_timeline.specs.Runs.{Moves, back_at, moves_of}
use Rattle.rd_origin.specs.RunView.{RunView}
use Rattle.rd_origin.proofs.RunLists.{back_same}

-- what is seen of a timeline of which so many moves are a run's
abbrev pub seen : Course → ℕ → RunView
seen t places = record { app = t.app; moves = take places (t.done ++ t.undone); first = base_of t; at = length t.done }

same_run : (old new : RunView) (at : ℕ) → new.app ≡ old.app → new.moves ≡ old.moves → new.first ≡ old.first → new.at ≡ at
    → new ≡ record old { at = at }
same_run old new at app moves first there =
    ap (λ (x : Application). record new { app = x }) app
    ∙ ap (λ (x : List PlainMove). record new { app = old.app; moves = x }) moves
    ∙ ap (λ x. record old { first = x; at = new.at }) first
    ∙ ap (λ x. record old { at = x }) there

pub went_back : (old new : Course) (places n : ℕ) → new.app ≡ old.app → moves_of new ≡ back_at (moves_of old) (length old.done - n)
    → seen new places ≡ record (seen old places) { at = length old.done - n }
went_back old new places n app back =
    let k = length old.done - n in
    let done = ap (λ (moves : Moves). moves.done) back in
    let undone = ap (λ (moves : Moves). moves.undone) back in
    let at : length new.done ≡ k = ap length done ∙ length-take-le k old.done (omega arith) in
    let moves : new.done ++ new.undone ≡ old.done ++ old.undone =
    ap₂ (λ (xs ys : List PlainMove). xs ++ ys) done undone ∙ back_same old.done old.undone k in
    same_run (seen old places) (seen new places) k app (ap (take places) moves) (ap (λ (moves : Moves). moves.base) back) at
