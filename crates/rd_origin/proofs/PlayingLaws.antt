-- Lines that are played one after the other, and what a timeline answers.
use Rattle.std.proofs.Common.{◌≡◌, ◌∙◌, ℕ, ◌+◌, ◌<◌, List, Bor, ap, drop, get_or, length, refl}
use Rattle.std.specs.Prelude.{Ok, Err, Some, None}
use Rattle.std.proofs.lemmas.List.{at_drop_more}
use Rattle.rd_refusal.specs.declared.refusal.Refusal.{Refusal}
use Rattle.rd_text.specs.Words.{texts}
use Rattle.rd_names.specs.Apps.{AppView}
use Rattle.rd_timeline.specs.Answers.{answer_of}
use Rattle.rd_timeline.specs.Runs.{Answers, Leaves, Moves, Plain, Refuses, Response, Searched, moves_after}
use Rattle.rd_origin.specs.declared.cause.NoOrigin.{NoOrigin}
use Rattle.rd_origin.specs.declared.cause.NoOrigin.TheVariants.{Refused}
use Rattle.rd_origin.specs.Playing.{behind, left_by, line_played, lines_played, refusal_in}

-- where no refusal is answered, moves are left
pub leaves : (number : ℕ) (moves : Moves) (response : Response) → refusal_in (answer_of response) ≡ None
    → left_by number response ≡ Ok (moves_after moves response)
leaves number moves (Leaves new Plain) none = refl
leaves number moves (Leaves new (Searched end)) none = refl
leaves number moves (Leaves new (Answers answer)) none = refl
leaves number moves (Refuses refusal) none = absurd cc

-- where one is answered, it is the cause
pub stops : (number : ℕ) (response : Response) (refusal : Refusal) → refusal_in (answer_of response) ≡ Some refusal
    → left_by number response ≡ Err (Refused number refusal)
stops number (Leaves new Plain) refusal some = absurd cc
stops number (Leaves new (Searched end)) refusal some = absurd cc
stops number (Leaves new (Answers answer)) refusal some = absurd cc
stops number (Refuses cause) refusal some = let same : cause ≡ refusal = cc in ap (λ (r : Refusal). left_by number (Refuses r)) same

-- behind a line that is played the others are
pub line_goes_on : (app : AppView) (moves next : Moves) (number : ℕ) (lines : List (Bor (List ℕ))) (i : ℕ) (e : Bor (List ℕ))
    → i < length lines
    → line_played app moves number (get_or lines i e).now ≡ Ok next
    → lines_played app moves number (texts (drop i lines)) ≡ lines_played app next (number + 1) (texts (drop (i + 1) lines))
line_goes_on app moves next number lines i e lt played =
    at_drop_more (λ (rest : List (Bor (List ℕ))). lines_played app moves number (texts rest)) lines i e lt
    ∙ ap (behind (λ after. lines_played app after (number + 1) (texts (drop (i + 1) lines)))) played

-- a line that isn't played stops them
pub line_stops : (app : AppView) (moves : Moves) (number : ℕ) (lines : List (Bor (List ℕ))) (i : ℕ) (e : Bor (List ℕ)) (cause : NoOrigin)
    → i < length lines
    → line_played app moves number (get_or lines i e).now ≡ Err cause
    → lines_played app moves number (texts (drop i lines)) ≡ Err cause
line_stops app moves number lines i e cause lt stopped =
    at_drop_more (λ (rest : List (Bor (List ℕ))). lines_played app moves number (texts rest)) lines i e lt
    ∙ ap (behind (λ after. lines_played app after (number + 1) (texts (drop (i + 1) lines)))) stopped
