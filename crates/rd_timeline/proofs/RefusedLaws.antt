-- A request that is refused leaves the moves, and a move that is made is the last one done.
use Rattle.std.proofs.Common.{◌≡◌, ℕ, true, false, refl}
use Rattle.std.specs.Prelude.{Result, Ok, Err}
use Rattle.std.proofs.lemmas.Bool.{false≢true}
use Rattle.rd_app.specs.Application.{Application}
use Rattle.rd_refusal.specs.declared.refusal.Refusal.{Refusal}
use Rattle.rd_state.specs.Snapshot.{Snapshot}
use Rattle.rd_moves.specs.declared.answer.Answer.TheVariants.{Refused}
use Rattle.rd_moves.specs.declared.request.Request.TheVariants.{Go}
use Rattle.rd_moves.specs.Moves.{PlainMove}
use Rattle.rd_moves.specs.Requests.{PlainRequest}
use Rattle.rd_timeline.specs.Answers.{answer_of, answer_to}
use Rattle.rd_timeline.specs.RunLaws.{RefusedRequestsLeaveAll, is_refusal}
use Rattle.rd_calls.specs.Step.{move_answer}
use Rattle.rd_timeline.specs.Runs.{Answers, Ending, Leaves, Moves, Plain, Refuses, Response, Searched, answered, ending_of, go_response, moved, moved_on, moves_after}
use Rattle.rd_timeline.specs.Runs.{response_to, state_of}

stay : (moves : Moves) (response : Response) → is_refusal response ≡ true → moves_after moves response ≡ moves
stay moves (Leaves new end) is = absurd (false≢true is)
stay moves (Refuses refusal) is = refl

pub refused_requests_leave_all : RefusedRequestsLeaveAll
refused_requests_leave_all app limit moves request is = stay moves (response_to app limit moves request) is

-- the same by its answer
told : (response : Response) (refusal : Refusal) → answer_of response ≡ Refused refusal → is_refusal response ≡ true
told (Leaves new Plain) refusal is = absurd cc
told (Leaves new (Searched end)) refusal is = absurd cc
told (Leaves new (Answers answer)) refusal is = absurd cc
told (Refuses other) refusal is = refl

pub refused_request : (app : Application) (most : ℕ) (moves : Moves) (asked : PlainRequest) (refusal : Refusal)
    → answer_to app most moves asked ≡ Refused refusal → answered app most moves asked ≡ moves
refused_request app most moves asked refusal is = refused_requests_leave_all app most moves asked (told (response_to app most moves asked) refusal is)

made : (moves : Moves) (move : PlainMove) (end : Ending) (r : Result Snapshot Refusal) → is_refusal (go_response moves move end r) ≡ false
    → moves_after moves (go_response moves move end r) ≡ moved_on moves move
made moves move end (Ok s) is = refl
made moves move end (Err refusal) is = absurd cc

pub went_on : (app : Application) (most : ℕ) (moves : Moves) (move : PlainMove) → is_refusal (response_to app most moves (Go move)) ≡ false
    → answered app most moves (Go move) ≡ moved_on moves move
went_on app most moves move is = made moves move (ending_of (move_answer (state_of app moves) move)) (moved app most moves move) is
