-- What a request makes of a debugger.
use Rattle.std.proofs.Common.{◌≡◌, ◌∙◌, ℕ, Option, ap}
use Rattle.rd_app.specs.Application.{Application}
use Rattle.rd_names.specs.Names.{NamesView}
use Rattle.rd_moves.specs.declared.answer.Answer.{Answer}
use Rattle.rd_moves.specs.Requests.{PlainRequest}
use Rattle.rd_timeline.specs.Answers.{answer_to}
use Rattle.rd_timeline.specs.Course.{Course}
use Rattle.rd_timeline.specs.Runs.{Moves, answered, moves_of}
use Rattle.rd_reply.specs.Replies.{answer_reply}
use Rattle.rd_desk.specs.declared.reply.DeskReply.TheVariants.{Told}
use Rattle.rd_desk.specs.Debugger.{Debugger}
use Rattle.rd_desk.specs.Serving.{after_request, reply_to_request}
use Rattle.rd_desk.specs.Sessions.{SessionsView}

-- the debugger with this timeline
abbrev pub debugger_with : Course → NamesView → Option ℕ → SessionsView → Debugger
debugger_with course names wheel sessions = record {
  app = record { runs = course.app; names = names };
  most_moves = course.limit;
  moves = moves_of course;
  wheel = wheel;
  sessions = sessions;
}

pub after_asked : (old new : Course) (names : NamesView) (wheel : Option ℕ) (sessions : SessionsView) (request : PlainRequest) → new.app ≡ old.app
    → new.limit ≡ old.limit → moves_of new ≡ answered old.app old.limit (moves_of old) request
    → debugger_with new names wheel sessions ≡ after_request (debugger_with old names wheel sessions) request
after_asked old new names wheel sessions request same_app same_limit moves =
    ap (λ (app : Application). record { app = record { runs = app; names = names }; most_moves = new.limit; moves = moves_of new; wheel = wheel; sessions = sessions }) same_app
    ∙ ap (λ limit. record { app = record { runs = old.app; names = names }; most_moves = limit; moves = moves_of new; wheel = wheel; sessions = sessions }) same_limit
    ∙ ap (λ (moves : Moves). record { app = record { runs = old.app; names = names }; most_moves = old.limit; moves = moves; wheel = wheel; sessions = sessions }) moves

pub reply_asked : (old : Course) (names : NamesView) (wheel : Option ℕ) (sessions : SessionsView) (request : PlainRequest) (answer : Answer)
    → answer ≡ answer_to old.app old.limit (moves_of old) request
    → Told (answer_reply answer) ≡ reply_to_request (debugger_with old names wheel sessions) request
reply_asked old names wheel sessions request answer is = ap (λ (answer : Answer). Told (answer_reply answer)) is
