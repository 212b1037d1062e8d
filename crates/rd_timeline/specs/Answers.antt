-- What is answered to a request, and what obeying it means.
use Rattle.std.specs.Prelude.{ℕ, ◌≡◌, if◌then◌else◌, length, IfOk, IsTrue, OnErr, OnOk}
use Rattle.std.specs.Prelude.{Result, Ok}
use Rattle.rd_bytes.specs.declared.no_memory.NoMemory.{NoMemory}
use Rattle.rd_app.specs.Application.{Application}
use Rattle.rd_moves.specs.Requests.{PlainRequest}
use Rattle.rd_moves.specs.declared.answer.Answer.{Answer}
use Rattle.rd_moves.specs.declared.answer.Answer.TheVariants.{Answered, Done, Ended, Refused}
use Rattle.rd_moves.specs.declared.answer.SearchEnd.TheVariants.{Met, Limit}
use Rattle.rd_timeline.specs.declared.running.FoundPlace.{FoundPlace}
use Rattle.rd_timeline.specs.Course.{Course, HasGrown, IsAsItWas}
use Rattle.rd_timeline.specs.History.{state_after}
use Rattle.rd_timeline.specs.Runs.{Ending, Plain, Searched, Answers, Moves, Response, Leaves}
use Rattle.rd_timeline.specs.Runs.{Refuses, answered, makes_move, moves_of, response_to}

-- so many moves are done now, and it ended so
abbrev pub answer_at : ℕ → Ending → Answer
answer_at at Plain = Done at
answer_at at (Searched end) = Ended at end
answer_at at (Answers answer) = Answered at answer

-- where a run to a condition ended
abbrev pub ended_answer : FoundPlace → Answer
ended_answer found = Ended found.at (if found.met then Met else Limit)

-- what is answered where this comes of a request
abbrev pub answer_of : Response → Answer
answer_of (Leaves moves end) = answer_at (length moves.done) end
answer_of (Refuses refusal) = Refused refusal

-- what is answered to a request, where so many moves may be done, and these are done and undone
abbrev pub answer_to : Application → ℕ → Moves → PlainRequest → Answer
answer_to app limit moves request = answer_of (response_to app limit moves request)

-- A request was done, or refused: this is the answer, and these are the moves that it leaves. Or
-- there is no memory for a move that it makes, and nothing has changed.
pub record Obeys (old : Course) (request : PlainRequest) (new : Course)
    (result : Result Answer NoMemory) : Type 0 where
  pub ok : IfOk result
      (λ answer. answer ≡ answer_to old.app old.limit (moves_of old) request)
  pub moves : OnOk result (moves_of new ≡ answered old.app old.limit (moves_of old) request)
  pub no_memory : OnErr result
      (IsTrue (makes_move old.app old.limit (moves_of old) request))
  pub err : OnErr result (IsAsItWas old new)
  pub grows : HasGrown old.room new.room
  pub app : new.app ≡ old.app
  pub limit : new.limit ≡ old.limit
  pub leads : state_after new.app new.done ≡ Ok new.target
