-- What the words of a command line ask for, what the one session of a hall was, and the reasons for
-- which the program fails once its application is read.
use Rattle.std.specs.Prelude.{◌≡◌, ℕ, List, [], ◌∷◌, None}
use Rattle.rd_ends.specs.Ends.{SinkView, SourceView}
use Rattle.rd_hall.specs.SeatView.{SeatView}
use Rattle.rd_session.specs.Hearing.{Attended}
use Rattle.rd_start.specs.Requests.{IsAskedBy}
use Rattle.rd_start.specs.declared.fault.Fault.TheVariants.{NoMemory}
use Rattle.rd_start.specs.declared.options.StartRequest.{StartRequest}
use Rattle.rd_main.specs.declared.failure.Failure.{Failure}
use Rattle.rd_main.specs.declared.failure.Failure.TheVariants.{Start, CannotListen, Broken}

-- The words ask for a session, a server, or help.
abbrev pub AskForSomething : List (List ℕ) → Type 0
AskForSomething words = (request : StartRequest) × IsAskedBy words request

-- The one session that a hall had was answered each line that was read.
pub record AttendedAlone (had has : SourceView) (old new : SinkView) (gones : List SeatView)
    : Type 0 where
  pub gone : SeatView
  pub alone : gones ≡ gone ∷ []
  pub attended : Attended had has old new None None gone

-- The failures of `run`: out of memory, or a history that is not what the session was answered.
abbrev pub FailsAlone : Failure → Type 0
FailsAlone (Start fault) = fault ≡ NoMemory
FailsAlone CannotListen = ⊥
FailsAlone Broken = Unit {0}

-- The failures of `serve`: those of `run`, or a port where it cannot listen.
abbrev pub FailsTogether : Failure → Type 0
FailsTogether (Start fault) = fault ≡ NoMemory
FailsTogether CannotListen = Unit {0}
FailsTogether Broken = Unit {0}
