-- What command lines leave behind boot.
use Rattle.std.specs.Prelude.{ℕ, ◌≡◌, ◌+◌, if◌then◌else◌, nat_lt, length, List, [], ◌∷◌}
use Rattle.std.specs.Prelude.{Option, Some, None, Result, Ok, Err}
use Rattle.std.specs.Str.Lines.{lines}
use Rattle.rd_text.specs.Words.{words_of}
use Rattle.rd_refusal.specs.declared.refusal.Refusal.{Refusal}
use Rattle.rd_refusal.specs.declared.refusal.Refusal.TheVariants.{NoSuch, NoWatch}
use Rattle.rd_app.specs.Application.{Application}
use Rattle.rd_names.specs.Apps.{AppView}
use Rattle.rd_state.specs.Snapshot.{Snapshot}
use Rattle.rd_moves.specs.declared.answer.Answer.{Answer}
use Rattle.rd_moves.specs.declared.answer.Answer.TheVariants as answer
use Rattle.rd_timeline.specs.History.{IsStateAfter}
use Rattle.rd_timeline.specs.Runs.{Moves, Plain, Response, Leaves, Refuses, response_to}
use Rattle.rd_command.specs.Bindings.{bound_of}
use Rattle.rd_command.specs.Commands.{CommandView, command_of}
use Rattle.rd_command.specs.declared.binding.Bound.{Bound}
use Rattle.rd_command.specs.declared.binding.Bound.TheVariants as bound
use Rattle.rd_origin.specs.declared.cause.NoOrigin.{NoOrigin}
use Rattle.rd_origin.specs.declared.cause.NoOrigin.TheVariants.{BadLine, Refused}
use Rattle.rd_origin.specs.declared.playing.TheConstants.{MAX_LINE, MAX_MOVES}

-- at boot nothing was done, and there is nothing to go back by
abbrev pub no_moves : Moves
no_moves = record { done = []; undone = []; base = 0 }

-- the command that a line is, if it is one
abbrev pub command_on : List ℕ → Option CommandView
command_on line = if nat_lt MAX_LINE (length line) then None else command_of (words_of line)

-- What comes of a command, by what it does: what it asks a timeline for is done. The wheel, watches
-- and views leave the moves; there is no watch to search by.
abbrev pub response_of : Application → Moves → Option Bound → Response
response_of app moves None = Refuses NoSuch
response_of app moves (Some (bound.Asks request)) = response_to app MAX_MOVES moves request
response_of app moves (Some (bound.AsksByWatch watch search)) = Refuses NoWatch
response_of app moves (Some bound.TakesWheel) = Leaves moves Plain
response_of app moves (Some bound.GivesWheel) = Leaves moves Plain
response_of app moves (Some (bound.Keeps condition)) = Leaves moves Plain
response_of app moves (Some (bound.Drops number)) = Leaves moves Plain
response_of app moves (Some (bound.Looks view)) = Leaves moves Plain

-- why a request was refused, by its answer, if it was
abbrev pub refusal_in : Answer → Option Refusal
refusal_in (answer.Done at) = None
refusal_in (answer.Answered at value) = None
refusal_in (answer.Ended at end) = None
refusal_in (answer.Refused refusal) = Some refusal

-- the moves that are left, unless the command on the line with this number is refused
abbrev pub left_by : ℕ → Response → Result Moves NoOrigin
left_by number (Leaves moves end) = Ok moves
left_by number (Refuses refusal) = Err (Refused number refusal)

-- the moves behind the line with this number, if it is a command that isn't refused
abbrev pub command_played : AppView → Moves → ℕ → Option CommandView → Result Moves NoOrigin
command_played app moves number None = Err (BadLine number)
command_played app moves number (Some command) =
    left_by number (response_of app.runs moves (bound_of app command))

unfoldable pub line_played : AppView → Moves → ℕ → List ℕ → Result Moves NoOrigin
line_played app moves number line = command_played app moves number (command_on line)

-- what comes behind a line that was played
abbrev pub behind : (Moves → Result Moves NoOrigin) → Result Moves NoOrigin → Result Moves NoOrigin
behind next (Ok moves) = next moves
behind next (Err cause) = Err cause

-- the moves behind all these lines, of which the first has this number, or why the first one that
-- isn't played stops them
abbrev pub lines_played : AppView → Moves → ℕ → List (List ℕ) → Result Moves NoOrigin
lines_played app moves number [] = Ok moves
lines_played app moves number (line ∷ others) =
    behind (λ next. lines_played app next (number + 1) others) (line_played app moves number line)

-- the same of all lines of a text, from boot
abbrev pub text_played : AppView → List ℕ → Result Moves NoOrigin
text_played app text = lines_played app no_moves 1 (lines text)

-- All lines of the text are played, and the moves done then, and not undone, give this state from
-- boot. It is valid, and nothing is left to schedule.
pub record IsOrigin (app : AppView) (text : List ℕ) (s : Snapshot) : Type 0 where
  pub moves : Moves
  pub played : text_played app text ≡ Ok moves
  pub gives : IsStateAfter app.runs moves.done s
