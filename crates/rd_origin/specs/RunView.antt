-- What a contract sees of a run.
use Rattle.std.specs.Prelude.{ℕ, ◌≡◌, List, length, Ok}
use Rattle.rd_app.specs.Application.{Application}
use Rattle.rd_names.specs.Apps.{AppView}
use Rattle.rd_moves.specs.Moves.{PlainMove}
use Rattle.rd_timeline.specs.Runs.{Moves}
use Rattle.rd_origin.specs.Playing.{text_played}

-- the application, the moves of the run in order, the first of its places that one can go to, and
-- the place where it stands; a place is how many moves were made there
pub record RunView : Type 0 where
  pub app : Application
  pub moves : List PlainMove
  pub first : ℕ
  pub at : ℕ

-- All lines of the text are played. The run has the moves that are done then, and not undone; one
-- can go back in it as far as there; and it stands behind the last.
pub record IsRunOf (app : AppView) (text : List ℕ) (run : RunView) : Type 0 where
  pub left : Moves
  pub played : text_played app text ≡ Ok left
  pub runs : run.app ≡ app.runs
  pub moves : run.moves ≡ left.done
  pub first : run.first ≡ left.base
  pub last : run.at ≡ length left.done

-- It is the same run, at this place or another.
pub record IsSameRun (old new : RunView) : Type 0 where
  pub app : new.app ≡ old.app
  pub moves : new.moves ≡ old.moves
  pub first : new.first ≡ old.first
