-- Records of moves, as a log has them.
use Rattle.std.specs.Prelude.{ℕ, ◌≡◌, List, [], ◌∷◌, ◌++◌, length}
use Rattle.rd_app.specs.Application.{Application}
use Rattle.rd_packed.specs.Records.{records_packed}
use Rattle.rd_state.specs.Change.{Change}
use Rattle.rd_state.specs.Snapshot.{Snapshot}
use Rattle.rd_moves.specs.Moves.{PlainMove}
use Rattle.rd_calls.specs.Step.{IsPlayed}

-- how many bytes records take
abbrev pub bytes_of : List (List Change) → ℕ
bytes_of records = length (records_packed records)

-- A move is made, and its record stands after the others.
pub record RecordsMove (app : Application) (s : Snapshot) (move : PlainMove) (s' : Snapshot)
    (old new : List (List Change)) : Type 0 where
  pub undo : List Change
  pub records : new ≡ old ++ undo ∷ []
  pub played : IsPlayed app s move s' undo
