-- Moves with their records, one after the other.
use Rattle.std.specs.Prelude.{◌≡◌, List, [], ◌∷◌, length, take, drop}
use Rattle.rd_app.specs.Application.{Application}
use Rattle.rd_state.specs.Change.{Change}
use Rattle.rd_state.specs.Snapshot.{Snapshot}
use Rattle.rd_moves.specs.Moves.{PlainMove}
use Rattle.rd_calls.specs.Step.{step, IsPlayed}
use Rattle.rd_timeline.specs.Course.{Course, HasGrown}
use Rattle.rd_timeline.specs.History.{state_or}

-- the state that a move gives, or the one before where it gives none
abbrev pub state_behind : Application → Snapshot → PlainMove → Snapshot
state_behind app s move = state_or s (step app s move)

-- The moves lead from one state to another, and these are their records, in order: each undoes its
-- move exactly, and is no longer than the record of that move may be.
abbrev pub ArePlayed : Application → Snapshot → List PlainMove → Snapshot → List (List Change)
    → Type 0
ArePlayed app s [] s' [] = s' ≡ s
ArePlayed app s [] s' (undo ∷ later) = ⊥
ArePlayed app s (move ∷ moves) s' [] = ⊥
ArePlayed app s (move ∷ moves) s' (undo ∷ later) =
    IsPlayed app s move (state_behind app s move) undo
    × ArePlayed app (state_behind app s move) moves s' later

-- The moves that were laid on were played from there, and their records stand behind the others.
pub record RecordsMoves (old new : Course) : Type 0 where
  pub log : take (length old.log) new.log ≡ old.log
  pub played : ArePlayed old.app old.target (drop (length old.done) new.done) new.target
      (drop (length old.log) new.log)

-- Moves were laid on, with a record each, nothing was forgotten but the moves undone, and no record
-- was read.
pub record StandsOn (old new : Course) : Type 0 where
  pub app : new.app ≡ old.app
  pub limit : new.limit ≡ old.limit
  pub done : take (length old.done) new.done ≡ old.done
  pub recorded : RecordsMoves old new
  pub grows : HasGrown old.room new.room
  pub read : new.read ≡ old.read
