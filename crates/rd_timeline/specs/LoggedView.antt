-- What a contract sees of a target with its log.
use Rattle.std.specs.Prelude.{ℕ, ◌≡◌, ◌⊎◌, List, Err, IsOk}
use Rattle.rd_refusal.specs.declared.refusal.Refusal.{Refusal}
use Rattle.rd_refusal.specs.declared.refusal.Refusal.TheVariants.{NoMemory}
use Rattle.rd_app.specs.Application.{Application}
use Rattle.rd_state.specs.Change.{Change}
use Rattle.rd_state.specs.Snapshot.{Snapshot}
use Rattle.rd_moves.specs.Moves.{PlainMove}
use Rattle.rd_calls.specs.Step.{step}

-- the target, the records that lead back from it, for how many bytes of them there is room, and
-- how many were read so far
pub record LoggedView : Type 0 where
  pub target : Snapshot
  pub records : List (List Change)
  pub memory : ℕ
  pub read : ℕ

-- Why a move isn't made: the kernel's rules refuse it, or else there is no memory for its record.
abbrev pub IsWhyNotPlayed : Application → Snapshot → PlainMove → Refusal → Type 0
IsWhyNotPlayed app s move refusal =
    (step app s move ≡ Err refusal) ⊎ (IsOk (step app s move) × (refusal ≡ NoMemory))
