-- Runs by policy from where a timeline is: why one isn't made, and what it needs memory for.
use Rattle.std.specs.Prelude.{ℕ, ◌≡◌, ◌<◌, ◌⊎◌, IsTrue, Option, length}
use Rattle.rd_refusal.specs.declared.refusal.Refusal.{Refusal}
use Rattle.rd_refusal.specs.declared.refusal.Refusal.TheVariants.{NoMemory}
use Rattle.rd_calls.specs.Step.{policy_of}
use Rattle.rd_condition.specs.declared.condition.Condition.{Condition}
use Rattle.rd_timeline.specs.Course.{Course, LacksRoom}
use Rattle.rd_timeline.specs.Recorded.{StandsOn}
use Rattle.rd_timeline.specs.Runs.{Moves, PolicyRun, Going, Refused, can_make, chosen, moves_of, run_of}

-- the run from there
abbrev pub run_from : Course → Option Condition → ℕ → PolicyRun
run_from course goal count = run_of course.app course.limit goal (moves_of course) count

-- There is no memory for a move of the run that could be made.
pub record LacksMemory (old : Course) (goal : Option Condition) (count : ℕ) : Type 0 where
  pub made : ℕ
  pub fewer : made < count
  pub moves : Moves
  pub going : run_from old goal made ≡ Going moves
  pub next : IsTrue (can_make old.app old.limit moves (chosen old.app moves))

-- Why a run is refused: for what one of its moves is, or else since memory ran out before that.
abbrev pub IsWhyNoRun : Course → Option Condition → ℕ → Refusal → Type 0
IsWhyNoRun old goal count refusal =
    (run_from old goal count ≡ Refused refusal)
    ⊎ (LacksMemory old goal count × (refusal ≡ NoMemory))

-- A run comes to a place where there is no room for its next move, by moves that have their
-- records.
pub record RunLacksRoom (old : Course) (goal : Option Condition) (count : ℕ) : Type 0 where
  pub made : ℕ
  pub fewer : made < count
  pub now : Course
  pub going : run_from old goal made ≡ Going (moves_of now)
  pub stands : StandsOn old now
  pub lacks : LacksRoom now (policy_of now.target)

-- What a run may need memory for: to set the moves undone aside, or where there is no room.
abbrev pub MayLackMemory : Course → Option Condition → ℕ → Type 0
MayLackMemory old goal count = (0 < length old.undone) ⊎ RunLacksRoom old goal count
