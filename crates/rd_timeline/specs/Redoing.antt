-- The way on through the moves undone.
use Rattle.std.specs.Prelude.{ℕ, ◌≡◌, ◌<◌, ◌≤◌, ◌⊎◌, length}
use Rattle.rd_refusal.specs.declared.refusal.Refusal.{Refusal}
use Rattle.rd_refusal.specs.declared.refusal.Refusal.TheVariants.{NoMemory, NothingUndone}
use Rattle.rd_timeline.specs.Course.{Course, LacksBytes}
use Rattle.rd_timeline.specs.Recorded.{StandsOn}
use Rattle.rd_timeline.specs.Runs.{moves_of, redone}

-- The first of the moves undone, so many of them, are done again, and each has its record.
pub record HasRedone (old : Course) (count : ℕ) (new : Course) : Type 0 where
  pub some : count ≤ length old.undone
  pub moves : moves_of new ≡ redone (moves_of old) count
  pub stands : StandsOn old new

-- So far some are, no more than so many.
pub record HasRedonePart (old : Course) (count : ℕ) (new : Course) : Type 0 where
  pub made : ℕ
  pub few : made ≤ count
  pub has : HasRedone old made new

-- why they aren't: there are fewer, or else there is no memory
abbrev pub IsWhyNoRedo : Course → ℕ → Refusal → Type 0
IsWhyNoRedo old count refusal =
    ((length old.undone < count) × (refusal ≡ NothingUndone))
    ⊎ ((count ≤ length old.undone) × (refusal ≡ NoMemory))

-- Before one of them there is no room for the longest record.
pub record RedoLacksRoom (old : Course) (count : ℕ) : Type 0 where
  pub made : ℕ
  pub fewer : made < count
  pub now : Course
  pub has : HasRedone old made now
  pub lacks : LacksBytes now
