-- Records: lists of inverse changes, in the order of recording, undone last first.
use Rattle.std.specs.Prelude.{◌≡◌, List, [], ◌∷◌}
use Rattle.rd_state.specs.Change.{Change}
use Rattle.rd_state.specs.Snapshot.{Snapshot}
use Rattle.rd_state.specs.Change.{applied, inverse_of, Fits}
use Rattle.rd_state.specs.Sizes.{IsSized}

-- the state after the changes of a record, the last one first
abbrev pub undone : Snapshot → List Change → Snapshot
undone s [] = s
undone s (change ∷ later) = applied (undone s later) change

-- each of them fits in its turn
abbrev pub CanUndo : Snapshot → List Change → Type 0
CanUndo s [] = Unit {0}
CanUndo s (change ∷ later) = CanUndo s later × Fits (undone s later) change

-- A change that is undone leaves the whole state as it was, and what undoes it fits.
pub record IsUndone (s : Snapshot) (change : Change) : Type 0 where
  pub back : applied (applied s change) (inverse_of s change) ≡ s
  pub fits : Fits (applied s change) (inverse_of s change)

-- whichever change it is, at whichever state it fits
abbrev pub EachIsUndone : Type 0
EachIsUndone = (s : Snapshot) (change : Change) → IsSized s → Fits s change → IsUndone s change
