-- What a contract sees of a journal.
use Rattle.std.specs.Prelude.{ℕ, ◌≡◌, ◌<◌, IsTrue, List, slice_index_or}
use Rattle.rd_state.specs.Change.{Change}
use Rattle.rd_state.specs.Snapshot.{Snapshot}
use Rattle.rd_moves.specs.Moves.{PlainMove}
use Rattle.rd_moves.specs.declared.moves.Move.TheVariants.{Tick}
use Rattle.rd_timeline.specs.Decoded.{carried_in, carries}

-- The target, the moves done in order, with the records of the last of them, and the moves undone,
-- the one to be redone next first. There is room for so many moves done, for so many among them
-- that carry something, and for so many bytes of their records, of which so many were read so far.
pub record JournalView : Type 0 where
  pub target : Snapshot
  pub done : List PlainMove
  pub records : List (List Change)
  pub undone : List PlainMove
  pub capacity : ℕ
  pub carried_capacity : ℕ
  pub memory : ℕ
  pub read : ℕ

-- the move that is to be redone next
abbrev pub next_undone : JournalView → PlainMove
next_undone journal = slice_index_or journal.undone 0 Tick

-- The target, the moves and their records are as they were, and no more of these was read.
pub record IsAsBefore (old new : JournalView) : Type 0 where
  pub target : new.target ≡ old.target
  pub done : new.done ≡ old.done
  pub records : new.records ≡ old.records
  pub undone : new.undone ≡ old.undone
  pub read : new.read ≡ old.read

-- If the move carries something, there is room for that.
abbrev pub HasCarriedRoom : JournalView → PlainMove → Type 0
HasCarriedRoom journal move =
    IsTrue (carries move) → carried_in journal.done < journal.carried_capacity
