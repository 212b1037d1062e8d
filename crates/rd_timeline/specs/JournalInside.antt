-- What the fields of a `Journal` stand for.
use Rattle.std.specs.Prelude.{◌≡◌, ◌≤◌, List, drop, length, take, vec_capacity}
use Rattle.rd_timeline.specs.declared.journal.Aside.TheInside as aside
use Rattle.rd_timeline.specs.declared.journal.Journal.TheInside.{Inside}
use Rattle.rd_moves.specs.Moves.{PlainMove}
use Rattle.rd_timeline.specs.Decoded.{decoded, carried_among}
use Rattle.rd_timeline.specs.JournalView.{JournalView}

abbrev pub journal_of : Inside → JournalView
journal_of j = record {
  target = j.logged.target;
  done = decoded (take j.done j.moves.items) j.carried.done;
  records = j.logged.records;
  undone = decoded (drop j.done j.moves.items) j.carried.undone;
  capacity = vec_capacity j.moves;
  carried_capacity = j.carried.capacity;
  memory = j.logged.memory;
  read = j.logged.read;
}

-- So many moves are done, and no more have a record. As much is carried as bytes stand for, both by
-- those done and by those undone.
pub record IsInOrder (j : Inside) : Type 0 where
  pub border : j.done ≤ length j.moves.items
  pub records : length j.logged.records ≤ j.done
  pub done : carried_among (take j.done j.moves.items) ≡ length j.carried.done
  pub undone : carried_among (drop j.done j.moves.items) ≡ length j.carried.undone

abbrev pub moves_aside : aside.Inside → List PlainMove
moves_aside a = decoded a.moves.items a.carried.items

-- As much is carried as bytes stand for.
abbrev pub HasAllCarried : aside.Inside → Type 0
HasAllCarried a = carried_among a.moves.items ≡ length a.carried.items
