-- A move in the middle: the state now, where the move began, the weight of what it recorded since,
-- all that the record has, for how many bytes more it has room, and whether nothing has called for
-- settling.
use Rattle.std.specs.Prelude.{ℕ, ◌≡◌, ◌+◌, ◌-◌, ◌*◌, ◌<◌, ◌≤◌, ◌&&◌, Bool, true, not, List}
use Rattle.std.specs.Prelude.{length, drop, take}
use Rattle.rd_state.specs.Change.{Change}
use Rattle.rd_state.specs.Change.{moves_lineup, weight_of}
use Rattle.rd_state.specs.PackedChanges.{all_packed, ChangeListView}
use Rattle.rd_state.specs.Snapshot.{Snapshot, numbers_of}
use Rattle.rd_state.specs.Undoing.{undone, CanUndo}

-- where a move began: the state, what its record had before, and whether nothing had called for
-- settling by then
pub record Outset : Type 0 where
  pub state : Snapshot
  pub recorded : List Change
  pub calm : Bool

pub record EditingView : Type 0 where
  pub now : Snapshot
  pub outset : Outset
  pub weight : ℕ
  pub changes : List Change
  pub room : ℕ
  pub calm : Bool

-- for how many bytes more a list of changes has room
abbrev pub room_of : ChangeListView → ℕ
room_of list = list.capacity - length (all_packed list.changes)

-- for how many bytes it has room in all
abbrev pub capacity_of : EditingView → ℕ
capacity_of edit = length (all_packed edit.changes) + edit.room

-- a move whose record had so many changes before, when it was calm or not
abbrev pub editing_of : Snapshot → ChangeListView → ℕ → Bool → Bool → EditingView
editing_of s list start was_calm calm = record {
  now = s;
  outset = record {
    state = undone s (drop start list.changes);
    recorded = take start list.changes;
    calm = was_calm;
  };
  weight = weight_of (drop start list.changes);
  changes = list.changes;
  room = room_of list;
  calm = calm;
}

-- a move that begins here
abbrev pub begun_at : Snapshot → List Change → ℕ → Bool → EditingView
begun_at s changes room calm = record {
  now = s;
  outset = record { state = s; recorded = changes; calm = calm };
  weight = 0;
  changes = changes;
  room = room;
  calm = calm;
}

-- The same tasks are on the cores, and the same one is the first that is ready, if one is.
pub record LineupStays (before now : Snapshot) : Type 0 where
  pub cores : now.cores ≡ before.cores
  pub first : take 1 now.ready ≡ take 1 before.ready

-- Where nothing has called for settling, nothing had where the move began, and the line-up stays.
pub record IsCalmSince (outset : Outset) (now : Snapshot) : Type 0 where
  pub was : outset.calm ≡ true
  pub stay : LineupStays outset.state now

-- whether nothing has called for settling behind a change, by whether nothing had before it
abbrev pub calm_behind : Bool → Change → Bool
calm_behind calm change = calm && not (moves_lineup change)

-- what a record has got since
abbrev pub added : List Change → List Change → List Change
added before changes = drop (length before) changes

-- The record has what it had before, and what it got leads back to where the move began.
pub record GoesOn (edit : EditingView) (changes : List Change) : Type 0 where
  pub before : take (length edit.outset.recorded) changes ≡ edit.outset.recorded
  pub leads_back : undone edit.now (added edit.outset.recorded changes) ≡ edit.outset.state
  pub can_undo : CanUndo edit.now (added edit.outset.recorded changes)
  pub weight : weight_of (added edit.outset.recorded changes) ≡ edit.weight

-- The room that a record needs, at the most, for what costs so much: a change takes no more than 15
-- bytes and those that it carries.
abbrev pub room_for : ℕ → ℕ
room_for cost = 16 * cost

-- The move goes no further: there is no memory, and less room than that cost needs. It still began
-- where it did, and its record leads back there, with no less memory.
pub record GivesUp (old new : EditingView) (cost : ℕ) : Type 0 where
  pub outset : new.outset ≡ old.outset
  pub short : old.room < room_for cost
  pub grows : capacity_of old ≤ capacity_of new

-- the same numbers of cores, of tasks, and of objects of each kind
pub record SameShape (old new : Snapshot) : Type 0 where
  pub cores : length new.cores ≡ length old.cores
  pub tasks : length new.tasks ≡ length old.tasks
  pub objects : numbers_of new ≡ numbers_of old

-- The state has become the target, at that cost at the most; the record leads back to where it did,
-- with no less memory.
pub record Reaches (old new : EditingView) (target : Snapshot) (cost : ℕ) : Type 0 where
  pub now : new.now ≡ target
  pub outset : new.outset ≡ old.outset
  pub weight : new.weight ≤ old.weight + cost
  pub room : old.room ≤ new.room + room_for cost
  pub grows : capacity_of old ≤ capacity_of new
  pub shape : SameShape old.now new.now
