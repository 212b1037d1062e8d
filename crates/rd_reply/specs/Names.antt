-- The names by which views show objects and tasks: those of the application, by number.
use Rattle.std.specs.Prelude.{ℕ, ◌<◌, codes, List, [], length, slice_index_or, All}
use Rattle.std.specs.Prelude.{Option, Some, None, IfSome}
use Rattle.rd_names.specs.Names.{NamesView}
use Rattle.rd_group.specs.GroupSnapshot.{GroupSnapshot}
use Rattle.rd_queue.specs.QueueSnapshot.{QueueSnapshot}
use Rattle.rd_queue.specs.QueueSetSnapshot.{QueueSetSnapshot}
use Rattle.rd_stream.specs.Holders.{HoldersView}
use Rattle.rd_state.specs.declared.phase.Phase.{Phase}
use Rattle.rd_state.specs.Phases.{waits_at}
use Rattle.rd_state.specs.Snapshot.{Snapshot}
use Rattle.rd_state.specs.Objects.{Numbers}
use Rattle.rd_state.specs.Waiting.{IsPlace}

-- the name with that number; `-` where there is no number
abbrev pub name_at : List (List ℕ) → ℕ → List ℕ
name_at names number = slice_index_or names number []

abbrev pub name_or_dash : List (List ℕ) → Option ℕ → List ℕ
name_or_dash names None = codes "-"
name_or_dash names (Some number) = name_at names number

-- The number has a name.
abbrev pub IsNamed : List (List ℕ) → ℕ → Type 0
IsNamed names number = number < length names

abbrev pub IsNamedOrNone : List (List ℕ) → Option ℕ → Type 0
IsNamedOrNone names number = IfSome number (IsNamed names)

-- Those who wait at the queue have a name, and so has the set that it is a member of, if of any.
pub record QueueIsNamed (names : NamesView) (queue : QueueSnapshot) : Type 0 where
  pub receiving : All (IsNamed names.tasks) queue.receiving
  pub sending : All (IsNamed names.tasks) queue.sending
  pub queue_set : IsNamedOrNone names.queue_sets queue.queue_set

-- The queues whose handles are in the set have a name, and so have those who wait at it.
pub record QueueSetIsNamed (names : NamesView) (queue_set : QueueSetSnapshot) : Type 0 where
  pub handles : All (IsNamed names.queues) queue_set.handles
  pub waiting : All (IsNamed names.tasks) queue_set.waiting

-- Those whom the places of a buffer name have a name.
pub record HoldersAreNamed (names : NamesView) (holders : HoldersView) : Type 0 where
  pub reader : IsNamedOrNone names.tasks holders.reader
  pub writer : IsNamedOrNone names.tasks holders.writer

-- Those who wait at the event group have a name.
abbrev pub GroupIsNamed : NamesView → GroupSnapshot → Type 0
GroupIsNamed names group = All (IsNamed names.tasks) group.waiting

-- how many objects of each kind have names
abbrev pub numbers_named : NamesView → Numbers
numbers_named names = record {
  queue_count = length names.queues;
  queue_set_count = length names.queue_sets;
  stream_count = length names.streams;
  message_count = length names.messages;
  group_count = length names.groups;
}

-- The place where a task waits, if it waits, has a name.
abbrev pub PlaceIsNamed : NamesView → Phase → Type 0
PlaceIsNamed names phase = IfSome (waits_at phase) (IsPlace (numbers_named names))

-- Those who run and those who are ready have a name.
pub record LineupIsNamed (names : NamesView) (s : Snapshot) : Type 0 where
  pub cores : All (IsNamedOrNone names.tasks) s.cores
  pub ready : All (IsNamed names.tasks) s.ready
