-- What the things of an application are called, kind by kind. A thing's number is the index of its
-- name.
use Rattle.std.specs.Prelude.{ℕ, List, [], length}
use Rattle.rd_names.specs.declared.names.Counts.{Counts}
use Rattle.rd_names.specs.declared.names.NameLists.{NameLists}
use Rattle.rd_names.specs.NameSets.{names_among}
use Rattle.rd_text.specs.declared.kind.Kind.{Kind}
use Rattle.rd_text.specs.declared.kind.Kind.TheVariants as kind
use Rattle.rd_text.specs.Names.{AreDistinctNames}
use Rattle.rd_text.specs.Words.{texts}

pub record NamesView : Type 0 where
  pub queues : List (List ℕ)
  pub queue_sets : List (List ℕ)
  pub streams : List (List ℕ)
  pub messages : List (List ℕ)
  pub groups : List (List ℕ)
  pub tasks : List (List ℕ)

abbrev pub no_names : NamesView
no_names = record {
  queues = [];
  queue_sets = [];
  streams = [];
  messages = [];
  groups = [];
  tasks = [];
}

-- the names of one kind
abbrev pub names_of : Kind → NamesView → List (List ℕ)
names_of kind.Queue names = names.queues
names_of kind.QueueSet names = names.queue_sets
names_of kind.Stream names = names.streams
names_of kind.Message names = names.messages
names_of kind.Group names = names.groups
names_of kind.Task names = names.tasks

-- how many names each kind has
abbrev pub counts_of : NamesView → Counts
counts_of names = record {
  queues = length names.queues;
  queue_sets = length names.queue_sets;
  streams = length names.streams;
  messages = length names.messages;
  groups = length names.groups;
  tasks = length names.tasks;
}

-- The texts of each kind are names, no two of which are equal.
abbrev pub AreNames : NamesView → Type 0
AreNames names = (kind : Kind) → AreDistinctNames (names_of kind names)

-- the texts of lists
abbrev pub lists_view : NameLists → NamesView
lists_view lists = record {
  queues = texts lists.queues.now;
  queue_sets = texts lists.queue_sets.now;
  streams = texts lists.streams.now;
  messages = texts lists.messages.now;
  groups = texts lists.groups.now;
  tasks = texts lists.tasks.now;
}

-- of each kind the texts that are names, each once
abbrev pub named_by : NamesView → NamesView
named_by lists = record {
  queues = names_among lists.queues;
  queue_sets = names_among lists.queue_sets;
  streams = names_among lists.streams;
  messages = names_among lists.messages;
  groups = names_among lists.groups;
  tasks = names_among lists.tasks;
}
