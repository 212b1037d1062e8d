-- An application: what runs, and what it is called.
use Rattle.std.specs.Prelude.{◌≡◌, codes, [], ◌∷◌, length}
use Rattle.rd_app.specs.Application.{Application, IsApplication}
use Rattle.rd_app.specs.Builtin.{builtin}
use Rattle.rd_names.specs.Names.{AreNames, NamesView, no_names}
use Rattle.rd_names.specs.declared.names.Counts.{Counts}

pub record AppView : Type 0 where
  pub runs : Application
  pub names : NamesView

-- how many things there are of each kind
abbrev pub counts_in : Application → Counts
counts_in app = record {
  queues = length app.objects.queues;
  queue_sets = length app.objects.queue_sets;
  streams = length app.objects.streams;
  messages = length app.objects.messages;
  groups = length app.objects.groups;
  tasks = length app.tasks;
}

-- Each kind has as many names as things.
pub record AreAsMany (app : Application) (names : NamesView) : Type 0 where
  pub queues : length names.queues ≡ length app.objects.queues
  pub queue_sets : length names.queue_sets ≡ length app.objects.queue_sets
  pub streams : length names.streams ≡ length app.objects.streams
  pub messages : length names.messages ≡ length app.objects.messages
  pub groups : length names.groups ≡ length app.objects.groups
  pub tasks : length names.tasks ≡ length app.tasks

-- What runs is within the limits, and each thing has a name of its own in its kind.
pub record IsApp (app : AppView) : Type 0 where
  pub limits : IsApplication app.runs
  pub paired : AreAsMany app.runs app.names
  pub named : AreNames app.names

-- the names of the built-in application
abbrev pub builtin_names : NamesView
builtin_names = record no_names { queues = codes "q0" ∷ []; tasks = codes "t0" ∷ [] }

abbrev pub builtin_app : AppView
builtin_app = record { runs = builtin; names = builtin_names }
