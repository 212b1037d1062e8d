-- An application as a file says it: each thing beside its name.
use Rattle.std.specs.Prelude.{ℕ, List}
use Rattle.rd_app.specs.declared.objects.GroupShape.{GroupShape}
use Rattle.rd_app.specs.declared.objects.MessageShape.{MessageShape}
use Rattle.rd_app.specs.declared.objects.QueueShape.{QueueShape}
use Rattle.rd_app.specs.declared.objects.StreamShape.{StreamShape}
use Rattle.rd_app.specs.declared.profile.Profile.{Profile}
use Rattle.rd_app.specs.Application.{Application}
use Rattle.rd_app.specs.Objects.{ObjectShapes}
use Rattle.rd_app.specs.QueueSetShapeView.{QueueSetShapeView}
use Rattle.rd_app.specs.TaskScript.{TaskScript}
use Rattle.rd_names.specs.Apps.{AppView}
use Rattle.rd_names.specs.Names.{NamesView}
use Rattle.rd_text.specs.declared.kind.Kind.{Kind}
use Rattle.rd_text.specs.declared.kind.Kind.TheVariants as kind

-- Things of one kind, with their names. They go by number: the index in these lists.
pub record Named (X : Type 0) : Type 0 where
  pub names : List (List ℕ)
  pub things : List X

pub record NamedObjects : Type 0 where
  pub queues : Named QueueShape
  pub queue_sets : Named QueueSetShapeView
  pub streams : Named StreamShape
  pub messages : Named MessageShape
  pub groups : Named GroupShape

-- the names of a kind, among these objects and the tasks of these names
abbrev pub names_in : NamedObjects → List (List ℕ) → Kind → List (List ℕ)
names_in o tasks kind.Queue = o.queues.names
names_in o tasks kind.QueueSet = o.queue_sets.names
names_in o tasks kind.Stream = o.streams.names
names_in o tasks kind.Message = o.messages.names
names_in o tasks kind.Group = o.groups.names
names_in o tasks kind.Task = tasks

pub record NamedApplication : Type 0 where
  pub profile : Profile
  pub cores : ℕ
  pub entries : ℕ
  pub tick : ℕ
  pub objects : NamedObjects
  pub tasks : Named TaskScript

-- ---- apart: what runs, and what it is called

abbrev pub shapes_of : NamedObjects → ObjectShapes
shapes_of o = record {
  queues = o.queues.things;
  queue_sets = o.queue_sets.things;
  streams = o.streams.things;
  messages = o.messages.things;
  groups = o.groups.things;
}

abbrev pub runs_of : NamedApplication → Application
runs_of app = record {
  profile = app.profile;
  cores = app.cores;
  entries = app.entries;
  tick = app.tick;
  objects = shapes_of app.objects;
  tasks = app.tasks.things;
}

-- the names of objects and those of the tasks
abbrev pub names_with : NamedObjects → List (List ℕ) → NamesView
names_with o tasks = record {
  queues = o.queues.names;
  queue_sets = o.queue_sets.names;
  streams = o.streams.names;
  messages = o.messages.names;
  groups = o.groups.names;
  tasks = tasks;
}

abbrev pub apart : NamedApplication → AppView
apart app = record { runs = runs_of app; names = names_with app.objects app.tasks.names }

-- ---- together: each thing beside its name

abbrev pub objects_with : ObjectShapes → NamesView → NamedObjects
objects_with o names = record {
  queues = record { names = names.queues; things = o.queues };
  queue_sets = record { names = names.queue_sets; things = o.queue_sets };
  streams = record { names = names.streams; things = o.streams };
  messages = record { names = names.messages; things = o.messages };
  groups = record { names = names.groups; things = o.groups };
}

abbrev pub together : AppView → NamedApplication
together app = record {
  profile = app.runs.profile;
  cores = app.runs.cores;
  entries = app.runs.entries;
  tick = app.runs.tick;
  objects = objects_with app.runs.objects app.names;
  tasks = record { names = app.names.tasks; things = app.runs.tasks };
}
