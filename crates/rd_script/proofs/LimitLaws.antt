-- The limits of an application, each thing beside its name, and apart.
use Rattle.std.proofs.Common.{◌≡◌, ◌^◌, ◌<◌, ◌≤◌, nat_eq, length, All}
use Rattle.std.specs.List.{IsDistinct}
use Rattle.rd_app.specs.Application.{IsScript}
use Rattle.rd_app.specs.Objects.{IsMessageShape, IsQueueShape, IsQueueSetShape, IsStreamShape, members_of}
use Rattle.rd_app.specs.Profiles.{max_cores}
use Rattle.rd_names.specs.Apps.{IsApp}
use Rattle.rd_names.specs.Names.{AreNames}
use Rattle.rd_script.specs.Named.{Named, NamedApplication, NamedObjects, apart, names_with, runs_of, shapes_of}
use Rattle.rd_text.specs.declared.kind.Kind.TheVariants as kind
use Rattle.rd_text.specs.Names.{AreDistinctNames}

-- Each thing has a name of its own.
pub record AreNamed {X : Type 0} (named : Named X) : Type 0 where
  pub paired : length named.names ≡ length named.things
  pub names : AreDistinctNames named.names

pub record AreNamedObjects (o : NamedObjects) : Type 0 where
  pub named_queues : AreNamed o.queues
  pub few_queues : length o.queues.things ≤ 32
  pub queues : All IsQueueShape o.queues.things
  pub named_queue_sets : AreNamed o.queue_sets
  pub few_queue_sets : length o.queue_sets.things ≤ 32
  pub queue_sets : All (IsQueueSetShape (shapes_of o)) o.queue_sets.things
  pub one_queue_set_each : IsDistinct nat_eq (members_of o.queue_sets.things)
  pub named_streams : AreNamed o.streams
  pub few_streams : length o.streams.things ≤ 32
  pub streams : All IsStreamShape o.streams.things
  pub named_messages : AreNamed o.messages
  pub few_messages : length o.messages.things ≤ 32
  pub messages : All IsMessageShape o.messages.things
  pub named_groups : AreNamed o.groups
  pub few_groups : length o.groups.things ≤ 32

pub record IsNamedApplication (app : NamedApplication) : Type 0 where
  pub some_cores : 0 < app.cores
  pub few_cores : app.cores ≤ max_cores app.profile
  pub some_entries : 0 < app.entries
  pub few_entries : app.entries ≤ 4
  pub tick : app.tick < 2 ^ 32
  pub objects : AreNamedObjects app.objects
  pub named_tasks : AreNamed app.tasks
  pub some_tasks : 0 < length app.tasks.things
  pub few_tasks : length app.tasks.things ≤ 32
  pub tasks : All (IsScript (runs_of app)) app.tasks.things

names_each : (app : NamedApplication) → IsNamedApplication app → AreNames (names_with app.objects app.tasks.names)
names_each app is kind.Queue = is.objects.named_queues.names
names_each app is kind.QueueSet = is.objects.named_queue_sets.names
names_each app is kind.Stream = is.objects.named_streams.names
names_each app is kind.Message = is.objects.named_messages.names
names_each app is kind.Group = is.objects.named_groups.names
names_each app is kind.Task = is.named_tasks.names

-- what has its names beside it has them apart
pub limits_apart : (app : NamedApplication) → IsNamedApplication app → IsApp (apart app)
limits_apart app is = record {
  limits = record {
    some_cores = is.some_cores;
    few_cores = is.few_cores;
    some_entries = is.some_entries;
    few_entries = is.few_entries;
    tick = is.tick;
    objects = record {
      few_queues = is.objects.few_queues;
      queues = is.objects.queues;
      few_queue_sets = is.objects.few_queue_sets;
      queue_sets = is.objects.queue_sets;
      one_queue_set_each = is.objects.one_queue_set_each;
      few_streams = is.objects.few_streams;
      streams = is.objects.streams;
      few_messages = is.objects.few_messages;
      messages = is.objects.messages;
      few_groups = is.objects.few_groups;
    };
    some_tasks = is.some_tasks;
    few_tasks = is.few_tasks;
    tasks = is.tasks;
  };
  paired = record {
    queues = is.objects.named_queues.paired;
    queue_sets = is.objects.named_queue_sets.paired;
    streams = is.objects.named_streams.paired;
    messages = is.objects.named_messages.paired;
    groups = is.objects.named_groups.paired;
    tasks = is.named_tasks.paired;
  };
  named = names_each app is;
}

-- and the other way round
pub limits_together : (app : NamedApplication) → IsApp (apart app) → IsNamedApplication app
limits_together app is =
    record {
      some_cores = is.limits.some_cores;
      few_cores = is.limits.few_cores;
      some_entries = is.limits.some_entries;
      few_entries = is.limits.few_entries;
      tick = is.limits.tick;
      objects = record {
        named_queues = record { paired = is.paired.queues; names = is.named kind.Queue };
        few_queues = is.limits.objects.few_queues;
        queues = is.limits.objects.queues;
        named_queue_sets = record { paired = is.paired.queue_sets; names = is.named kind.QueueSet };
        few_queue_sets = is.limits.objects.few_queue_sets;
        queue_sets = is.limits.objects.queue_sets;
        one_queue_set_each = is.limits.objects.one_queue_set_each;
        named_streams = record { paired = is.paired.streams; names = is.named kind.Stream };
        few_streams = is.limits.objects.few_streams;
        streams = is.limits.objects.streams;
        named_messages = record { paired = is.paired.messages; names = is.named kind.Message };
        few_messages = is.limits.objects.few_messages;
        messages = is.limits.objects.messages;
        named_groups = record { paired = is.paired.groups; names = is.named kind.Group };
        few_groups = is.limits.objects.few_groups;
      };
      named_tasks = record { paired = is.paired.tasks; names = is.named kind.Task };
      some_tasks = is.limits.some_tasks;
      few_tasks = is.limits.few_tasks;
      tasks = is.limits.tasks;
    }
