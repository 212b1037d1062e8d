-- What the marker of a hall is set up for where nobody picks.
use Rattle.std.specs.Prelude.{[]}
use Rattle.rd_app.specs.Objects.{no_shapes}
use Rattle.rd_app.specs.declared.profile.Profile.TheVariants.{One}
use Rattle.rd_names.specs.Apps.{AppView}
use Rattle.rd_names.specs.Names.{no_names}

-- no cores, no tasks and no objects
abbrev pub no_application : AppView
no_application = record {
  runs = record {
    profile = One;
    cores = 0;
    entries = 0;
    tick = 0;
    objects = no_shapes;
    tasks = [];
  };
  names = no_names;
}
