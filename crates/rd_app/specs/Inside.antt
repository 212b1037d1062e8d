-- The application that its parts make.
use Rattle.rd_app.specs.declared.app.Parts.{Parts}
use Rattle.rd_app.specs.Application.{Application}
use Rattle.rd_app.specs.Objects.{objects_view}

abbrev pub application_of : Parts → Application
application_of parts = record {
  profile = parts.profile;
  cores = parts.cores;
  entries = parts.entries;
  tick = parts.tick;
  objects = objects_view parts.objects;
  tasks = parts.tasks.items;
}
