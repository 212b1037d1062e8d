-- What a contract sees of tasks and of an application that are not read to their end.
use Rattle.rd_script.specs.declared.scope.Scope as declared_scope
use Rattle.rd_script.specs.Scope.{Scope}
use Rattle.std.specs.Prelude.{ℕ, map}
use Rattle.rd_script.specs.Named.{Named}
use Rattle.serde_json.specs.View.{items_view}
use Rattle.rd_script.specs.declared.file.AppDraft.{AppDraft}
use Rattle.rd_script.specs.declared.file.TaskDraft.{TaskDraft}
use Rattle.rd_script.specs.declared.objects.NamedArray.{NamedArray}
use Rattle.rd_script.specs.File as file
use Rattle.rd_script.specs.Objects.{drafts_view}
use Rattle.rd_text.specs.Words.{texts}

abbrev pub task_draft_view : TaskDraft → file.TaskDraft
task_draft_view draft = record { priority = draft.priority; code = items_view draft.code.now }

abbrev pub task_drafts_view : {N : ℕ} → NamedArray TaskDraft N → Named file.TaskDraft
task_drafts_view array = record {
  names = texts array.names.items;
  things = map task_draft_view array.things.items;
}

abbrev pub app_draft_view : AppDraft → file.AppDraft
app_draft_view draft = record {
  profile = draft.profile;
  cores = draft.cores;
  entries = draft.entries;
  tick = draft.tick;
  objects = drafts_view draft.objects;
  tasks = task_drafts_view draft.tasks;
}

-- what its scripts can name
abbrev pub scope_view : declared_scope.Scope → Scope
scope_view scope = record {
  objects = drafts_view scope.objects.now;
  tasks = texts scope.tasks.now;
  entries = scope.entries;
}
