-- Which application a file's JSON value says, whatever the order in which it is read.
use Rattle.std.specs.Prelude.{ℕ, ◌≡◌, true, codes, List, [], ◌∷◌, Some, IsUtf8}
use Rattle.serde_json.specs.Read.{read}
use Rattle.serde_json.specs.Data.{Data, number, unsigned, string, array, Items, no_items, item}
use Rattle.serde_json.specs.Events.{items_len}
use Rattle.serde_json.specs.Find.{get}
use Rattle.rd_app.specs.declared.instr.Instr.{Instr}
use Rattle.rd_app.specs.TaskScript.{TaskScript}
use Rattle.rd_script.specs.File.{ends, profile_number, task_keys}
use Rattle.rd_names.specs.Apps.{AppView}
use Rattle.rd_script.specs.Named.{Named, NamedApplication, together}
use Rattle.rd_script.specs.Objects.{SaysObjects, file_keys}
use Rattle.rd_script.specs.Scope.{Scope, scope_of}
use Rattle.rd_script.specs.Spelling.{Spells}
use Rattle.rd_script.specs.Values.{IsNumberOr, SayEachNamed, is_object_with}
use Rattle.rd_text.specs.Words.{words_of}

-- a text whose words spell the instruction
abbrev pub IsInstr : Scope → ℕ → Data → Instr → Type 0
IsInstr scope len d instr =
    (text : List ℕ) × (d ≡ string text) × Spells scope len (words_of text) instr

abbrev pub AreInstrs : Scope → ℕ → Items → List Instr → Type 0
AreInstrs scope len no_items [] = Unit {0}
AreInstrs scope len (item d ds) (instr ∷ code) =
    IsInstr scope len d instr × AreInstrs scope len ds code
AreInstrs scope len _ _ = ⊥

-- the texts spell the script, which never goes on after its last instruction
abbrev pub IsCode : Scope → Items → List Instr → Type 0
IsCode scope values code = AreInstrs scope (items_len values) values code × (ends code ≡ true)

pub record IsTask
    (scope : Scope)
    (d : Data)
    (name : List ℕ)
    (script : TaskScript)
    (values : Items)
    : Type 0 where
  pub keys : is_object_with task_keys d ≡ true
  pub name_at : get (codes "name") d ≡ Some (string name)
  pub priority_at : get (codes "priority") d ≡ Some (number (unsigned script.priority))
  pub code_at : get (codes "code") d ≡ Some (array values)
  pub code : IsCode scope values script.code

abbrev pub AreTasks : Scope → Items → Named TaskScript → Type 0
AreTasks scope ds tasks =
    SayEachNamed (λ d name task. (values : Items) × IsTask scope d name task values) ds tasks

pub record Says (d : Data) (app : NamedApplication) (task_items : Items) : Type 0 where
  pub keys : is_object_with file_keys d ≡ true
  pub profile_at : get (codes "profile") d ≡ Some (number (unsigned (profile_number app.profile)))
  pub cores_at : get (codes "cores") d ≡ Some (number (unsigned app.cores))
  pub entries_at : IsNumberOr 1 (get (codes "notes") d) app.entries
  pub tick_at : IsNumberOr 0 (get (codes "tick") d) app.tick
  pub objects : SaysObjects d app.objects
  pub tasks_at : get (codes "tasks") d ≡ Some (array task_items)
  pub tasks : AreTasks (scope_of app) task_items app.tasks

-- the bytes are JSON whose value says the application
abbrev pub FileSays : List ℕ → AppView → Type 0
FileSays bytes app =
    (d : Data)
    × IsUtf8 bytes
    × (read bytes ≡ Some d)
    × (task_items : Items)
    × Says d (together app) task_items
