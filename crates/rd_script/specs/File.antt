-- The application of a file's JSON value, or the first fault that is met: of an object first its
-- keys, and then what stands at them, in the order below.
use Rattle.std.specs.Prelude.{ℕ, ◌≡◌, ◌≢◌, ◌-◌, ◌^◌, ◌&&◌, ◌⊎◌, Bool, true, false, codes}
use Rattle.std.specs.Prelude.{List, [], ◌∷◌, ◌++◌, length, slice_get, if◌then◌else◌}
use Rattle.std.specs.Prelude.{is_some, option_map, unwrap_or, nat_eq, Result, Ok, Err, IsOk, ok_or, ⊤}
use Rattle.std.specs.Str.{is_utf8}
use Rattle.serde_json.specs.Data.{Data, Items, no_items, item}
use Rattle.serde_json.specs.Events.{items_len}
use Rattle.serde_json.specs.Find.{get, as_str}
use Rattle.serde_json.specs.Read.{read}
use Rattle.rd_notify.specs.declared.entries.TheConstants.{MAX_ENTRIES}
use Rattle.rd_app.specs.declared.app.TheConstants.{MAX_CODE, MAX_PRIORITY, MAX_TASKS}
use Rattle.rd_app.specs.declared.instr.Instr.{Instr}
use Rattle.rd_app.specs.declared.profile.Profile.{Profile}
use Rattle.rd_app.specs.declared.profile.Profile.TheVariants.{One, Two}
use Rattle.rd_app.specs.Application.{Application, is_final}
use Rattle.rd_app.specs.Profiles.{max_cores}
use Rattle.rd_app.specs.TaskScript.{TaskScript}
use Rattle.rd_script.specs.declared.error.AppError.{AppError}
use Rattle.rd_script.specs.declared.error.AppError.TheVariants as fault
use Rattle.rd_script.specs.Named.{Named, NamedApplication, NamedObjects, runs_of}
use Rattle.rd_script.specs.Objects.{file_keys, objects_of}
use Rattle.rd_script.specs.Scope.{Scope}
use Rattle.rd_script.specs.Spelling.{◌>>=◌, instr_of}
use Rattle.rd_script.specs.Values.{array_in, field, named_after, new_name, nothing_named}
use Rattle.rd_script.specs.Values.{number_in, number_or, object_with}
use Rattle.rd_text.specs.Words.{words_of}

-- ---- tasks

-- a task's priority and the texts of its instructions
pub record TaskDraft : Type 0 where
  pub priority : ℕ
  pub code : Items

abbrev pub task_keys : List (List ℕ)
task_keys = codes "name" ∷ codes "priority" ∷ codes "code" ∷ []

-- is each a text?
abbrev pub are_texts : Items → Bool
are_texts no_items = true
are_texts (item d ds) = is_some (as_str d) && are_texts ds

unfoldable pub task_of : List (List ℕ) → Data → Result (List ℕ × TaskDraft) AppError
task_of names d = do
  _ ← object_with task_keys d
  name ← field (codes "name") d
  priority ← field (codes "priority") d
  code ← field (codes "code") d
  name ← new_name names name
  priority ← number_in 0 MAX_PRIORITY priority
  code ← array_in 1 MAX_CODE code
  if are_texts code
      then Ok (name, record { priority = priority; code = code })
      else Err fault.Shape

abbrev pub tasks_after : Named TaskDraft → Items → Result (Named TaskDraft) AppError
tasks_after before ds = named_after (λ before. task_of before.names) before ds

-- ---- scripts

-- the instruction of a value, in a script of that length
abbrev pub instr_of_value : Scope → ℕ → Data → Result Instr AppError
instr_of_value scope len d = do
  text ← ok_or (as_str d) fault.Shape
  instr_of scope len (words_of text)

-- does the script never go on after the instruction of a value?
abbrev pub ends_script : Scope → ℕ → Data → Result Bool AppError
ends_script scope len d = do
  instr ← instr_of_value scope len d
  Ok (is_final instr)

-- the instructions before, and those of the values
abbrev pub instrs_after : Scope → ℕ → List Instr → Items → Result (List Instr) AppError
instrs_after scope len before no_items = Ok before
instrs_after scope len before (item d ds) = do
  instr ← instr_of_value scope len d
  instrs_after scope len (before ++ instr ∷ []) ds

-- does the last instruction never go on at the next?
abbrev pub ends : List Instr → Bool
ends code = unwrap_or (option_map is_final (slice_get code (length code - 1))) false

-- the instructions of a task, the last of which never goes on at the next
unfoldable pub instrs_of : Scope → Items → Result (List Instr) AppError
instrs_of scope values = do
  code ← instrs_after scope (items_len values) [] values
  if ends code then Ok code else Err fault.Instr

-- the scripts before, and those of the drafts
abbrev pub scripts_after : Scope → List TaskScript → List TaskDraft
    → Result (List TaskScript) AppError
scripts_after scope scripts [] = Ok scripts
scripts_after scope scripts (draft ∷ drafts) = do
  code ← instrs_of scope draft.code
  scripts_after scope (scripts ++ record { priority = draft.priority; code = code } ∷ []) drafts

-- ---- the profile

-- the number that stands for a profile
abbrev pub profile_number : Profile → ℕ
profile_number One = 1
profile_number Two = 2

-- the profile of a number, which is 1 or 2
abbrev pub profile_of : ℕ → Profile
profile_of n = if nat_eq n 1 then One else Two

abbrev pub profile_in : Data → Result Profile AppError
profile_in d = do
  n ← number_in 1 2 d
  Ok (profile_of n)

-- ---- the file

-- what a file says, its scripts not read yet
pub record AppDraft : Type 0 where
  pub profile : Profile
  pub cores : ℕ
  pub entries : ℕ
  pub tick : ℕ
  pub objects : NamedObjects
  pub tasks : Named TaskDraft

unfoldable pub draft_of : Data → Result AppDraft AppError
draft_of d = do
  _ ← object_with file_keys d
  profile ← field (codes "profile") d
  cores ← field (codes "cores") d
  tasks ← field (codes "tasks") d
  profile ← profile_in profile
  cores ← number_in 1 (max_cores profile) cores
  entries ← number_or 1 1 MAX_ENTRIES (get (codes "notes") d)
  tick ← number_or 0 0 (2 ^ 32 - 1) (get (codes "tick") d)
  objects ← objects_of d
  tasks ← array_in 1 MAX_TASKS tasks
  tasks ← tasks_after nothing_named tasks
  Ok (record {
    profile = profile;
    cores = cores;
    entries = entries;
    tick = tick;
    objects = objects;
    tasks = tasks;
  })

-- what its scripts can name
abbrev pub scope_of_draft : AppDraft → Scope
scope_of_draft draft =
    record { objects = draft.objects; tasks = draft.tasks.names; entries = draft.entries }

-- the application of a draft
abbrev pub with_scripts : AppDraft → Result NamedApplication AppError
with_scripts draft = do
  scripts ← scripts_after (scope_of_draft draft) [] draft.tasks.things
  Ok (record {
    profile = draft.profile;
    cores = draft.cores;
    entries = draft.entries;
    tick = draft.tick;
    objects = draft.objects;
    tasks = record { names = draft.tasks.names; things = scripts };
  })

-- what runs of it
abbrev pub program_of : AppDraft → Result Application AppError
program_of draft = with_scripts draft >>= λ app. Ok (runs_of app)

abbrev pub app_of : Data → Result NamedApplication AppError
app_of d = draft_of d >>= with_scripts

-- the application of a text, or the first fault
abbrev pub app_of_text : List ℕ → Result NamedApplication AppError
app_of_text text = ok_or (read text) fault.NotJson >>= app_of

-- the application of a file's bytes, or the first fault
abbrev pub app_of_bytes : List ℕ → Result NamedApplication AppError
app_of_bytes bytes = if is_utf8 bytes then app_of_text bytes else Err fault.NotJson

-- ---- what the code gives

-- only whether there is a fault, and which
abbrev pub checked : {X : Type 0} → Result X AppError → Result ⊤ AppError
checked (Ok x) = Ok tt
checked (Err e) = Err e

-- The same, unless memory ran out, which it does only where there is no fault.
abbrev pub GivesFaultFirst : {X Y : Type 0} → (X → Y) → Result X AppError → Result Y AppError
    → Type 0
GivesFaultFirst view (Ok x) read = read ≡ Ok (view x)
GivesFaultFirst view (Err e) read = (read ≡ Err e) ⊎ ((e ≡ fault.Memory) × IsOk read)

-- The same, unless memory ran out, which it may do anywhere.
abbrev pub GivesOrNoMemory : {X Y : Type 0} → (X → Y) → Result X AppError → Result Y AppError
    → Type 0
GivesOrNoMemory view (Ok x) read = read ≡ Ok (view x)
GivesOrNoMemory view (Err e) read = e ≢ fault.Memory → read ≡ Err e
