-- An application that is read is what its file says, within the limits.
use Rattle.std.proofs.Common.{IfOk, IsOkAnd, inl, inr, ◌∷◌, ◌<◌, ◌≡◌, ◌∙◌, ℕ, ◌-◌, ◌^◌, ◌≤◌, true, codes, List, [], length, Option}
use Rattle.std.proofs.Common.{rules, IsSome, MatchOption, Some, None, IsUtf8, cond, false, Result, Ok, Err, ok_or, refl, sym, ap, subst, arith}
use Rattle.std.specs.List.{AllByRecursion}
use Rattle.std.specs.Str.{is_utf8}
use Rattle.std.proofs.lemmas.List.Elements.{All-from_recursion, recursion_from_All}
use Rattle.std.proofs.lemmas.Bool.Decides.{nat_tests}
use Rattle.std.proofs.lemmas.Str.{IsUtf8-from_is_utf8, is_utf8-from_IsUtf8}
use Rattle.serde_json.specs.Read.{read}
use Rattle.serde_json.proofs.OnLiterals.{serde_json_on_literals}
use Rattle.serde_json.specs.Data.{Data, number, unsigned, array, Items}
use Rattle.serde_json.specs.Find.{get}
use Rattle.rd_app.specs.declared.profile.Profile.{Profile}
use Rattle.rd_app.specs.declared.profile.Profile.TheVariants.{One, Two}
use Rattle.rd_app.specs.Application.{IsScript}
use Rattle.rd_app.specs.Application.{Application}
use Rattle.rd_app.specs.Profiles.{max_cores}
use Rattle.rd_names.specs.Apps.{AppView, AreAsMany, IsApp}
use Rattle.rd_names.specs.Names.{NamesView, named_by}
use Rattle.rd_names.proofs.Offered.{names_among-distinct}
use Rattle.rd_script.specs.Named.{Named, NamedApplication, apart, names_with, runs_of, together}
use Rattle.rd_script.proofs.LimitLaws.{IsNamedApplication, limits_apart, limits_together}
use Rattle.rd_text.specs.declared.kind.Kind.TheVariants as kind
use Rattle.rd_app.specs.TaskScript.{TaskScript}
use Rattle.rd_script.specs.declared.error.AppError.{AppError}
use Rattle.rd_script.specs.declared.error.AppError.TheVariants as fault
use Rattle.rd_script.specs.Values.{object_with, field, number_in, number_or, array_in, nothing_named, IsNumberOr}
use Rattle.rd_script.specs.Objects.{file_keys, objects_of}
use Rattle.rd_script.specs.File.{TaskDraft, task_of, tasks_after, scripts_after, AppDraft, draft_of, profile_in, profile_number, profile_of, program_of, with_scripts, app_of, app_of_text, app_of_bytes, checked}
use Rattle.rd_script.specs.File.{GivesFaultFirst, GivesOrNoMemory, scope_of_draft}
use Rattle.rd_script.specs.Scope.{scope_of}
use Rattle.rd_script.specs.Says.{Says, FileSays}
use Rattle.rd_script.specs.Spelling.{◌>>=◌}
use Rattle.rd_script.proofs.NamedLaws.{AllByRecursion-first, length_named, named_again, named_take, each_again, each_takes, no_names, said_named}
use Rattle.rd_script.proofs.ObjectLaws.{objects_again, objects_take}
use Rattle.rd_script.proofs.Steps.{bind_ok, ok_or_ok, then_is, chosen}
use Rattle.rd_script.proofs.ValueLaws.{object_ok, field_ok, number_ok, array_ok, object_again, field_again, number_again, array_again, limits_again}
use Rattle.rd_script.proofs.ScriptLaws.{AreScripts, scripts_take, scripts_again}
use Rattle.rd_script.proofs.TaskLaws as task

number_or_ok : (otherwise least most : ℕ) (o : Option Data) (n : ℕ) → least ≤ otherwise → otherwise ≤ most → number_or otherwise least most o ≡ Ok n
    → IsNumberOr otherwise o n × (least ≤ n) × (n ≤ most)
number_or_ok otherwise least most None n low high e = let is : otherwise ≡ n = cc in (sym is, omega arith, omega arith)
number_or_ok otherwise least most (Some d) n low high e = number_ok least most d n e

-- the number of a profile is that of which it is the profile
number_of : (n : ℕ) (profile : Profile) → 1 ≤ n → n ≤ 2 → profile_of n ≡ profile → n ≡ profile_number profile
number_of n One low high e = grind (arith, nat_tests)
number_of n Two low high e = grind (arith, nat_tests)

-- what stands where a profile was read is its number
profile_ok : (d : Data) (profile : Profile) → profile_in d ≡ Ok profile → d ≡ number (unsigned (profile_number profile))
profile_ok d profile e =
    let n = bind_ok (number_in 1 2 d) _ profile e in
    let read = number_ok 1 2 d n.0 n.1 in
    let is : profile_of n.0 ≡ profile = cc in
    read.0 ∙ ap (λ (n : ℕ). number (unsigned n)) (number_of n.0 profile read.1 read.2 is)

-- drafts with the names of the tasks
abbrev drafts_of : NamedApplication → List TaskDraft → Named TaskDraft
drafts_of app drafts = record { names = app.tasks.names; things = drafts }

-- the application was read so
pub record IsAppRead (d : Data) (app : NamedApplication) (profile cores tasks : Data) (task_items : Items) (drafts : List TaskDraft)
    : Type 0 where
  pub keys : object_with file_keys d ≡ Ok tt
  pub profile_at : field (codes "profile") d ≡ Ok profile
  pub cores_at : field (codes "cores") d ≡ Ok cores
  pub tasks_at : field (codes "tasks") d ≡ Ok tasks
  pub profile_is : profile_in profile ≡ Ok app.profile
  pub core_count : number_in 1 (max_cores app.profile) cores ≡ Ok app.cores
  pub entries : number_or 1 1 4 (get (codes "notes") d) ≡ Ok app.entries
  pub tick : number_or 0 0 (2 ^ 32 - 1) (get (codes "tick") d) ≡ Ok app.tick
  pub objects : objects_of d ≡ Ok app.objects
  pub task_array : array_in 1 32 tasks ≡ Ok task_items
  pub drafts_are : tasks_after nothing_named task_items ≡ Ok (drafts_of app drafts)
  pub scripts : scripts_after (scope_of app) [] drafts ≡ Ok app.tasks.things

pub read_takes : (d : Data) (app : NamedApplication) (profile cores tasks : Data) (task_items : Items) (drafts : List TaskDraft)
    → IsAppRead d app profile cores tasks task_items drafts → Says d app task_items × IsNamedApplication app
read_takes d app profile cores tasks task_items drafts read =
    let profile_is = profile_ok profile app.profile read.profile_is in
    let core_count = number_ok 1 (max_cores app.profile) cores app.cores read.core_count in
    let entries = number_or_ok 1 1 4 (get (codes "notes") d) app.entries (omega arith) (omega arith) read.entries in
    let tick = number_or_ok 0 0 (2 ^ 32 - 1) (get (codes "tick") d) app.tick (omega arith) (omega arith) read.tick in
    let objects = objects_take d app.objects read.objects in
    let task_array = array_ok 1 32 tasks task_items read.task_array in
    let taken =
    named_take (λ before. task_of before.names) task.IsDraft (AllByRecursion task.IsDraftInLimits)
    (each_takes task_of task.IsDraft task.IsDraftInLimits task.task_takes) task_items nothing_named (drafts_of app drafts) read.drafts_are
    (record { are_names = no_names; are_things = tt }) in
    let scripts = scripts_take (scope_of app) drafts [] app.tasks.things read.scripts in
    let drafts_said : task.AreDrafts task_items app.tasks.names drafts =
    said_named task.IsDraft task_items (drafts_of app drafts) taken.0 taken.1 taken.2.names_are taken.2.things_are taken.2.said in
    let scripts_said : AreScripts (scope_of app) drafts app.tasks.things = subst (AreScripts (scope_of app) drafts) (sym scripts.1) scripts.2 in
    let tasks_said = task.tasks_said (scope_of app) task_items app.tasks.names drafts app.tasks.things drafts_said scripts_said in
    let count = (length_named task.IsDraft task_items app.tasks.names drafts drafts_said).0 in
    let within = task.scripts_in_limits app drafts app.tasks.things (record { objects = objects.1; tasks = tasks_said.1 }) taken.2.limits.are_things scripts_said in (
      record {
        keys = object_ok file_keys d tt read.keys;
        profile_at = field_ok (codes "profile") d profile read.profile_at ∙ ap Some profile_is;
        cores_at = field_ok (codes "cores") d cores read.cores_at ∙ ap Some core_count.0;
        entries_at = entries.0;
        tick_at = tick.0;
        objects = objects.0;
        tasks_at = field_ok (codes "tasks") d tasks read.tasks_at ∙ ap Some task_array.0;
        tasks = tasks_said.0;
      },
      record {
        some_cores = omega (arith, core_count);
        few_cores = core_count.2;
        some_entries = omega (arith, entries);
        few_entries = entries.2;
        tick = omega (arith, tick);
        objects = objects.1;
        some_tasks = omega (arith, task_array, count, tasks_said.1);
        few_tasks = omega (arith, task_array, count, tasks_said.1);
        tasks = All-from_recursion (IsScript (runs_of app)) app.tasks.things within;
        named_tasks = record { paired = tasks_said.1; names = taken.2.limits.are_names };
      },
    )

abbrev done : {A : Type 0} → A → Result A AppError
done x = Ok x

ok_is : {A : Type 0} (x y : A) → done x ≡ done y → x ≡ y
ok_is x y e = cc

-- a draft with its scripts
abbrev app_with : AppDraft → List TaskScript → NamedApplication
app_with draft scripts = record {
  profile = draft.profile;
  cores = draft.cores;
  entries = draft.entries;
  tick = draft.tick;
  objects = draft.objects;
  tasks = record { names = draft.tasks.names; things = scripts };
}

app_is : (draft other : AppDraft) (scripts : List TaskScript) (app : NamedApplication) → draft ≡ other → done (app_with other scripts) ≡ done app
    → app_with draft scripts ≡ app
app_is draft other scripts app same e = ap (λ (draft : AppDraft). app_with draft scripts) same ∙ ok_is (app_with other scripts) app e

pub app_takes : (d : Data) (app : NamedApplication) → app_of d ≡ Ok app
    → (task_items : Items) × Says d app task_items × IsNamedApplication app
unfolding draft_of
app_takes d app e =
    let drafted = bind_ok (draft_of d) with_scripts app e in
    let scripts = bind_ok (scripts_after (scope_of_draft drafted.0) [] drafted.0.tasks.things) _ app drafted.2 in
    let keys = bind_ok (object_with file_keys d) _ drafted.0 drafted.1 in
    let profile = bind_ok (field (codes "profile") d) _ drafted.0 keys.2 in
    let cores = bind_ok (field (codes "cores") d) _ drafted.0 profile.2 in
    let tasks = bind_ok (field (codes "tasks") d) _ drafted.0 cores.2 in
    let profile_is = bind_ok (profile_in profile.0) _ drafted.0 tasks.2 in
    let core_count = bind_ok (number_in 1 (max_cores profile_is.0) cores.0) _ drafted.0 profile_is.2 in
    let entries = bind_ok (number_or 1 1 4 (get (codes "notes") d)) _ drafted.0 core_count.2 in
    let tick = bind_ok (number_or 0 0 (2 ^ 32 - 1) (get (codes "tick") d)) _ drafted.0 entries.2 in
    let objects = bind_ok (objects_of d) _ drafted.0 tick.2 in
    let task_items = bind_ok (array_in 1 32 tasks.0) _ drafted.0 objects.2 in
    let drafts = bind_ok (tasks_after nothing_named task_items.0) _ drafted.0 task_items.2 in
    let draft : AppDraft = record {
      profile = profile_is.0;
      cores = core_count.0;
      entries = entries.0;
      tick = tick.0;
      objects = objects.0;
      tasks = drafts.0;
    } in
    let draft_is : draft ≡ drafted.0 = ok_is draft drafted.0 drafts.2 in
    let made = app_with draft scripts.0 in
    let is : made ≡ app = app_is draft drafted.0 scripts.0 app draft_is scripts.2 in
    let all = read_takes d made profile.0 cores.0 tasks.0 task_items.0 drafts.0.things (record {
      keys = keys.1;
      profile_at = profile.1;
      cores_at = cores.1;
      tasks_at = tasks.1;
      profile_is = profile_is.1;
      core_count = core_count.1;
      entries = entries.1;
      tick = tick.1;
      objects = objects.1;
      task_array = task_items.1;
      drafts_are = drafts.1;
      scripts = ap (λ (draft : AppDraft). scripts_after (scope_of_draft draft) [] draft.tasks.things) {x = draft} draft_is ∙ scripts.1;
    }) in
    let says = subst (λ (app : NamedApplication). Says d app task_items.0) {x = made} is all.0 in
    (task_items.0, says, subst IsNamedApplication {x = made} is all.1)

-- ---- what a file says is read

number_or_again : (otherwise least most : ℕ) (o : Option Data) (n : ℕ) → IsNumberOr otherwise o n → least ≤ n → n ≤ most
    → number_or otherwise least most o ≡ Ok n
number_or_again otherwise least most None n h low high = ap Ok (sym h)
number_or_again otherwise least most (Some d) n h low high = number_again least most d n h low high

profile_again : (d : Data) (profile : Profile) → d ≡ number (unsigned (profile_number profile)) → profile_in d ≡ Ok profile
profile_again d One e = ap profile_in e
profile_again d Two e = ap profile_in e

-- the draft of an application whose scripts are those of drafts
abbrev draft_from : NamedApplication → List TaskDraft → AppDraft
draft_from app drafts = record {
  profile = app.profile;
  cores = app.cores;
  entries = app.entries;
  tick = app.tick;
  objects = app.objects;
  tasks = drafts_of app drafts;
}

-- what was read so is the answer
draft_read : (d : Data) (app : NamedApplication) (profile cores tasks : Data) (task_items : Items) (drafts : List TaskDraft)
    → IsAppRead d app profile cores tasks task_items drafts → draft_of d ≡ Ok (draft_from app drafts)
unfolding draft_of
draft_read d app profile cores tasks task_items drafts read =
    then_is (object_with file_keys d) _ tt _ read.keys
    (then_is (field (codes "profile") d) _ profile _ read.profile_at
    (then_is (field (codes "cores") d) _ cores _ read.cores_at
    (then_is (field (codes "tasks") d) _ tasks _ read.tasks_at
    (then_is (profile_in profile) _ app.profile _ read.profile_is
    (then_is (number_in 1 (max_cores app.profile) cores) _ app.cores _ read.core_count
    (then_is (number_or 1 1 4 (get (codes "notes") d)) _ app.entries _ read.entries
    (then_is (number_or 0 0 (2 ^ 32 - 1) (get (codes "tick") d)) _ app.tick _ read.tick
    (then_is (objects_of d) _ app.objects _ read.objects
    (then_is (array_in 1 32 tasks) _ task_items _ read.task_array
    (then_is (tasks_after nothing_named task_items) _ (drafts_of app drafts) _ read.drafts_are
    refl))))))))))

app_read : (d : Data) (app : NamedApplication) (profile cores tasks : Data) (task_items : Items) (drafts : List TaskDraft)
    → IsAppRead d app profile cores tasks task_items drafts → app_of d ≡ Ok app
app_read d app profile cores tasks task_items drafts read =
    then_is (draft_of d) with_scripts (draft_from app drafts) _ (draft_read d app profile cores tasks task_items drafts read)
    (then_is (scripts_after (scope_of app) [] drafts) _ app.tasks.things _ read.scripts refl)

pub app_again : (d : Data) (app : NamedApplication) (task_items : Items) → Says d app task_items → IsNamedApplication app
    → app_of d ≡ Ok app
app_again d app task_items says limits =
    let scripts = recursion_from_All (IsScript (runs_of app)) app.tasks.things limits.tasks in
    let split = task.tasks_split app (scope_of app) task_items app.tasks.names app.tasks.things says.tasks scripts in
    let count = (length_named task.IsDraft task_items app.tasks.names split.0 split.1).0 in
    app_read d app (number (unsigned (profile_number app.profile))) (number (unsigned app.cores)) (array task_items) task_items split.0 (record {
      keys = object_again file_keys d says.keys;
      profile_at = field_again (codes "profile") d _ says.profile_at;
      cores_at = field_again (codes "cores") d _ says.cores_at;
      tasks_at = field_again (codes "tasks") d _ says.tasks_at;
      profile_is = profile_again _ app.profile refl;
      core_count = limits_again 1 (max_cores app.profile) app.cores (omega (arith, limits.some_cores)) limits.few_cores;
      entries = number_or_again 1 1 4 (get (codes "notes") d) app.entries says.entries_at (omega (arith, limits.some_entries)) limits.few_entries;
      tick = number_or_again 0 0 (2 ^ 32 - 1) (get (codes "tick") d) app.tick says.tick_at (omega arith) (omega (arith, limits.tick));
      objects = objects_again d app.objects says.objects limits.objects;
      task_array = array_again 1 32 (array task_items) task_items refl (omega (arith, count, limits.some_tasks, limits.named_tasks.paired))
          (omega (arith, count, limits.few_tasks, limits.named_tasks.paired));
      drafts_are = named_again (λ before. task_of before.names) task.IsDraft (AllByRecursion task.IsReadable) (AllByRecursion-first task.IsReadable)
          (each_again task_of task.IsDraft task.IsReadable task.draft_again) task_items nothing_named app.tasks.names split.0 split.1 limits.named_tasks.names split.2;
      scripts = scripts_again (scope_of app) split.0 [] app.tasks.things split.3;
    })

-- ---- the bytes of a file

pub file_takes : (bytes : List ℕ) (app : NamedApplication) → app_of_bytes bytes ≡ Ok app → FileSays bytes (apart app) × IsNamedApplication app
file_takes bytes app e =
    let text = chosen (is_utf8 bytes) _ _ app e in
    let d = bind_ok (ok_or (read bytes) _) _ app text.1 in
    let taken = app_takes d.0 app d.2 in
    ((d.0, IsUtf8-from_is_utf8 bytes text.0, ok_or_ok (read bytes) d.0 _ d.1, taken.0, taken.1), taken.2)

-- the JSON value of a text decides
pub text_is_file : (text : List ℕ) (d : Data) → read text ≡ Some d → app_of_text text ≡ app_of d
text_is_file text d is = then_is (ok_or (read text) fault.NotJson) app_of d _ (ap (λ o. ok_or o fault.NotJson) is) refl

pub text_is_none : (text : List ℕ) → read text ≡ None → app_of_text text ≡ Err fault.NotJson
text_is_none text none = ap (λ o. ok_or o fault.NotJson >>= app_of) none

-- no text is no JSON
pub text_is_some : (text : List ℕ) (d : Data) → read text ≡ Some d → 0 < length text
unfolding serde_json_on_literals
text_is_some [] d is = absurd cc
text_is_some (byte ∷ text) d is = omega arith

-- the bytes of a text
pub utf8_read : (bytes text : List ℕ) (r : Result AppView AppError) → text ≡ bytes → IsUtf8 bytes
    → GivesOrNoMemory together r (app_of_text text) → GivesOrNoMemory together r (app_of_bytes bytes)
utf8_read bytes text r same utf8 h = rw (is_utf8-from_IsUtf8 bytes utf8, ← same) h

-- bytes of no text
pub not_utf8 : (bytes : List ℕ) → ¬ IsUtf8 bytes → app_of_bytes bytes ≡ Err fault.NotJson
not_utf8 bytes none =
    elim (is_utf8 bytes) as (λ b. (is_utf8 bytes ≡ b) → cond b (app_of_text bytes) (Err fault.NotJson) ≡ Err fault.NotJson) [
      | true ↦ λ e. absurd (none (IsUtf8-from_is_utf8 bytes e))
      | false ↦ λ e. refl
    ] refl

-- where a fault comes first, memory runs out nowhere else
pub at_any : (r : Result AppView AppError) (read : Result NamedApplication AppError) → GivesFaultFirst together r read → GivesOrNoMemory together r read
at_any (Ok app) read h = h
at_any (Err e) read h = λ other. elim h [ inl is ↦ is | inr memory ↦ absurd (other memory.0) ]

checked_app_then : (d : Data) (draft : AppDraft) (r : Result (List TaskScript) AppError) → draft_of d ≡ Ok draft → scripts_after (scope_of_draft draft) [] draft.tasks.things ≡ r
    → checked r ≡ Ok tt
    → IsOkAnd (r >>= λ scripts. Ok (app_with draft scripts)) (λ app. IsApp (apart app))
checked_app_then d draft (Ok scripts) drafted e h =
    limits_apart (app_with draft scripts)
    (app_takes d (app_with draft scripts)
    (then_is (draft_of d) with_scripts draft _ drafted (then_is (scripts_after (scope_of_draft draft) [] draft.tasks.things) _ scripts _ e refl))).2
checked_app_then d draft (Err x) drafted e h = absurd cc

-- a draft whose scripts were checked is an application within the limits
pub checked_app : (d : Data) (draft : AppDraft) → draft_of d ≡ Ok draft → checked (scripts_after (scope_of_draft draft) [] draft.tasks.things) ≡ Ok tt
    → IsOkAnd (with_scripts draft) (λ app. IsApp (apart app))
checked_app d draft drafted h = checked_app_then d draft (scripts_after (scope_of_draft draft) [] draft.tasks.things) drafted refl h

fault_stays : (r : Result (List TaskScript) AppError) (f : List TaskScript → Result NamedApplication AppError) (e : AppError) → checked r ≡ Err e → (r >>= f) ≡ Err e
fault_stays (Ok scripts) f e h = absurd cc
fault_stays (Err d) f e h = cc

-- a draft with a fault in its scripts is no application
pub fault_found : (d : Data) (draft : AppDraft) (e : AppError) → draft_of d ≡ Ok draft → checked (scripts_after (scope_of_draft draft) [] draft.tasks.things) ≡ Err e
    → app_of d ≡ Err e
fault_found d draft e drafted h = then_is (draft_of d) with_scripts draft (Err e) drafted (fault_stays (scripts_after (scope_of_draft draft) [] draft.tasks.things) _ e h)

pub file_again : (bytes : List ℕ) (app : AppView) → FileSays bytes app → IsApp app → app_of_bytes bytes ≡ Ok (together app)
file_again bytes app says limits =
    rw (is_utf8-from_IsUtf8 bytes says.1)
    (text_is_file bytes says.0 says.2) ∙ app_again says.0 (together app) says.3 says.4 (limits_together (together app) limits)

pub is_accepted : (bytes : List ℕ) (r : Result AppView AppError) → GivesOrNoMemory together r (app_of_bytes bytes)
    → IfOk r (FileSays bytes) × IfOk r IsApp
is_accepted bytes (Ok app) e = let taken = file_takes bytes (together app) e in (taken.0, limits_apart (together app) taken.1)
is_accepted bytes (Err d) e = (tt, tt)

-- an application that is the same with its names beside it is the same
pub same_apart : (r : Result AppView AppError) (app : AppView) → GivesOrNoMemory together r (Ok (together app))
    → GivesOrNoMemory (λ app. app) r (Ok app)
same_apart (Ok other) app h = let same : together app ≡ together other = cc in ap (λ (app : NamedApplication). Ok (apart app)) same
same_apart (Err e) app h = λ other. let none : Ok (together app) ≡ Err e = h other in absurd cc

-- what runs of the draft is the program that was kept
pub draft_runs : (draft : AppDraft) (scripts : List TaskScript) (program : Application)
    → scripts_after (scope_of_draft draft) [] draft.tasks.things ≡ Ok scripts
    → program ≡ runs_of (app_with draft scripts)
    → program_of draft ≡ Ok program
draft_runs draft scripts program read is = rw (read, is) refl

-- the names of an application within the limits are the same again
names_same : (app : AppView) → IsApp app → named_by app.names ≡ app.names
names_same app is = λ i. record {
  queues = names_among-distinct app.names.queues (is.named kind.Queue) i;
  queue_sets = names_among-distinct app.names.queue_sets (is.named kind.QueueSet) i;
  streams = names_among-distinct app.names.streams (is.named kind.Stream) i;
  messages = names_among-distinct app.names.messages (is.named kind.Message) i;
  groups = names_among-distinct app.names.groups (is.named kind.Group) i;
  tasks = names_among-distinct app.names.tasks (is.named kind.Task) i;
}

-- what runs of an application, and its names, are the application
pub record IsTogether (r : Result NamedApplication AppError) (program : Application) (names : NamesView) : Type 0 where
  pub paired : AreAsMany program names
  pub is : r ≡ Ok (together (record { runs = program; names = names }))

apart_together : (app : NamedApplication) (program : Application) (names : NamesView) → runs_of app ≡ program → IsApp (apart app)
    → names ≡ named_by (names_with app.objects app.tasks.names) → IsTogether (Ok app) program names
apart_together app program names runs limits named =
    let called : names ≡ (apart app).names = named ∙ names_same (apart app) limits in
    record {
      paired = subst (λ (program : Application). AreAsMany program names) {x = runs_of app} runs
          (subst (AreAsMany (runs_of app)) (sym called) limits.paired);
      is = ap (λ (program : Application). Ok (together (record { runs = program; names = (apart app).names }))) {x = runs_of app} runs
          ∙ ap (λ (names : NamesView). Ok (together (record { runs = program; names = names }))) (sym called);
    }

-- what runs of the draft, and its names, are its application
pub draft_is_together : (draft : AppDraft) (program : Application) (names : NamesView) (scripts : Result (List TaskScript) AppError)
    → scripts_after (scope_of_draft draft) [] draft.tasks.things ≡ scripts
    → program_of draft ≡ Ok program → IsOkAnd (with_scripts draft) (λ app. IsApp (apart app))
    → names ≡ named_by (names_with draft.objects draft.tasks.names) → IsTogether (with_scripts draft) program names
draft_is_together draft program names (Err e) read = rw read (λ runs limits named. absurd cc)
draft_is_together draft program names (Ok scripts) read =
    rw read (λ runs limits named.
    let same : runs_of (app_with draft scripts) ≡ program = cc in apart_together (app_with draft scripts) program names same limits named)

-- the same, of the names that were listed
pub together_by : (draft : AppDraft) (program : Application) (names lists : NamesView) → program_of draft ≡ Ok program
    → IsOkAnd (with_scripts draft) (λ app. IsApp (apart app)) → names ≡ named_by lists → lists ≡ names_with draft.objects draft.tasks.names
    → IsTogether (with_scripts draft) program names
together_by draft program names lists runs limits named is =
    draft_is_together draft program names _ refl runs limits (named ∙ ap named_by is)

-- with as many names as things there is an application of them
pub there_is : (o : Option AppView) (program : Application) (names : NamesView) → AreAsMany program names
    → MatchOption o (¬ AreAsMany program names) (λ app. app ≡ record { runs = program; names = names }) → IsSome o
there_is None program names paired is = absurd (is paired)
there_is (Some app) program names paired is = search rules
