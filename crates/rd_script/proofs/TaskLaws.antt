-- A task that is read is spelled by its value, and what spells a task is read.
use Rattle.std.proofs.Common.{◌≡◌, ◌∙◌, ℕ, suc, ◌≤◌, true, codes, List, [], ◌∷◌, length, Some, Ok, refl, ap, subst, arith}
use Rattle.serde_json.specs.Data.{Data, number, unsigned, string, array, Items, no_items, item}
use Rattle.serde_json.specs.Events.{items_len}
use Rattle.serde_json.specs.Find.{get}
use Rattle.std.specs.List.{AllByRecursion}
use Rattle.rd_app.specs.declared.instr.Instr.{Instr}
use Rattle.rd_app.specs.Application.{IsScript}
use Rattle.rd_script.specs.Named.{NamedApplication, runs_of}
use Rattle.rd_script.specs.Scope.{Scope, scope_of}
use Rattle.rd_script.proofs.KeywordLaws.{AreThere}
use Rattle.rd_script.specs.Values.{SayEach, is_object_with, object_with, field, number_in, array_in, new_name}
use Rattle.rd_script.specs.File.{are_texts, TaskDraft, task_keys, task_of}
use Rattle.rd_script.specs.Says.{AreTasks, AreInstrs}
use Rattle.rd_app.specs.TaskScript.{TaskScript}
use Rattle.rd_script.proofs.Steps.{bind_ok, guard_ok, then_is}
use Rattle.rd_script.proofs.ValueLaws.{object_again, field_again, name_again, array_again, limits_again, object_ok, field_ok, number_ok, array_ok, name_ok}
use Rattle.rd_text.proofs.Offered.{IsNewName}
use Rattle.rd_script.proofs.ScriptLaws.{AreScripts, is_script, length_values}

-- what a value says of a task
pub record IsDraft (d : Data) (name : List ℕ) (draft : TaskDraft) : Type 0 where
  pub keys : is_object_with task_keys d ≡ true
  pub name_at : get (codes "name") d ≡ Some (string name)
  pub priority_at : get (codes "priority") d ≡ Some (number (unsigned draft.priority))
  pub code_at : get (codes "code") d ≡ Some (array draft.code)

pub record IsDraftInLimits (draft : TaskDraft) : Type 0 where
  pub priority : draft.priority ≤ 31
  pub some : 1 ≤ items_len draft.code
  pub few : items_len draft.code ≤ 256

pub task_takes : (names : List (List ℕ)) (d : Data) (t : List ℕ × TaskDraft) → task_of names d ≡ Ok t
    → IsDraft d t.0 t.1 × IsNewName names t.0 × IsDraftInLimits t.1
unfolding task_of
task_takes names d t e =
    let keys = bind_ok (object_with task_keys d) _ t e in
    let name = bind_ok (field (codes "name") d) _ t keys.2 in
    let priority = bind_ok (field (codes "priority") d) _ t name.2 in
    let code = bind_ok (field (codes "code") d) _ t priority.2 in
    let text = bind_ok (new_name names name.0) _ t code.2 in
    let level = bind_ok (number_in 0 31 priority.0) _ t text.2 in
    let values = bind_ok (array_in 1 256 code.0) _ t level.2 in
    let made : List ℕ × TaskDraft = (text.0, record { priority = level.0; code = values.0 }) in
    let is = (guard_ok (are_texts values.0) made t _ values.2).1 in
    let named = name_ok names name.0 text.0 text.1 in
    let first = number_ok 0 31 priority.0 level.0 level.1 in
    let second = array_ok 1 256 code.0 values.0 values.1 in
    subst (λ (t : List ℕ × TaskDraft). IsDraft d t.0 t.1 × IsNewName names t.0 × IsDraftInLimits t.1) is (
      record {
        keys = object_ok task_keys d keys.0 keys.1;
        name_at = field_ok (codes "name") d name.0 name.1 ∙ ap Some named.0;
        priority_at = field_ok (codes "priority") d priority.0 priority.1 ∙ ap Some first.0;
        code_at = field_ok (codes "code") d code.0 code.1 ∙ ap Some second.0;
      },
      record { named = named.1; fresh = named.2 },
      record { priority = first.2; some = second.1; few = second.2 },
    )

-- ---- the tasks of an array

abbrev pub AreDrafts : Items → List (List ℕ) → List TaskDraft → Type 0
AreDrafts ds names drafts = SayEach IsDraft ds names drafts

-- drafts and their scripts are tasks
pub tasks_said : (scope : Scope) (ds : Items) (names : List (List ℕ)) (drafts : List TaskDraft) (scripts : List TaskScript) → AreDrafts ds names drafts
    → AreScripts scope drafts scripts → AreTasks scope ds (record { names = names; things = scripts }) × (length names ≡ length scripts)
tasks_said scope no_items [] [] [] a b = (tt, refl)
tasks_said scope no_items [] [] (s ∷ scripts) a b = absurd b
tasks_said scope no_items [] (draft ∷ drafts) scripts a b = absurd a
tasks_said scope no_items (n ∷ names) drafts scripts a b = absurd a
tasks_said scope (item d ds) [] drafts scripts a b = absurd a
tasks_said scope (item d ds) (n ∷ names) [] scripts a b = absurd a
tasks_said scope (item d ds) (n ∷ names) (draft ∷ drafts) [] a b = absurd b
tasks_said scope (item d ds) (n ∷ names) (draft ∷ drafts) (s ∷ scripts) a b =
    let rest = tasks_said scope ds names drafts scripts a.1 b.2 in (
      (
        (
          draft.code,
          record {
            keys = a.0.keys;
            name_at = a.0.name_at;
            priority_at = a.0.priority_at ∙ ap (λ (p : ℕ). Some (number (unsigned p))) b.0;
            code_at = a.0.code_at;
            code = b.1;
          },
        ),
        rest.0,
      ),
      ap suc rest.1,
    )

pub scripts_in_limits : (app : NamedApplication) (drafts : List TaskDraft) (scripts : List TaskScript) → AreThere app
    → AllByRecursion IsDraftInLimits drafts → AreScripts (scope_of app) drafts scripts → AllByRecursion (IsScript (runs_of app)) scripts
scripts_in_limits app [] [] sizes a b = tt
scripts_in_limits app [] (s ∷ scripts) sizes a b = absurd b
scripts_in_limits app (draft ∷ drafts) [] sizes a b = absurd b
scripts_in_limits app (draft ∷ drafts) (s ∷ scripts) sizes a b = (
  is_script app draft.code s sizes
      (omega (arith, b.0, a.0.priority)) a.0.some a.0.few b.1,
  scripts_in_limits app drafts scripts sizes a.1 b.2,
)

-- ---- what spells a task is read

pub task_again : (names : List (List ℕ)) (d : Data) (name : List ℕ) (draft : TaskDraft) → IsDraft d name draft → IsNewName names name → IsDraftInLimits draft
    → are_texts draft.code ≡ true → task_of names d ≡ Ok (name, draft)
unfolding task_of
task_again names d name draft h new limits texts =
    then_is (object_with task_keys d) _ tt _ (object_again task_keys d h.keys)
    (then_is (field (codes "name") d) _ (string name) _ (field_again (codes "name") d _ h.name_at)
    (then_is (field (codes "priority") d) _ (number (unsigned draft.priority)) _ (field_again (codes "priority") d _ h.priority_at)
    (then_is (field (codes "code") d) _ (array draft.code) _ (field_again (codes "code") d _ h.code_at)
    (then_is (new_name names (string name)) _ name _ (name_again names (string name) name refl new.named new.fresh)
    (then_is (number_in 0 31 (number (unsigned draft.priority))) _ draft.priority _ (limits_again 0 31 draft.priority (omega arith) limits.priority)
    (then_is (array_in 1 256 (array draft.code)) _ draft.code _ (array_again 1 256 (array draft.code) draft.code refl limits.some limits.few)
    (rw texts refl)))))))

-- drafts that can be read
pub record IsReadable (draft : TaskDraft) : Type 0 where
  pub in_limits : IsDraftInLimits draft
  pub texts : are_texts draft.code ≡ true

pub draft_again : (names : List (List ℕ)) (d : Data) (name : List ℕ) (draft : TaskDraft) → IsDraft d name draft → IsNewName names name → IsReadable draft
    → task_of names d ≡ Ok (name, draft)
draft_again names d name draft h new ok = task_again names d name draft h new ok.in_limits ok.texts

texts_said : (scope : Scope) (len : ℕ) (values : Items) (code : List Instr) → AreInstrs scope len values code → are_texts values ≡ true
texts_said scope len no_items [] h = refl
texts_said scope len no_items (i ∷ code) h = absurd h
texts_said scope len (item d ds) [] h = absurd h
texts_said scope len (item d ds) (i ∷ code) h = rw h.0.1 (texts_said scope len ds code h.1)

-- tasks are drafts and their scripts
pub tasks_split : (app : NamedApplication) (scope : Scope) (ds : Items) (names : List (List ℕ)) (scripts : List TaskScript)
    → AreTasks scope ds (record { names = names; things = scripts }) → AllByRecursion (IsScript (runs_of app)) scripts
    → (drafts : List TaskDraft) × AreDrafts ds names drafts × AllByRecursion IsReadable drafts × AreScripts scope drafts scripts
tasks_split app scope no_items [] [] h limits = ([], tt, tt, tt)
tasks_split app scope no_items [] (s ∷ scripts) h limits = absurd h
tasks_split app scope no_items (n ∷ names) scripts h limits = absurd h
tasks_split app scope (item d ds) [] scripts h limits = absurd h
tasks_split app scope (item d ds) (n ∷ names) [] h limits = absurd h
tasks_split app scope (item d ds) (n ∷ names) (s ∷ scripts) h limits =
    let values = h.0.0 in
    let said = h.0.1 in
    let rest = tasks_split app scope ds names scripts h.1 limits.1 in
    let len = length_values scope (items_len values) values s.code said.code.0 in
    let draft : TaskDraft = record { priority = s.priority; code = values } in (
      draft ∷ rest.0,
      (record { keys = said.keys; name_at = said.name_at; priority_at = said.priority_at; code_at = said.code_at }, rest.1),
      (
        record {
          in_limits = record { priority = limits.0.priority; some = omega (arith, limits.0.some); few = omega (arith, limits.0.few) };
          texts = texts_said scope (items_len values) values s.code said.code.0;
        },
        rest.2,
      ),
      (refl, said.code, rest.3),
    )
