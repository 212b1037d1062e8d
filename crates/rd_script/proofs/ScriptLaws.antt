-- Scripts that are read are spelled by their texts, and what spells a script is read.
use Rattle.std.proofs.Common.{◌≡◌, ◌∙◌, ℕ, zero, suc, ◌-◌, ◌≤◌, true, false, List, [], ◌∷◌, ◌++◌}
use Rattle.std.proofs.Common.{length, Some, Ok, ok_or, refl, sym, ap}
use Rattle.std.proofs.Common.{subst, append_assoc, arith}
use Rattle.rd_app.specs.declared.instr.Instr.{Instr}
use Rattle.rd_app.specs.declared.instr.Instr.TheVariants.{Local}
use Rattle.rd_app.specs.declared.instr.LocalInstr.TheVariants as local
use Rattle.rd_app.specs.Application.{IsWithin, IsScript, is_final}
use Rattle.rd_script.specs.Named.{NamedApplication, runs_of}
use Rattle.rd_script.specs.Scope.{Scope, scope_of}
use Rattle.rd_script.proofs.KeywordLaws.{AreThere}
use Rattle.rd_script.specs.File.{TaskDraft, instr_of_value, instrs_after, ends, instrs_of, scripts_after}
use Rattle.rd_script.specs.Says.{IsInstr, AreInstrs, IsCode}
use Rattle.rd_script.specs.Spelling.{◌>>=◌}
use Rattle.serde_json.specs.Data.{Data, null, boolean, number, string, array, object, Items, no_items, item}
use Rattle.serde_json.specs.Events.{items_len}
use Rattle.serde_json.specs.Find.{as_str}
use Rattle.std.specs.List.{AllByRecursion, slice_get}
use Rattle.std.specs.Prelude.{option_map, unwrap_or, slice_index_or}
use Rattle.std.proofs.lemmas.List.{append-nil}
use Rattle.std.proofs.lemmas.List.Elements.{All-from_recursion}
use Rattle.rd_app.specs.TaskScript.{TaskScript}
use Rattle.rd_text.specs.Words.{words_of}
use Rattle.rd_script.proofs.SpellingLaws.{instr_takes, instr_again, spells_within}
use Rattle.rd_script.proofs.Steps.{bind_ok, guard_ok, ok_or_ok}

-- ---- the texts of a task

pub text_is : (d : Data) (text : List ℕ) → as_str d ≡ Some text → d ≡ string text
text_is null text e = absurd cc
text_is (boolean b) text e = absurd cc
text_is (number n) text e = absurd cc
text_is (string s) text e = let is : s ≡ text = cc in ap string is
text_is (array ds) text e = absurd cc
text_is (object ms) text e = absurd cc

value_takes : (scope : Scope) (len : ℕ) (d : Data) (i : Instr) → instr_of_value scope len d ≡ Ok i → IsInstr scope len d i
value_takes scope len d i e =
    let text = bind_ok (ok_or (as_str d) _) _ i e in
    (text.0, text_is d text.0 (ok_or_ok (as_str d) text.0 _ text.1), instr_takes scope len (words_of text.0) i text.2)

value_again : (scope : Scope) (len : ℕ) (d : Data) (i : Instr) → IsInstr scope len d i → instr_of_value scope len d ≡ Ok i
value_again scope len d i h = ap (instr_of_value scope len) h.1 ∙ instr_again scope len (words_of h.0) i h.2

values_take : (scope : Scope) (len : ℕ) (ds : Items) (before code : List Instr) → instrs_after scope len before ds ≡ Ok code
    → (more : List Instr) × (code ≡ before ++ more) × AreInstrs scope len ds more
values_take scope len no_items before code e = let is : before ≡ code = cc in ([], sym is ∙ sym (append-nil before), tt)
values_take scope len (item d ds) before code e =
    let first = bind_ok (instr_of_value scope len d) _ code e in
    let rest = values_take scope len ds (before ++ first.0 ∷ []) code first.2 in
    (first.0 ∷ rest.0, rest.1 ∙ append_assoc before (first.0 ∷ []) rest.0, (value_takes scope len d first.0 first.1, rest.2))

values_again : (scope : Scope) (len : ℕ) (ds : Items) (before more : List Instr) → AreInstrs scope len ds more
    → instrs_after scope len before ds ≡ Ok (before ++ more)
values_again scope len no_items before [] h = ap Ok (sym (append-nil before))
values_again scope len no_items before (i ∷ more) h = absurd h
values_again scope len (item d ds) before [] h = absurd h
values_again scope len (item d ds) before (i ∷ more) h =
    ap (λ r. r >>= λ i. instrs_after scope len (before ++ i ∷ []) ds) (value_again scope len d i h.0)
    ∙ values_again scope len ds (before ++ i ∷ []) more h.1 ∙ ap Ok (append_assoc before (i ∷ []) more)

pub length_values : (scope : Scope) (len : ℕ) (ds : Items) (code : List Instr) → AreInstrs scope len ds code → length code ≡ items_len ds
length_values scope len no_items [] h = refl
length_values scope len no_items (i ∷ code) h = absurd h
length_values scope len (item d ds) [] h = absurd h
length_values scope len (item d ds) (i ∷ code) h = ap suc (length_values scope len ds code h.1)

within_values : (app : NamedApplication) (len : ℕ) (ds : Items) (code : List Instr) → AreThere app
    → AreInstrs (scope_of app) len ds code → AllByRecursion (IsWithin (runs_of app) len) code
within_values app len no_items [] sizes h = tt
within_values app len no_items (i ∷ code) sizes h = absurd h
within_values app len (item d ds) [] sizes h = absurd h
within_values app len (item d ds) (i ∷ code) sizes h =
    (spells_within app len (words_of h.0.0) i sizes h.0.2, within_values app len ds code sizes h.1)

pub code_takes : (scope : Scope) (values : Items) (code : List Instr) → instrs_of scope values ≡ Ok code → IsCode scope values code
unfolding instrs_of
code_takes scope values code e =
    let all = bind_ok (instrs_after scope (items_len values) [] values) _ code e in
    let taken = values_take scope (items_len values) values [] all.0 all.1 in
    let end = guard_ok (ends all.0) all.0 code _ all.2 in
    subst (λ (code : List Instr). AreInstrs scope (items_len values) values code × (ends code ≡ true)) end.1
    (subst (AreInstrs scope (items_len values) values) (sym taken.1) taken.2, end.0)

pub code_again : (scope : Scope) (values : Items) (code : List Instr) → IsCode scope values code → instrs_of scope values ≡ Ok code
unfolding instrs_of
code_again scope values code h = rw (values_again scope (items_len values) values [] code h.0, h.1) refl

-- the scripts of drafts
abbrev pub AreScripts : Scope → List TaskDraft → List TaskScript → Type 0
AreScripts scope [] [] = Unit {0}
AreScripts scope (draft ∷ drafts) (script ∷ scripts) =
    (draft.priority ≡ script.priority) × IsCode scope draft.code script.code × AreScripts scope drafts scripts
AreScripts scope _ _ = ⊥

pub scripts_take : (scope : Scope) (drafts : List TaskDraft) (before scripts : List TaskScript) → scripts_after scope before drafts ≡ Ok scripts
    → (more : List TaskScript) × (scripts ≡ before ++ more) × AreScripts scope drafts more
scripts_take scope [] before scripts e = let is : before ≡ scripts = cc in ([], sym is ∙ sym (append-nil before), tt)
scripts_take scope (draft ∷ drafts) before scripts e =
    let code = bind_ok (instrs_of scope draft.code) _ scripts e in
    let script : TaskScript = record { priority = draft.priority; code = code.0 } in
    let rest = scripts_take scope drafts (before ++ script ∷ []) scripts code.2 in
    (script ∷ rest.0, rest.1 ∙ append_assoc before (script ∷ []) rest.0, (refl, code_takes scope draft.code code.0 code.1, rest.2))

pub scripts_again : (scope : Scope) (drafts : List TaskDraft) (before more : List TaskScript) → AreScripts scope drafts more
    → scripts_after scope before drafts ≡ Ok (before ++ more)
scripts_again scope [] before [] h = ap Ok (sym (append-nil before))
scripts_again scope [] before (s ∷ more) h = absurd h
scripts_again scope (draft ∷ drafts) before [] h = absurd h
scripts_again scope (draft ∷ drafts) before (script ∷ more) h =
    let same : record { priority = draft.priority; code = script.code } ≡ script = ap (λ (p : ℕ). record { priority = p; code = script.code }) h.0 in
    ap (λ r. r >>= λ code. scripts_after scope (before ++ record { priority = draft.priority; code = code } ∷ []) drafts)
    (code_again scope draft.code script.code h.1)
    ∙ ap (λ (s : TaskScript). scripts_after scope (before ++ s ∷ []) drafts) same
    ∙ scripts_again scope drafts (before ++ script ∷ []) more h.2 ∙ ap Ok (append_assoc before (script ∷ []) more)

last_final : (code : List Instr) (k : ℕ) → unwrap_or (option_map is_final (slice_get code k)) false ≡ true
    → is_final (slice_index_or code k (Local local.End)) ≡ true
last_final [] k e = refl
last_final (i ∷ code) zero e = e
last_final (i ∷ code) (suc k) e = last_final code k e

pub is_script : (app : NamedApplication) (values : Items) (script : TaskScript) → AreThere app → script.priority ≤ 31
    → 1 ≤ items_len values → items_len values ≤ 256 → IsCode (scope_of app) values script.code → IsScript (runs_of app) script
is_script app values script sizes low some few h =
    let len = length_values (scope_of app) (items_len values) values script.code h.0 in
    let within = within_values app (items_len values) values script.code sizes h.0 in
    record {
      priority = low;
      some = omega arith;
      few = omega arith;
      within = All-from_recursion (IsWithin (runs_of app) (length script.code)) script.code
          (subst (λ (n : ℕ). AllByRecursion (IsWithin (runs_of app) n) script.code) (sym len) within);
      ends = last_final script.code (length script.code - 1) h.1;
    }
