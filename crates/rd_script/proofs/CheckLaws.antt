-- The first pass over scripts finds the fault that reading them gives.
use Rattle.std.proofs.Common.{◌≡◌, ◌∙◌, ℕ, ◌+◌, ◌-◌, ◌<◌, Bool, true, false, cond, List, [], ◌∷◌, ◌++◌, length, get_or, drop, map, Some}
use Rattle.std.proofs.Common.{arith, length-append}
use Rattle.std.proofs.Common.{Result, Ok, Err, IsOk, is_ok, refl, sym, ap, add-one, drop-cons, slice_get, option_map, unwrap_or}
use Rattle.rd_script.specs.declared.error.AppError.{AppError}
use Rattle.rd_script.specs.declared.error.AppError.TheVariants as fault
use Rattle.rd_app.specs.declared.instr.Instr.{Instr}
use Rattle.serde_json.specs.Data.{Data, Items, no_items, item}
use Rattle.serde_json.specs.Events.{items_len}
use Rattle.rd_app.specs.Application.{is_final}
use Rattle.rd_script.specs.Scope.{Scope}
use Rattle.rd_script.specs.File.{TaskDraft, instr_of_value, ends_script, instrs_after, ends, instrs_of, scripts_after, checked}
use Rattle.rd_script.specs.Spelling.{◌>>=◌}
use Rattle.rd_app.specs.TaskScript.{TaskScript}

-- what is left to check of a script, where the instruction before ends it or not
abbrev pub check_values : Scope → ℕ → Bool → Items → Result (Unit {0}) AppError
check_values scope len ended no_items = cond ended (Ok tt) (Err fault.Instr)
check_values scope len ended (item d ds) = ends_script scope len d >>= λ ended. check_values scope len ended ds

abbrev closed : List Instr → Result (List Instr) AppError
closed code = cond (ends code) (Ok code) (Err fault.Instr)

last_there : (code : List Instr) (i : Instr) → slice_get (code ++ i ∷ []) (length code) ≡ Some i
last_there [] i = refl
last_there (first ∷ code) i = last_there code i

ends-push : (code : List Instr) (i : Instr) → ends (code ++ i ∷ []) ≡ is_final i
ends-push code i =
    let last : length (code ++ i ∷ []) - 1 ≡ length code = omega (arith, length-append code (i ∷ [])) in
    ap (λ (n : ℕ). unwrap_or (option_map is_final (slice_get (code ++ i ∷ []) n)) false) last
    ∙ ap (λ o. unwrap_or (option_map is_final o) false) (last_there code i)

closed_end : (b : Bool) (code : List Instr) → cond b (Ok tt) (Err fault.Instr) ≡ checked (cond b (Ok code) (Err fault.Instr))
closed_end true code = refl
closed_end false code = refl

check_next : (r : Result Instr AppError) (scope : Scope) (len : ℕ) (before : List Instr) (ds : Items)
    → ((i : Instr) → check_values scope len (ends (before ++ i ∷ [])) ds ≡ checked (instrs_after scope len (before ++ i ∷ []) ds >>= closed))
    → ((r >>= λ i. Ok (is_final i)) >>= λ ended. check_values scope len ended ds) ≡ checked
    ((r >>= λ i. instrs_after scope len (before ++ i ∷ []) ds) >>= closed)
check_next (Ok i) scope len before ds h = ap (λ b. check_values scope len b ds) (sym (ends-push before i)) ∙ h i
check_next (Err e) scope len before ds h = refl

check_all : (scope : Scope) (len : ℕ) (before : List Instr) (ds : Items)
    → check_values scope len (ends before) ds ≡ checked (instrs_after scope len before ds >>= closed)
check_all scope len before no_items = closed_end (ends before) before
check_all scope len before (item d ds) =
    check_next (instr_of_value scope len d) scope len before ds (λ i. check_all scope len (before ++ i ∷ []) ds)

-- checking a script from its first instruction on
pub check_is : (scope : Scope) (values : Items) → check_values scope (items_len values) false values ≡ checked (instrs_of scope values)
unfolding instrs_of
check_is scope values = check_all scope (items_len values) [] values

-- ---- scripts

checked_next : (r : Result (List Instr) AppError) (scope : Scope) (drafts : List TaskDraft) (f g : List Instr → List TaskScript)
    → ((code : List Instr) → checked (scripts_after scope (f code) drafts) ≡ checked (scripts_after scope (g code) drafts))
    → checked (r >>= λ code. scripts_after scope (f code) drafts) ≡ checked (r >>= λ code. scripts_after scope (g code) drafts)
checked_next (Ok code) scope drafts f g h = h code
checked_next (Err e) scope drafts f g h = refl

-- the scripts before don't count
checked_any : (scope : Scope) (before others : List TaskScript) (drafts : List TaskDraft)
    → checked (scripts_after scope before drafts) ≡ checked (scripts_after scope others drafts)
checked_any scope before others [] = refl
checked_any scope before others (draft ∷ drafts) =
    checked_next (instrs_of scope draft.code) scope drafts _ _ (λ code. checked_any scope _ _ drafts)

first_checked : (r : Result (List Instr) AppError) (scope : Scope) (drafts : List TaskDraft) (f : List Instr → List TaskScript)
    → checked r ≡ Ok tt → checked (r >>= λ code. scripts_after scope (f code) drafts) ≡ checked (scripts_after scope [] drafts)
first_checked (Ok code) scope drafts f e = checked_any scope (f code) [] drafts
first_checked (Err d) scope drafts f e = absurd cc

-- a script without a fault
pub scripts_checked : (scope : Scope) (draft : TaskDraft) (drafts : List TaskDraft) → checked (instrs_of scope draft.code) ≡ Ok tt
    → checked (scripts_after scope [] (draft ∷ drafts)) ≡ checked (scripts_after scope [] drafts)
scripts_checked scope draft drafts e = first_checked (instrs_of scope draft.code) scope drafts _ e

-- ---- what is kept is without a fault

bind_is_ok : {A B : Type 0} (r : Result A AppError) (f : A → Result B AppError) → IsOk (r >>= f) → IsOk r
bind_is_ok (Ok x) f h = refl
bind_is_ok (Err e) f h = absurd cc

pub value_is_ok : (scope : Scope) (len : ℕ) (before : List Instr) (d : Data) (ds : Items) → IsOk (instrs_after scope len before (item d ds))
    → IsOk (instr_of_value scope len d)
value_is_ok scope len before d ds h = bind_is_ok (instr_of_value scope len d) _ h

pub values_are_ok : (scope : Scope) (values : Items) → IsOk (instrs_of scope values) → IsOk (instrs_after scope (items_len values) [] values)
unfolding instrs_of
values_are_ok scope values h = bind_is_ok (instrs_after scope (items_len values) [] values) _ h

closed_same : (b : Bool) (code : List Instr) → IsOk (cond b (Ok code) (Err fault.Instr)) → cond b (Ok code) (Err fault.Instr) ≡ Ok code
closed_same true code h = refl
closed_same false code h = absurd cc

-- the instructions that were kept are the script's
pub code_kept : (scope : Scope) (values : Items) (code : List Instr) → IsOk (instrs_of scope values)
    → instrs_after scope (items_len values) [] values ≡ Ok code → instrs_of scope values ≡ Ok code
unfolding instrs_of
code_kept scope values code ok is =
    let all : (instrs_after scope (items_len values) [] values >>= closed) ≡ closed code = ap (λ (r : Result (List Instr) AppError). r >>= closed) is in
    all ∙ closed_same (ends code) code (ap is_ok (sym all) ∙ ok)

-- the values from an index on, each as it is seen
pub map_from : {X Y : Type 0} (f : X → Y) (xs : List X) (i : ℕ) (x : X) → i < length xs → x ≡ get_or xs i x → map f (drop i xs) ≡ f x ∷ map f (drop (i + 1) xs)
map_from f xs i x lt is = rw (drop-cons xs i x, ← is, add-one i) refl
