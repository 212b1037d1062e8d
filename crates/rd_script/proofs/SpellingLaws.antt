-- An instruction that is read is spelled by its words, what spells an instruction is read, and what is spelled is within its application.
use Rattle.std.proofs.Common.{◌≡◌, ◌∙◌, ℕ, zero, suc, drop, ◌-◌, ◌<◌, ◌≤◌, ◌&&◌, ◌==◌, Bool, true, false, cond, codes, List, [], ◌∷◌, length, slice_index}
use Rattle.std.proofs.Common.{Option, Some, None, Result, Ok, Err, ok_or, nat_le, nat_lt, option_map, option_and_then, position, refl, sym, ap, subst, arith}
use Rattle.std.specs.Prelude.{is_some, IfSome}
use Rattle.std.specs.Option.{option_map_or, option_or}
use Rattle.std.specs.Result.{result_ok}
use Rattle.std.specs.Str.{bytes_eq}
use Rattle.std.proofs.lemmas.Bool.Decides.{nat_tests}
use Rattle.std.proofs.lemmas.List.Quantifiers.{position-Some}
use Rattle.hex.specs.Hex.{decode_of}
use Rattle.hex.proofs.HexLemmas.{decode_of-ok}
use Rattle.rd_app.specs.declared.objects.QueueShape.{QueueShape}
use Rattle.rd_app.specs.declared.instr.Instr.{Instr}
use Rattle.rd_app.specs.declared.instr.QueueCall.{QueueCall}
use Rattle.rd_app.specs.declared.instr.QueueCall.TheVariants as call
use Rattle.rd_app.specs.declared.instr.Operand as operands
use Rattle.rd_app.specs.declared.instr.Operand.TheVariants as operand
use Rattle.rd_app.specs.Application.{IsOperand, IsCallFor, IsWithin, max_delay, queue_call_of}
use Rattle.rd_script.specs.Named.{NamedApplication, runs_of}
use Rattle.rd_app.specs.Objects.{shape_at}
use Rattle.rd_script.specs.Named.{NamedObjects, names_in, shapes_of}
use Rattle.rd_script.specs.Scope.{Scope, scope_of}
use Rattle.rd_script.specs.declared.error.AppError.TheVariants as fault
use Rattle.rd_script.specs.declared.keyword.Parameter.{Parameter}
use Rattle.rd_script.specs.declared.keyword.Parameter.TheVariants.{Register, Number, Target, Data, Time, Operand, Index, Room, Action, OnExit, WaitFor, OnMet, Name}
use Rattle.rd_script.specs.Keywords.{Makes, InstrRow, Value, keywords, keyword_of, operands_of, row_of, text_of, Written}
use Rattle.rd_script.specs.Spelling.{register_of, number_below, room_of, operand_of, time_of, index_named, index_of, value_of, is_formed, are_formed}
use Rattle.rd_script.specs.Spelling.{made_of, instr_made, is_call_for, is_for_queue, instr_named, instr_of, next_value, InstrReading, AreOperands, IsForQueue, Spells, SpellsRow}
use Rattle.rd_text.specs.Words.{bytes_of, is_name, is_some_word, name_of, number_of}
use Rattle.rd_text.proofs.Offered.{and_left, and_right}
use Rattle.rd_script.proofs.KeywordLaws.{AreThere, IsValue, MakesWithin, RowWithin, keyword_again, row_within, text_found}
use Rattle.rd_script.proofs.Steps.{bind_ok, chosen, guard_ok, ok_or_ok, then_is}

-- ---- what is read is spelled

pub then_some : {X Y : Type 0} (f : X → Option Y) (o : Option X) (y : Y) → option_and_then f o ≡ Some y → (x : X) × (o ≡ Some x) × (f x ≡ Some y)
then_some f (Some x) y e = (x, refl, e)
then_some f None y e = absurd cc

-- the call is one for the queue
call_takes : (shape : QueueShape) (made : QueueCall) → is_call_for shape made ≡ true → IsCallFor shape made
call_takes shape (call.Send end wait) e = tt
call_takes shape (call.Receive wait) e = tt
call_takes shape (call.Peek wait) e = tt
call_takes shape call.Overwrite e = grind (arith, nat_tests)
call_takes shape call.Reset e = tt
call_takes shape call.Count e = tt
call_takes shape call.Spaces e = tt
call_takes shape (call.AddToSet queue_set) e = tt
call_takes shape (call.RemoveFromSet queue_set) e = tt

-- a word that is a name, and the thing of that name
pub named_ok : (names : List (List ℕ)) (word name : List ℕ) (number : ℕ) → name_of word ≡ Some name → index_of names name ≡ Ok number
    → index_named names word ≡ Some number
named_ok names word name number is found =
    ap (λ (o : Option (List ℕ)). option_and_then (λ name. position (bytes_eq name) names) o) is
    ∙ ok_or_ok (position (bytes_eq name) names) number fault.Name found

for_queue_takes : (objects : NamedObjects) (i : Instr) → is_for_queue objects i ≡ true → IsForQueue objects i
for_queue_takes objects i = by_call (queue_call_of i)
  where
    by_call : (o : Option (ℕ × QueueCall)) → option_map_or (λ of. is_call_for (shape_at (shapes_of objects) of.0) of.1) o true ≡ true
        → IfSome o (λ of. IsCallFor (shape_at (shapes_of objects) of.0) of.1)
    by_call None e = tt
    by_call (Some of) e = call_takes (shape_at (shapes_of objects) of.0) of.1 e

-- where no word is left, none is in the form of an operand that is
pub no_words : (scope : Scope) (len : ℕ) (parameters : List Parameter) (index : ℕ) → index < length parameters → are_formed scope len (drop index parameters) [] ≡ false
no_words scope len [] index there = absurd (omega (arith, there))
no_words scope len (parameter ∷ others) zero there = refl
no_words scope len (parameter ∷ others) (suc index) there = no_words scope len others index (omega (arith, there))

-- the words that are left
reading : Scope → ℕ → List (List ℕ) → InstrReading
reading scope len words = record { scope = scope; len = len; words = words }

mapped : {X Y : Type 0} (f : X → Y) (o : Option X) (y : Y) → option_map f o ≡ Some y → (x : X) × (o ≡ Some x) × (f x ≡ y)
mapped f (Some x) y e = (x, refl, cc)
mapped f None y e = absurd cc

made_takes : (scope : Scope) (len : ℕ) (parameters : List Parameter) (make : Makes parameters) (words : List (List ℕ)) (i : Instr)
    → are_formed scope len parameters words ≡ true → made_of parameters make (reading scope len words) ≡ Some i
    → AreOperands scope len parameters make words i
unfolding next_value reading
made_takes scope len [] make [] i formed e = (refl, cc)
made_takes scope len [] make (word ∷ words) i formed e = absurd cc
made_takes scope len (parameter ∷ others) make [] i formed e = absurd cc
made_takes scope len (parameter ∷ others) make (word ∷ words) i formed e =
    let next = then_some (λ next. made_of others (make next.0) next.1) (next_value parameter (reading scope len (word ∷ words))) i e in
    let value = mapped (λ value. (value, reading scope len words)) (value_of scope len parameter word) next.0 next.1 in
    let rest = and_right (is_formed scope len parameter word) (are_formed scope len others words) formed in
    let made = subst (λ (next : Value parameter × InstrReading). made_of others (make next.0) next.1 ≡ Some i) (sym value.2) next.2 in
    (word, words, value.0, refl, value.1, made_takes scope len others (make value.0) words i rest made)

row_takes : (scope : Scope) (len : ℕ) (of : InstrRow) (words : List (List ℕ)) (i : Instr)
    → are_formed scope len (operands_of of) words ≡ true → instr_made of (reading scope len words) ≡ Some i
    → SpellsRow scope len of (text_of of ∷ words) i
row_takes scope len (Written text operands make) words i formed made = (words, refl, made_takes scope len operands make words i formed made)

pub instr_takes : (scope : Scope) (len : ℕ) (words : List (List ℕ)) (i : Instr) → instr_of scope len words ≡ Ok i → Spells scope len words i
unfolding instr_of reading
instr_takes scope len [] i e = absurd cc
instr_takes scope len (word ∷ words) i e =
    let k = bind_ok (ok_or (keyword_of word) fault.Instr) _ i e in
    let of = row_of k.0 in
    let formed = chosen (are_formed scope len (operands_of of) words) (instr_named of (reading scope len words)) fault.Instr i k.2 in
    let made = bind_ok (ok_or (instr_made of (reading scope len words)) fault.Name) _ i formed.1 in
    let fits = guard_ok (is_for_queue scope.objects made.0) made.0 i fault.OverwriteLength made.2 in
    let spelled = row_takes scope len of words made.0 formed.0 (ok_or_ok (instr_made of (reading scope len words)) made.0 fault.Name made.1) in
    let text = text_found word keywords k.0 (ok_or_ok (keyword_of word) k.0 fault.Instr k.1) in (
      k.0,
      subst (λ word. SpellsRow scope len of (word ∷ words) i) (sym text) (subst (SpellsRow scope len of (text_of of ∷ words)) fits.1 spelled),
      subst (IsForQueue scope.objects) fits.1 (for_queue_takes scope.objects made.0 fits.0),
    )

-- ---- what spells an instruction is read

call_again : (shape : QueueShape) (made : QueueCall) → IsCallFor shape made → is_call_for shape made ≡ true
call_again shape (call.Send end wait) h = refl
call_again shape (call.Receive wait) h = refl
call_again shape (call.Peek wait) h = refl
call_again shape call.Overwrite h = grind (arith, nat_tests)
call_again shape call.Reset h = refl
call_again shape call.Count h = refl
call_again shape call.Spaces h = refl
call_again shape (call.AddToSet queue_set) h = refl
call_again shape (call.RemoveFromSet queue_set) h = refl

pub index_again : (names : List (List ℕ)) (name : List ℕ) (number : ℕ) → position (bytes_eq name) names ≡ Some number → index_of names name ≡ Ok number
index_again names name number is = ap (λ o. ok_or o fault.Name) is

for_queue_again : (objects : NamedObjects) (i : Instr) → IsForQueue objects i → is_for_queue objects i ≡ true
for_queue_again objects i = by_call (queue_call_of i)
  where
    by_call : (o : Option (ℕ × QueueCall)) → IfSome o (λ of. IsCallFor (shape_at (shapes_of objects) of.0) of.1)
        → option_map_or (λ of. is_call_for (shape_at (shapes_of objects) of.0) of.1) o true ≡ true
    by_call None h = refl
    by_call (Some of) h = call_again (shape_at (shapes_of objects) of.0) of.1 h

-- what names a thing is a name
name_formed : (names : List (List ℕ)) (word : List ℕ) (number : ℕ) → index_named names word ≡ Some number → is_name word ≡ true
name_formed names word number =
    elim (is_name word) as (λ b. option_and_then (λ name. position (bytes_eq name) names) (cond b (Some word) None) ≡ Some number → b ≡ true) [
      | true ↦ λ e. refl
      | false ↦ λ e. absurd cc
    ]

formed_again : (scope : Scope) (len : ℕ) (parameter : Parameter) (word : List ℕ) (value : Value parameter)
    → value_of scope len parameter word ≡ Some value → is_formed scope len parameter word ≡ true
formed_again scope len Register word value e = ap is_some e
formed_again scope len Number word value e = ap is_some e
formed_again scope len Target word value e = ap is_some e
formed_again scope len Data word value e = ap is_some e
formed_again scope len Time word value e = ap is_some e
formed_again scope len Operand word value e = ap is_some e
formed_again scope len Index word value e = ap is_some e
formed_again scope len Room word value e = ap is_some e
formed_again scope len Action word value e = ap is_some e
formed_again scope len OnExit word value e = ap is_some e
formed_again scope len WaitFor word value e = ap is_some e
formed_again scope len OnMet word value e = ap is_some e
formed_again scope len (Name kind) word value e = name_formed (names_in scope.objects scope.tasks kind) word value e

both_true : (a b : Bool) → a ≡ true → b ≡ true → (a && b) ≡ true
both_true a b e f = rw (e, f) refl

operands_formed : (scope : Scope) (len : ℕ) (parameters : List Parameter) (make : Makes parameters) (words : List (List ℕ)) (i : Instr)
    → AreOperands scope len parameters make words i → are_formed scope len parameters words ≡ true
operands_formed scope len [] make words i h = ap (are_formed scope len []) h.0
operands_formed scope len (parameter ∷ others) make words i h =
    ap (are_formed scope len (parameter ∷ others)) h.3
    ∙ both_true (is_formed scope len parameter h.0) (are_formed scope len others h.1) (formed_again scope len parameter h.0 h.2 h.4)
    (operands_formed scope len others (make h.2) h.1 i h.5)

then_some_is : {X Y : Type 0} (f : X → Option Y) (o : Option X) (x : X) (y : Option Y) → o ≡ Some x → f x ≡ y → option_and_then f o ≡ y
then_some_is f o x y e h = ap (option_and_then f) e ∙ h

made_again : (scope : Scope) (len : ℕ) (parameters : List Parameter) (make : Makes parameters) (words : List (List ℕ)) (i : Instr)
    → AreOperands scope len parameters make words i → made_of parameters make (reading scope len words) ≡ Some i
unfolding next_value reading
made_again scope len [] make words i h = ap Some h.1
made_again scope len (parameter ∷ others) make words i h =
    let next : next_value parameter (reading scope len (h.0 ∷ h.1)) ≡ Some (h.2, reading scope len h.1) =
    ap (option_map (λ value. (value, reading scope len h.1))) h.4 in
    ap (λ words. made_of (parameter ∷ others) make (reading scope len words)) h.3
    ∙ then_some_is (λ next. made_of others (make next.0) next.1) (next_value parameter (reading scope len (h.0 ∷ h.1))) (h.2, reading scope len h.1) (Some i)
    next (made_again scope len others (make h.2) h.1 i h.5)

row_formed : (scope : Scope) (len : ℕ) (of : InstrRow) (words : List (List ℕ)) (i : Instr) → SpellsRow scope len of words i
    → (left : List (List ℕ)) × (words ≡ text_of of ∷ left) × (are_formed scope len (operands_of of) left ≡ true)
    × (instr_made of (reading scope len left) ≡ Some i)
row_formed scope len (Written text operands make) words i h =
    (h.0, h.1, operands_formed scope len operands make h.0 i h.2, made_again scope len operands make h.0 i h.2)

pub instr_again : (scope : Scope) (len : ℕ) (words : List (List ℕ)) (i : Instr) → Spells scope len words i → instr_of scope len words ≡ Ok i
unfolding instr_of reading
instr_again scope len words i h =
    let of = row_of h.0 in
    let read = row_formed scope len of words i h.1 in
    ap (instr_of scope len) read.1
    ∙ then_is (ok_or (keyword_of (text_of of)) fault.Instr) _ h.0 (Ok i) (ap (λ o. ok_or o fault.Instr) (keyword_again h.0))
    (ap (λ b. cond b (instr_named of (reading scope len read.0)) (Err fault.Instr)) read.2
    ∙ then_is (ok_or (instr_made of (reading scope len read.0)) fault.Name) _ i (Ok i) (ap (λ o. ok_or o fault.Name) read.3)
    (ap (λ b. cond b (Ok i) (Err fault.OverwriteLength)) (for_queue_again scope.objects i h.2)))

-- ---- what is spelled is within its application

-- the value that a test lets through
some_if : {X : Type 0} (b : Bool) (x y : X) → cond b (Some x) None ≡ Some y → (b ≡ true) × (x ≡ y)
some_if true x y e = (refl, cc)
some_if false x y e = absurd cc

register_small : (word : List ℕ) (register : ℕ) → register_of word ≡ Some register → register < 8
register_small word register e =
    let h =
    some_if (length word == 2 && slice_index word 0 == 114 && nat_le 48 (slice_index word 1) && nat_le (slice_index word 1) 55)
    (slice_index word 1 - 48) register e in
    let last : nat_le (slice_index word 1) 55 ≡ true =
    and_right (length word == 2 && slice_index word 0 == 114 && nat_le 48 (slice_index word 1)) (nat_le (slice_index word 1) 55) h.0 in
    let small : slice_index word 1 ≤ 55 = grind (arith, nat_tests) in
    omega (arith, h.1)

below_small : (len : ℕ) (word : List ℕ) (target : ℕ) → number_below len word ≡ Some target → target < len
below_small len word target e =
    let n = then_some (λ target. cond (nat_lt target len) (Some target) None) (number_of word) target e in
    let h = some_if (nat_lt n.0 len) n.0 target n.2 in
    let below : n.0 < len = grind (arith, nat_tests) in
    omega (arith, h.1)

room_small : (word : List ℕ) (room : ℕ) → room_of word ≡ Some room → (0 < room) × (room ≤ 256)
room_small word room e =
    let n = then_some (λ room. cond (nat_le 1 room && nat_le room 256) (Some room) None) (number_of word) room e in
    let h = some_if (nat_le 1 n.0 && nat_le n.0 256) n.0 room n.2 in
    let some : nat_le 1 n.0 ≡ true = and_left (nat_le 1 n.0) (nat_le n.0 256) h.0 in
    let few : nat_le n.0 256 ≡ true = and_right (nat_le 1 n.0) (nat_le n.0 256) h.0 in
    let least : 1 ≤ n.0 = grind (arith, nat_tests) in
    let most : n.0 ≤ 256 = grind (arith, nat_tests) in
    (omega (arith, h.1, least), omega (arith, h.1, most))

pub index_there : (names : List (List ℕ)) (word : List ℕ) (number : ℕ) → index_named names word ≡ Some number → number < length names
index_there names word number e =
    let name = then_some (λ name. position (bytes_eq name) names) (name_of word) number e in
    (position-Some (bytes_eq name.0) names number [] name.2).0

option_if : {X : Type 0} (b : Bool) (o : Option X) (y : X) → cond b o None ≡ Some y → (b ≡ true) × (o ≡ Some y)
option_if true o y e = (refl, e)
option_if false o y e = absurd cc

ok_some : {X E : Type 0} (r : Result X E) (x : X) → result_ok r ≡ Some x → r ≡ Ok x
ok_some (Ok y) x e = let is : y ≡ x = cc in ap Ok is
ok_some (Err d) x e = absurd cc

decoded_few : (word bytes : List ℕ) → cond (is_some_word word && nat_le (length word) 512) (result_ok (decode_of word)) None ≡ Some bytes → length bytes ≤ 256
decoded_few word bytes e =
    let h = option_if (is_some_word word && nat_le (length word) 512) (result_ok (decode_of word)) bytes e in
    let long : nat_le (length word) 512 ≡ true = and_right (is_some_word word) _ h.0 in
    let few : length word ≤ 512 = grind (arith, nat_tests) in
    let twice = (decode_of-ok word bytes (ok_some (decode_of word) bytes h.1)).2 in
    omega (arith, twice)

none_few : (bytes : List ℕ) → Some [] ≡ Some bytes → length bytes ≤ 256
none_few bytes e = let is : [] ≡ bytes = cc in omega (arith, ap length is)

bytes_few : (word bytes : List ℕ) → bytes_of word ≡ Some bytes → length bytes ≤ 256
bytes_few word bytes =
    elim (bytes_eq word (codes "-")) as
    (λ b. cond b (Some []) (cond (is_some_word word && nat_le (length word) 512) (result_ok (decode_of word)) None) ≡ Some bytes → length bytes ≤ 256) [
      | true ↦ none_few bytes
      | false ↦ decoded_few word bytes
    ]

-- an operand that is a register, or otherwise a number
either_there : (register value : Option ℕ) (o : operands.Operand) → ((r : ℕ) → register ≡ Some r → r < 8)
    → option_or (option_map operand.Register register) (option_map operand.Number value) ≡ Some o → IsOperand o
either_there (Some r) value o small e = let is : operand.Register r ≡ o = cc in subst IsOperand is (small r refl)
either_there None (Some n) o small e = let is : operand.Number n ≡ o = cc in subst IsOperand is tt
either_there None None o small e = absurd cc

max_there : (o : operands.Operand) → Some (operand.Number max_delay) ≡ Some o → IsOperand o
max_there o e = let is : operand.Number max_delay ≡ o = cc in subst IsOperand is tt

operand_there : (word : List ℕ) (o : operands.Operand) → operand_of word ≡ Some o → IsOperand o
operand_there word o = either_there (register_of word) (number_of word) o (register_small word)

time_there : (word : List ℕ) (wait : operands.Operand) → time_of word ≡ Some wait → IsOperand wait
time_there word wait =
    elim (bytes_eq word (codes "max")) as (λ b. cond b (Some (operand.Number max_delay)) (operand_of word) ≡ Some wait → IsOperand wait) [
      | true ↦ max_there wait
      | false ↦ operand_there word wait
    ]

value_there : (app : NamedApplication) (len : ℕ) (parameter : Parameter) (word : List ℕ) (value : Value parameter)
    → value_of (scope_of app) len parameter word ≡ Some value → IsValue app len parameter value
value_there app len Register word value e = register_small word value e
value_there app len Number word value e = tt
value_there app len Target word value e = below_small len word value e
value_there app len Data word value e = bytes_few word value e
value_there app len Time word value e = time_there word value e
value_there app len Operand word value e = operand_there word value e
value_there app len Index word value e = below_small app.entries word value e
value_there app len Room word value e = room_small word value e
value_there app len Action word value e = tt
value_there app len OnExit word value e = tt
value_there app len WaitFor word value e = tt
value_there app len OnMet word value e = tt
value_there app len (Name kind) word value e = index_there (names_in app.objects app.tasks.names kind) word value e

operands_within : (app : NamedApplication) (len : ℕ) (parameters : List Parameter) (make : Makes parameters) (words : List (List ℕ)) (i : Instr)
    → MakesWithin app len parameters make → AreOperands (scope_of app) len parameters make words i → IsForQueue app.objects i → IsWithin (runs_of app) len i
operands_within app len [] make words i within h fits = subst (λ i. IsForQueue app.objects i → IsWithin (runs_of app) len i) h.1 within fits
operands_within app len (parameter ∷ others) make words i within h fits =
    let there = value_there app len parameter h.0 h.2 h.4 in
    operands_within app len others (make h.2) h.1 i (within h.2 there) h.5 fits

spelled_within : (app : NamedApplication) (len : ℕ) (of : InstrRow) (words : List (List ℕ)) (i : Instr)
    → RowWithin app len of → SpellsRow (scope_of app) len of words i → IsForQueue app.objects i → IsWithin (runs_of app) len i
spelled_within app len (Written text operands make) words i within h fits = operands_within app len operands make h.0 i within h.2 fits

pub spells_within : (app : NamedApplication) (len : ℕ) (words : List (List ℕ)) (i : Instr) → AreThere app
    → Spells (scope_of app) len words i → IsWithin (runs_of app) len i
spells_within app len words i sizes h = spelled_within app len (row_of h.0) words i (row_within app len sizes h.0) h.1 h.2
