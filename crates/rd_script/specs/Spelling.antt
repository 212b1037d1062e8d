-- How an instruction is spelled.
use Rattle.std.specs.Prelude.{ℕ, ◌≡◌, ◌-◌, ◌&&◌, ◌==◌, Bool, true, false, nat_lt, nat_le}
use Rattle.std.specs.Prelude.{if◌then◌else◌, codes}
use Rattle.std.specs.Prelude.{List, [], ◌∷◌, drop, length, slice_get, slice_index}
use Rattle.std.specs.Prelude.{Option, Some, None, IfSome, is_some, option_map, option_and_then}
use Rattle.std.specs.Prelude.{position}
use Rattle.std.specs.Prelude.{Result, Ok, Err, ok_or}
use Rattle.std.specs.Option.{option_map_or, option_or}
use Rattle.std.specs.Str.{bytes_eq}
use Rattle.rd_bytes.specs.declared.bytes.TheConstants.{MAX_BYTES}
use Rattle.rd_text.specs.Words.{number_of, bytes_of, is_name, name_of}
use Rattle.rd_notify.specs.Words.{action_of}
use Rattle.rd_notify.specs.declared.action.OnExit as taken
use Rattle.rd_notify.specs.declared.action.OnExit.TheVariants as exit
use Rattle.rd_group.specs.declared.wish.OnMet as met
use Rattle.rd_group.specs.declared.wish.OnMet.TheVariants as on_met
use Rattle.rd_group.specs.declared.wish.WaitFor as awaited
use Rattle.rd_group.specs.declared.wish.WaitFor.TheVariants as wait_for
use Rattle.rd_app.specs.declared.objects.QueueShape.{QueueShape}
use Rattle.rd_app.specs.declared.instr.Operand as operands
use Rattle.rd_app.specs.declared.instr.Operand.TheVariants as operand
use Rattle.rd_app.specs.declared.instr.Instr.{Instr}
use Rattle.rd_app.specs.declared.instr.QueueCall.{QueueCall}
use Rattle.rd_app.specs.declared.instr.QueueCall.TheVariants as call
use Rattle.rd_app.specs.Application.{max_delay, queue_call_of, IsCallFor}
use Rattle.rd_app.specs.Objects.{shape_at}
use Rattle.rd_script.specs.declared.error.AppError.{AppError}
use Rattle.rd_script.specs.declared.error.AppError.TheVariants as fault
use Rattle.rd_script.specs.declared.keyword.Parameter.{Parameter}
use Rattle.rd_script.specs.declared.keyword.Parameter.TheVariants.{Register, Number, Target}
use Rattle.rd_script.specs.declared.keyword.Parameter.TheVariants.{Data, Time, Operand, Index}
use Rattle.rd_script.specs.declared.keyword.Parameter.TheVariants.{Room, Action, OnExit, WaitFor}
use Rattle.rd_script.specs.declared.keyword.Parameter.TheVariants.{OnMet, Name}
use Rattle.rd_script.specs.declared.keyword.Keyword.{Keyword}
use Rattle.rd_script.specs.Named.{NamedObjects, names_in, shapes_of}
use Rattle.rd_script.specs.Scope.{Scope}
use Rattle.rd_script.specs.Keywords.{Makes, InstrRow, Value, keyword_of, operands_of, row_of, Written}

-- ---- what a word stands for

-- `r0` to `r7`
abbrev pub register_of : List ℕ → Option ℕ
register_of word =
    if length word == 2
    && slice_index word 0 == 114
    && nat_le 48 (slice_index word 1)
    && nat_le (slice_index word 1) 55
    then Some (slice_index word 1 - 48)
    else None

-- a number below a limit
abbrev pub number_below : ℕ → List ℕ → Option ℕ
number_below limit word =
    option_and_then (λ number. if nat_lt number limit then Some number else None) (number_of word)

-- a number, or the value of a register
abbrev pub operand_of : List ℕ → Option operands.Operand
operand_of word =
    option_or (option_map operand.Register (register_of word))
    (option_map operand.Number (number_of word))

-- a block time: `max` is the number 4,294,967,295
abbrev pub time_of : List ℕ → Option operands.Operand
time_of word =
    if bytes_eq word (codes "max") then Some (operand.Number max_delay) else operand_of word

-- how many bytes are read at the most
abbrev pub room_of : List ℕ → Option ℕ
room_of word =
    option_and_then (λ room. if nat_le 1 room && nat_le room MAX_BYTES then Some room else None)
    (number_of word)

-- what a task that takes a value leaves of it (xClearCountOnExit)
abbrev pub on_exit_of : List ℕ → Option taken.OnExit
on_exit_of word =
    if bytes_eq word (codes "clear") then Some exit.Clear
    else (if bytes_eq word (codes "dec") then Some exit.Decrement
    else None)

-- whether a task waits for any of its bits, or for all (xWaitForAllBits)
abbrev pub wait_for_of : List ℕ → Option awaited.WaitFor
wait_for_of word =
    if bytes_eq word (codes "any") then Some wait_for.Any
    else (if bytes_eq word (codes "all") then Some wait_for.All
    else None)

-- what becomes of the bits that a task waited for (xClearOnExit)
abbrev pub on_met_of : List ℕ → Option met.OnMet
on_met_of word =
    if bytes_eq word (codes "keep") then Some on_met.Keep
    else (if bytes_eq word (codes "clear") then Some on_met.Clear
    else None)

-- the number of the thing that a word names
abbrev pub index_named : List (List ℕ) → List ℕ → Option ℕ
index_named names word = option_and_then (λ name. position (bytes_eq name) names) (name_of word)

-- in that scope, in a script of that length
abbrev pub value_of : Scope → ℕ → (parameter : Parameter) → List ℕ
    → Option (Value parameter)
value_of scope len Register word = register_of word
value_of scope len Number word = number_of word
value_of scope len Target word = number_below len word
value_of scope len Data word = bytes_of word
value_of scope len Time word = time_of word
value_of scope len Operand word = operand_of word
value_of scope len Index word = number_below scope.entries word
value_of scope len Room word = room_of word
value_of scope len Action word = action_of word
value_of scope len OnExit word = on_exit_of word
value_of scope len WaitFor word = wait_for_of word
value_of scope len OnMet word = on_met_of word
value_of scope len (Name kind) word = index_named (names_in scope.objects scope.tasks kind) word

-- has it the form of such an operand, whatever it names?
abbrev pub is_formed : Scope → ℕ → Parameter → List ℕ → Bool
is_formed scope len Register word = is_some (register_of word)
is_formed scope len Number word = is_some (number_of word)
is_formed scope len Target word = is_some (number_below len word)
is_formed scope len Data word = is_some (bytes_of word)
is_formed scope len Time word = is_some (time_of word)
is_formed scope len Operand word = is_some (operand_of word)
is_formed scope len Index word = is_some (number_below scope.entries word)
is_formed scope len Room word = is_some (room_of word)
is_formed scope len Action word = is_some (action_of word)
is_formed scope len OnExit word = is_some (on_exit_of word)
is_formed scope len WaitFor word = is_some (wait_for_of word)
is_formed scope len OnMet word = is_some (on_met_of word)
is_formed scope len (Name kind) word = is_name word

-- ---- from the first word to the last

infixl 10 ◌>>=◌
abbrev pub ◌>>=◌ : {A B : Type 0} → Result A AppError → (A → Result B AppError) → Result B AppError
(Ok x) >>= f = f x
(Err e) >>= f = Err e

-- the number of the thing with that name
abbrev pub index_of : List (List ℕ) → List ℕ → Result ℕ AppError
index_of names name = ok_or (position (bytes_eq name) names) fault.Name

-- the words after a keyword that are left, in that scope, in a script of that length
pub record InstrReading : Type 0 where
  pub scope : Scope
  pub len : ℕ
  pub words : List (List ℕ)

-- have the words the forms of these operands, and are there no more?
abbrev pub are_formed : Scope → ℕ → List Parameter → List (List ℕ) → Bool
are_formed scope len [] [] = true
are_formed scope len [] (word ∷ words) = false
are_formed scope len (parameter ∷ others) [] = false
are_formed scope len (parameter ∷ others) (word ∷ words) =
    is_formed scope len parameter word && are_formed scope len others words

-- what is left behind the next word
abbrev pub after_word : InstrReading → InstrReading
after_word reading = record reading { words = drop 1 reading.words }

-- what the next word stands for, and what is left
unfoldable pub next_value : (parameter : Parameter) → InstrReading → Option (Value parameter × InstrReading)
next_value parameter reading =
    option_and_then (λ word.
    option_map (λ value. (value, after_word reading))
    (value_of reading.scope reading.len parameter word))
    (slice_get reading.words 0)

-- The operand that was read, and the reading that is left, are what reading the next word gives.
abbrev pub Takes : (parameter : Parameter) → InstrReading → Option (Value parameter) → InstrReading → Type 0
Takes parameter old (Some value) new = next_value parameter old ≡ Some (value, new)
Takes parameter old None new = next_value parameter old ≡ None

-- the instruction that the words make, if each stands for something
abbrev pub made_of : (parameters : List Parameter) → Makes parameters → InstrReading → Option Instr
made_of [] instr reading = Some instr
made_of (parameter ∷ others) make reading =
    option_and_then (λ next. made_of others (make next.0) next.1) (next_value parameter reading)

abbrev pub instr_made : InstrRow → InstrReading → Option Instr
instr_made (Written text operands make) reading = made_of operands make reading

-- is the call one for a queue of that shape? Only a queue with room for one item is overwritten.
abbrev pub is_call_for : QueueShape → QueueCall → Bool
is_call_for shape (call.Send end wait) = true
is_call_for shape (call.Receive wait) = true
is_call_for shape (call.Peek wait) = true
is_call_for shape call.Overwrite = shape.capacity == 1
is_call_for shape call.Reset = true
is_call_for shape call.Count = true
is_call_for shape call.Spaces = true
is_call_for shape (call.AddToSet queue_set) = true
is_call_for shape (call.RemoveFromSet queue_set) = true

-- the same of an instruction, over these objects: any but a call of a queue is
abbrev pub is_for_queue : NamedObjects → Instr → Bool
is_for_queue objects instr =
    option_map_or (λ of. is_call_for (shape_at (shapes_of objects) of.0) of.1)
    (queue_call_of instr) true

-- the instruction that the words make, and else the fault of words that have the forms asked for
abbrev pub instr_named : InstrRow → InstrReading → Result Instr AppError
instr_named row reading = do
  instr ← ok_or (instr_made row reading) fault.Name
  if is_for_queue reading.scope.objects instr then Ok instr else Err fault.OverwriteLength

-- The instruction of a text's words, or its fault. One in the form of a word comes before an
-- unknown name, and that before a queue that the call is not for.
unfoldable pub instr_of : Scope → ℕ → List (List ℕ) → Result Instr AppError
instr_of scope len [] = Err fault.Instr
instr_of scope len (word ∷ words) = do
  keyword ← ok_or (keyword_of word) fault.Instr
  if are_formed scope len (operands_of (row_of keyword)) words
      then instr_named (row_of keyword) (record { scope = scope; len = len; words = words })
      else Err fault.Instr

-- ---- what words spell

-- The words stand for such operands, no word is left, and this is what they make.
abbrev pub AreOperands : Scope → ℕ → (operands : List Parameter) → Makes operands
    → List (List ℕ) → Instr
    → Type 0
AreOperands scope len [] made words instr = (words ≡ []) × (made ≡ instr)
AreOperands scope len (parameter ∷ others) make words instr =
    (word : List ℕ)
    × (left : List (List ℕ))
    × (value : Value parameter)
    × (words ≡ word ∷ left)
    × (value_of scope len parameter word ≡ Some value)
    × AreOperands scope len others (make value) left instr

abbrev pub SpellsRow : Scope → ℕ → InstrRow → List (List ℕ) → Instr → Type 0
SpellsRow scope len (Written text operands make) words instr =
    (left : List (List ℕ))
    × (words ≡ text ∷ left)
    × AreOperands scope len operands make left instr

-- A call of a queue is one for that queue: only a queue with room for one item is overwritten.
abbrev pub IsForQueue : NamedObjects → Instr → Type 0
IsForQueue objects instr =
    IfSome (queue_call_of instr) (λ of. IsCallFor (shape_at (shapes_of objects) of.0) of.1)

-- The words are a keyword and its operands: in that scope, in a script of that length.
abbrev pub Spells : Scope → ℕ → List (List ℕ) → Instr → Type 0
Spells scope len words instr =
    (keyword : Keyword)
    × SpellsRow scope len (row_of keyword) words instr
    × IsForQueue scope.objects instr
