-- What a command is bound to is in the application.
use Rattle.std.proofs.Common.{◌≡◌, ◌∙◌, ℕ, ◌<◌, cond, List, [], ◌∷◌, length, nat_eq, nat_lt, Some, None, position, option_map, slice_get, refl, sym, ap, subst, arith}
use Rattle.std.specs.Prelude.{IfOk, Result, Ok, Err}
use Rattle.std.specs.Result.{result_ok}
use Rattle.std.specs.Str.{bytes_eq}
use Rattle.std.proofs.lemmas.Bool.Decides.{nat_tests}
use Rattle.std.proofs.lemmas.List.Quantifiers.{position-Some}
use Rattle.rd_text.specs.declared.kind.Kind.{Kind}
use Rattle.rd_text.specs.Words.{name_of, number_of}
use Rattle.rd_names.specs.Apps.{AppView, AreAsMany}
use Rattle.rd_names.specs.Names.{names_of}
use Rattle.rd_condition.specs.declared.condition.Condition.{Condition}
use Rattle.rd_condition.specs.Conditions.{IsConditionOf}
use Rattle.rd_moves.specs.declared.request.Search.{Search}
use Rattle.rd_moves.specs.Requests.{IsRequestOf}
use Rattle.rd_command.specs.declared.binding.Bound.{Bound}
use Rattle.rd_command.specs.declared.binding.Bound.TheVariants as bound
use Rattle.rd_command.specs.declared.keyword.AmountKeyword.{AmountKeyword}
use Rattle.rd_command.specs.declared.keyword.AmountKeyword.TheVariants as compared
use Rattle.rd_command.specs.declared.keyword.ConditionKeyword.{ConditionKeyword}
use Rattle.rd_command.specs.declared.keyword.ConditionKeyword.TheVariants.{Compares, InPhase}
use Rattle.rd_command.specs.declared.keyword.EditKeyword.{EditKeyword}
use Rattle.rd_command.specs.declared.keyword.EditKeyword.TheVariants as poked
use Rattle.rd_command.specs.declared.keyword.InterruptKeyword.{InterruptKeyword}
use Rattle.rd_command.specs.declared.keyword.InterruptKeyword.TheVariants as raised
use Rattle.rd_command.specs.declared.keyword.CommandKeyword.{CommandKeyword}
use Rattle.rd_command.specs.declared.keyword.CommandKeyword.TheVariants.{Ask, AskByWatch, TakeWheel, GiveWheel, Watch, Unwatch, Show, Look}
use Rattle.rd_command.specs.declared.keyword.CommandKeyword.TheVariants as keyword
use Rattle.rd_command.specs.declared.keyword.RequestKeyword.{RequestKeyword}
use Rattle.rd_command.specs.declared.keyword.RequestKeyword.TheVariants as asked
use Rattle.rd_command.specs.declared.keyword.SearchKeyword.{SearchKeyword}
use Rattle.rd_command.specs.declared.keyword.SearchKeyword.TheVariants as sought
use Rattle.rd_command.specs.declared.view.View.TheVariants.{Thing, Cores, Overview}
use Rattle.rd_command.specs.declared.keyword.CommandParameter.{CommandParameter}
use Rattle.rd_command.specs.declared.keyword.CommandParameter.TheVariants.{Core, Count, Register, Index, Number, Data, Operator, Phase, Action, Name}
use Rattle.rd_command.specs.declared.keyword.CommandParameter.TheVariants as parameter
use Rattle.rd_command.specs.Bindings.{IsBoundOf, IsWatch, KnownView, Reading, after_word, bound_by, bound_of, by_watch, condition_made, known_of, made_by, made_from, made_of, next_condition, next_keyword, next_value, number_below, number_named, value_of}
use Rattle.rd_command.specs.Commands.{CommandView}
use Rattle.rd_command.specs.Forms.{watch_number, watch_of}
use Rattle.rd_command.specs.Keywords.{ConditionRow, Makes, MakesFrom, Operands, Plain, CommandRow, Spelled, Value, WithCondition, Written, condition_keyword_of, condition_row, request_row, search_row, thing_row, unwatch_row, watch_row}
use Rattle.rd_command.proofs.Steps.{mapped, option_if, some_if, then_some}

-- what an operand of that kind may stand for
abbrev IsValue : KnownView → (parameter : CommandParameter) → Value parameter → Type 0
IsValue known Core core = core < known.cores
IsValue known Count count = Unit {0}
IsValue known Register register = register < 8
IsValue known Index index = index < known.entries
IsValue known Number number = Unit {0}
IsValue known Data bytes = Unit {0}
IsValue known Operator operator = Unit {0}
IsValue known Phase name = Unit {0}
IsValue known Action action = Unit {0}
IsValue known parameter.Watch watch = IsWatch watch
IsValue known (Name kind) number = number < length (names_of kind known.names)

below_small : (limit : ℕ) (word : List ℕ) (number : ℕ) → number_below limit word ≡ Some number → number < limit
below_small limit word number e =
    let n = then_some (λ number. cond (nat_lt number limit) (Some number) None) (number_of word) number e in
    let h = some_if (nat_lt n.0 limit) n.0 number n.2 in
    let below : n.0 < limit = grind (arith, nat_tests) in
    omega (arith, h.1)

watch_number_small : (digits : List ℕ) (watch : ℕ) → watch_number digits ≡ Some watch → IsWatch watch
watch_number_small digits watch e = below_small 16 digits watch e

watch_small : (word : List ℕ) (watch : ℕ) → watch_of word ≡ Some watch → IsWatch watch
watch_small [] watch e = absurd cc
watch_small (first ∷ digits) watch e = watch_number_small digits watch (option_if (nat_eq first 119) (watch_number digits) watch e).1

named_there : (known : KnownView) (kind : Kind) (word : List ℕ) (number : ℕ) → number_named known.names kind word ≡ Some number → number < length (names_of kind known.names)
named_there known kind word number e =
    let name = then_some (λ name. position (bytes_eq name) (names_of kind known.names)) (name_of word) number e in
    (position-Some (bytes_eq name.0) (names_of kind known.names) number [] name.2).0

value_there : (known : KnownView) (parameter : CommandParameter) (word : List ℕ) (value : Value parameter) → value_of known parameter word ≡ Some value
    → IsValue known parameter value
value_there known Core word value e = below_small known.cores word value e
value_there known Count word value e = tt
value_there known Register word value e = below_small 8 word value e
value_there known Index word value e = below_small known.entries word value e
value_there known Number word value e = tt
value_there known Data word value e = tt
value_there known Operator word value e = tt
value_there known Phase word value e = tt
value_there known Action word value e = tt
value_there known parameter.Watch word value e = watch_small word value e
value_there known (Name kind) word value e = named_there known kind word value e

-- what the next word stands for is there, and the words are read in the same application
next_there : (parameter : CommandParameter) (reading : Reading) (next : Value parameter × Reading) → next_value parameter reading ≡ Some next
    → IsValue reading.known parameter next.0 × (reading.known ≡ next.1.known)
unfolding next_value
next_there parameter reading next e =
    let word = then_some (λ word. option_map (λ value. (value, after_word reading)) (value_of reading.known parameter word)) (slice_get reading.words 0) next e in
    let value = mapped (λ value. (value, after_word reading)) (value_of reading.known parameter word.0) next word.2 in
    subst (λ (next : Value parameter × Reading). IsValue reading.known parameter next.0 × (reading.known ≡ next.1.known)) value.2
    (value_there reading.known parameter word.0 value.0 value.1, refl)

-- Whatever the operands stand for, what they make is good.
abbrev MakesGood : KnownView → (Made : Type 0) → (Made → Type 0) → (parameters : List CommandParameter) → Makes Made parameters → Type 0
MakesGood known Made Good [] made = Good made
MakesGood known Made Good (parameter ∷ others) make =
    (value : Value parameter) → IsValue known parameter value → MakesGood known Made Good others (make value)

made_good : (known : KnownView) (Made : Type 0) (Good : Made → Type 0) (parameters : List CommandParameter) (make : Makes Made parameters) (reading : Reading)
    (made : Made × Reading) → known ≡ reading.known → MakesGood known Made Good parameters make → made_of Made parameters make reading ≡ Some made
    → Good made.0 × (known ≡ made.1.known)
made_good known Made Good [] make reading made same good e =
    let is : (make, reading) ≡ made = cc in subst (λ (made : Made × Reading). Good made.0 × (known ≡ made.1.known)) is (good, same)
made_good known Made Good (parameter ∷ others) make reading made same good e =
    let next = then_some (λ next. made_of Made others (make next.0) next.1) (next_value parameter reading) made e in
    let there = next_there parameter reading next.0 next.1 in
    let value = subst (λ (known : KnownView). IsValue known parameter next.0.0) (sym same) there.0 in
    made_good known Made Good others (make next.0.0) next.0.1 made (same ∙ there.1) (good next.0.0 value) next.2

-- ---- conditions

-- each thing has its name
abbrev pub AreThere : AppView → Type 0
AreThere app = AreAsMany app.runs app.names

queue_there : (app : AppView) → AreThere app → (queue : ℕ) → queue < length app.names.queues → queue < length app.runs.objects.queues
queue_there app there queue named = rw (← there.queues) named

stream_there : (app : AppView) → AreThere app → (stream : ℕ) → stream < length app.names.streams → stream < length app.runs.objects.streams
stream_there app there stream named = rw (← there.streams) named

message_there : (app : AppView) → AreThere app → (message : ℕ) → message < length app.names.messages → message < length app.runs.objects.messages
message_there app there message named = rw (← there.messages) named

group_there : (app : AppView) → AreThere app → (group : ℕ) → group < length app.names.groups → group < length app.runs.objects.groups
group_there app there group named = rw (← there.groups) named

task_there : (app : AppView) → AreThere app → (task : ℕ) → task < length app.names.tasks → task < length app.runs.tasks
task_there app there task named = rw (← there.tasks) named

abbrev ConditionGood : AppView → ConditionRow → Type 0
ConditionGood app (Written text parameters make) = MakesGood (known_of app) Condition (IsConditionOf app.runs) parameters make

amount_good : (app : AppView) → AreThere app → (k : AmountKeyword) → ConditionGood app (condition_row (Compares k))
amount_good app there compared.Items = λ queue named operator _ bound _. queue_there app there queue named
amount_good app there compared.Bytes = λ stream named operator _ bound _. stream_there app there stream named
amount_good app there compared.Messages = λ message named operator _ bound _. message_there app there message named
amount_good app there compared.Bits = λ group named operator _ bound _. group_there app there group named
amount_good app there compared.Register = λ task named register few operator _ bound _. (task_there app there task named, few)
amount_good app there compared.Pc = λ task named operator _ bound _. task_there app there task named
amount_good app there compared.Value = λ task named index few operator _ bound _. (task_there app there task named, few)
amount_good app there compared.Tick = λ operator _ bound _. tt

condition_good : (app : AppView) → AreThere app → (k : ConditionKeyword) → ConditionGood app (condition_row k)
condition_good app there (Compares k) = amount_good app there k
condition_good app there InPhase = λ task named name _. task_there app there task named

condition_made_good : (app : AppView) (of : ConditionRow) (reading : Reading) (found : Condition × Reading) → known_of app ≡ reading.known
    → ConditionGood app of → condition_made of reading ≡ Some found → IsConditionOf app.runs found.0 × (known_of app ≡ found.1.known)
condition_made_good app (Written text parameters make) reading found same good e =
    made_good (known_of app) Condition (IsConditionOf app.runs) parameters make reading found same good e

condition_there : (app : AppView) (reading : Reading) (found : Condition × Reading) → AreThere app → known_of app ≡ reading.known
    → next_condition reading ≡ Some found → IsConditionOf app.runs found.0 × (known_of app ≡ found.1.known)
unfolding next_keyword
condition_there app reading found there same e =
    let next = then_some (λ next. condition_made (condition_row next.0) next.1) (next_keyword reading) found e in
    let word = then_some (λ word. option_map (λ keyword. (keyword, after_word reading)) (condition_keyword_of word)) (slice_get reading.words 0) next.0 next.1 in
    let keyword = mapped (λ keyword. (keyword, after_word reading)) (condition_keyword_of word.0) next.0 word.2 in
    let left : reading.known ≡ next.0.1.known = ap (λ (next : ConditionKeyword × Reading). next.1.known) keyword.2 in
    condition_made_good app (condition_row next.0.0) next.0.1 found (same ∙ left) (condition_good app there next.0.0) next.2

-- ---- commands

-- Whatever the operands of a row stand for in the application, what they make is good.
abbrev OperandsGood : AppView → (Made : Type 0) → (Made → Type 0) → (operands : Operands) → MakesFrom Made operands → Type 0
OperandsGood app Made Good (Plain parameters) make = MakesGood (known_of app) Made Good parameters make
OperandsGood app Made Good (WithCondition parameters) make =
    (condition : Condition) → IsConditionOf app.runs condition → MakesGood (known_of app) Made Good parameters (make condition)

abbrev RowGood : {Made : Type 0} → AppView → (Made → Type 0) → CommandRow Made → Type 0
RowGood {Made} app Good (Spelled spelling make) = OperandsGood app Made Good spelling.operands make

poke_good : (app : AppView) → AreThere app → (k : EditKeyword) → RowGood app (IsRequestOf app.runs) (request_row (asked.Poke k))
poke_good app there poked.Register = λ task named register few value _. (task_there app there task named, few)
poke_good app there poked.Data = λ task named bytes _. task_there app there task named
poke_good app there poked.Pc = λ task named pc _. task_there app there task named
poke_good app there poked.Value = λ task named index few value _. (task_there app there task named, few)
poke_good app there poked.Bits = λ group named bits _. group_there app there group named
poke_good app there poked.Item = λ queue named index _ bytes _. queue_there app there queue named
poke_good app there poked.Byte = λ stream named index _ value _. stream_there app there stream named

raise_good : (app : AppView) → AreThere app → (k : InterruptKeyword) → RowGood app (IsRequestOf app.runs) (request_row (asked.Interrupt k))
raise_good app there raised.Send = λ queue named bytes _. queue_there app there queue named
raise_good app there raised.Notify = λ task named index few value _ action _. (task_there app there task named, few)

request_good : (app : AppView) → AreThere app → (k : RequestKeyword) → RowGood app (IsRequestOf app.runs) (request_row k)
request_good app there asked.Step = λ core few. few
request_good app there asked.Tick = tt
request_good app there asked.Back = λ count _. tt
request_good app there asked.Forward = λ count _. tt
request_good app there asked.Redo = λ count _. tt
request_good app there asked.Until = λ condition holds count _. holds
request_good app there asked.BackUntil = λ condition holds. holds
request_good app there asked.Trim = λ keep _. tt
request_good app there (asked.Poke k) = poke_good app there k
request_good app there (asked.Interrupt k) = raise_good app there k

search_good : (app : AppView) → (k : SearchKeyword) → RowGood app (λ (found : ℕ × Search). IsWatch found.0) (search_row k)
search_good app sought.Until = λ watch few count _. few
search_good app sought.BackUntil = λ watch few. few

from_good : (app : AppView) (Made : Type 0) (Good : Made → Type 0) (operands : Operands) (make : MakesFrom Made operands) (reading : Reading) (made : Made)
    → AreThere app → known_of app ≡ reading.known → OperandsGood app Made Good operands make → made_from Made operands make reading ≡ Some made → Good made
from_good app Made Good (Plain parameters) make reading made there same good e =
    let found = mapped (λ made. made.0) (made_of Made parameters make reading) made e in
    subst Good found.2 (made_good (known_of app) Made Good parameters make reading found.0 same good found.1).0
from_good app Made Good (WithCondition parameters) make reading made there same good e =
    let found =
    then_some (λ found. option_map (λ made. made.0) (made_of Made parameters (make found.0) found.1)) (next_condition reading) made e in
    let holds = condition_there app reading found.0 there same found.1 in
    let last = mapped (λ made. made.0) (made_of Made parameters (make found.0.0) found.0.1) made found.2 in
    subst Good last.2 (made_good (known_of app) Made Good parameters (make found.0.0) found.0.1 last.0 holds.1 (good found.0.0 holds.0) last.1).0

row_made : {Made : Type 0} (app : AppView) (Good : Made → Type 0) (of : CommandRow Made) (reading : Reading) (made : Made) → AreThere app → known_of app ≡ reading.known
    → RowGood app Good of → made_by of reading ≡ Some made → Good made
row_made {Made} app Good (Spelled spelling make) reading made there same good e = from_good app Made Good spelling.operands make reading made there same good e

-- What a row makes is good, and so is what is bound by it.
effect_good : {Made : Type 0} (app : AppView) (Good : Made → Type 0) (does : Made → Bound) (of : CommandRow Made) (reading : Reading) (made : Bound) → AreThere app
    → known_of app ≡ reading.known → RowGood app Good of → ((found : Made) → Good found → IsBoundOf app (does found))
    → option_map does (made_by of reading) ≡ Some made → IsBoundOf app made
effect_good app Good does of reading made there same good follows e =
    let found = mapped does (made_by of reading) made e in
    subst (IsBoundOf app) found.2 (follows found.0 (row_made app Good of reading found.0 there same good found.1))

keyword_good : (app : AppView) (k : CommandKeyword) (reading : Reading) (made : Bound) → AreThere app → known_of app ≡ reading.known → bound_by k reading ≡ Some made
    → IsBoundOf app made
keyword_good app (Ask k) reading made there same e =
    effect_good app (IsRequestOf app.runs) (λ request. bound.Asks request) (request_row k) reading made there same (request_good app there k) (λ request good. good) e
keyword_good app (AskByWatch k) reading made there same e =
    effect_good app (λ (found : ℕ × Search). IsWatch found.0) by_watch (search_row k) reading made there same (search_good app k) (λ found good. good) e
keyword_good app TakeWheel reading made there same e = let is : bound.TakesWheel ≡ made = cc in subst (IsBoundOf app) is tt
keyword_good app GiveWheel reading made there same e = let is : bound.GivesWheel ≡ made = cc in subst (IsBoundOf app) is tt
keyword_good app Watch reading made there same e =
    effect_good app (IsConditionOf app.runs) (λ condition. bound.Keeps condition) watch_row reading made there same (λ condition holds. holds) (λ condition good. good) e
keyword_good app Unwatch reading made there same e =
    effect_good app (λ number. Unit {0}) (λ number. bound.Drops number) unwatch_row reading made there same (λ number _. tt) (λ number _. tt) e
keyword_good app (Show kind) reading made there same e =
    effect_good app (λ number. number < length (names_of kind app.names)) (λ number. bound.Looks (Thing kind number)) (thing_row kind) reading made there same
    (λ number named. named) (λ number good. good) e
keyword_good app keyword.Cores reading made there same e = let is : bound.Looks Cores ≡ made = cc in subst (IsBoundOf app) is tt
keyword_good app (Look of) reading made there same e = let is : bound.Looks (Overview of) ≡ made = cc in subst (IsBoundOf app) is tt

pub bound_is_there : (app : AppView) (command : CommandView) (made : Bound) → AreAsMany app.runs app.names → bound_of app command ≡ Some made → IsBoundOf app made
bound_is_there app command made there e =
    keyword_good app command.keyword (record { known = known_of app; words = command.operands }) made there refl e

pub bound_there : {Fault : Type 0} (app : AppView) (command : CommandView) (result : Result Bound Fault) → AreAsMany app.runs app.names
    → result_ok result ≡ bound_of app command → IfOk result (IsBoundOf app)
bound_there app command (Ok made) there e = bound_is_there app command made there (sym e)
bound_there app command (Err fault) there e = tt
