-- What the words of the command line ask for, by what `clap` says of a parse.
use denote.Ref.{Bor}
use Rattle.std.specs.Prelude.{◌≡◌, ◌≢◌, ◌<◌, ◌≤◌, ⊤, ℕ, Bool, true, false, List, [], ◌∷◌, ◌++◌, codes}
use Rattle.std.specs.Prelude.{Option, None, Some, IfSome, IsSome, is_some, option_map, pos, string_len}
use Rattle.std.specs.Prelude.{◌⊎◌, String, length, unwrap_or}
use Rattle.std.specs.List.{IsAmong as IsOneOf}
use Rattle.std.specs.Str.{bytes_eq}
use Rattle.std.specs.Option.{option_map_or}
use Rattle.std.specs.declared.alloc.Global.{Global}
use Rattle.clap.specs.Lexer.{usize_max}
use Rattle.clap.specs.Simple.{on_top}
use Rattle.clap.specs.Words.{App as CommandLine, IsAmong, Row, Rule, Text, all_of}
use Rattle.clap.specs.Words.{fault_of, first_of, matches_of, new_app, new_rule, one_of}
use Rattle.clap.specs.declared.builder.action.ArgAction.TheVariants.{Append, SetTrue}
use Rattle.clap.specs.declared.builder.value_parser.ValueParser.TheVariants.{Signed, Unsigned}
use Rattle.clap.specs.declared.error.kind.ErrorKind.{ErrorKind as Refusal}
use Rattle.clap.specs.declared.error.kind.ErrorKind.TheVariants as kind
use Rattle.rd_text.specs.Words.{number_of as number_in}
use Rattle.rd_text.specs.Words.{texts, words_of}
use Rattle.rd_goal.specs.Written.{spaced}
use Rattle.rd_start.specs.Requests.{HasNumber, number_asked}
use Rattle.rd_dealt.specs.Parts.{PartOf}
use Rattle.rd_question.specs.Asked.{AreEach}
use Rattle.rd_question.specs.Handlers.{HasCalls, times_in}
use Rattle.rd_question.specs.Numbers.{small_number}
use Rattle.rd_question.specs.Paces.{IsNoPace, IsWritten}
use Rattle.rd_question.specs.Parts.{IsNoPart, IsPart}
use Rattle.rd_question.specs.declared.fault.ReachFault.{ReachFault}
use Rattle.rd_question.specs.declared.fault.ReachFault.TheVariants as fault
use Rattle.rd_question.specs.declared.handler.NoHandler.{NoHandler}
use Rattle.rd_question.specs.declared.handler.NoHandler.TheVariants as handler
use Rattle.rd_question.specs.declared.handler.Said.{Said}
use Rattle.rd_question.specs.declared.options.Question.{Question}
use Rattle.rd_question.specs.declared.options.ReachRequest.{ReachRequest}
use Rattle.rd_question.specs.declared.options.ReachRequest.TheVariants.{Ask, Engine, Help}
use Rattle.rd_question.specs.declared.options.TheConstants.{MAX_MEMORY, MAX_MOVES, MAX_STATES}
use Rattle.rd_question.specs.declared.pace.NoPace.{NoPace}
use Rattle.rd_question.specs.declared.pace.Pace.{Pace}
use Rattle.rd_question.specs.declared.pace.TheConstants.{NO_PACE}
use Rattle.rd_question.specs.declared.part_word.NoPart.{NoPart}
use Rattle.rd_question.specs.declared.query.Query.{Query}
use Rattle.rd_question.specs.declared.query.Query.TheVariants as query

-- ---- the command line

-- `--name`
abbrev pub switch : Text → Rule
switch name = record (new_rule name) { long = Some name; action = Some SetTrue }

-- `--name VALUE`
abbrev pub setting : Text → Rule
setting name = record (new_rule name) { long = Some name; value_names = 1 }

-- `--name VALUE`, as often as one likes
abbrev pub repeated : Text → Rule
repeated name = record (setting name) { action = Some Append }

-- `--name N`, from the least to the most
abbrev pub number_of : ℕ → ℕ → Text → Rule
number_of least most name = record (setting name) { parser = Some (Unsigned least most) }

-- `FILE`, which has to be there
abbrev pub file_word : Rule
file_word = record (new_rule (codes "FILE")) { required = true }

-- `GOAL..`
abbrev pub goal_words : Rule
goal_words = record (new_rule (codes "GOAL")) {
  action = Some Append;
  range = Some (record { start_inclusive = 1; end_inclusive = usize_max });
}

-- `--surprises N`: 0 to 255
abbrev pub surprises_option : Rule
surprises_option = record (setting (codes "surprises")) {
  parser = Some (Signed (pos 0) (pos 255));
}

-- `--states N`: 10,000,000 where it isn't given
abbrev pub states_option : Rule
states_option = record (number_of 1 MAX_STATES (codes "states")) {
  defaults = codes "10000000" ∷ [];
}

-- `--memory MIB`: 1,024 where it isn't given
abbrev pub memory_option : Rule
memory_option = record (number_of 1 MAX_MEMORY (codes "memory")) {
  defaults = codes "1024" ∷ [];
}

-- all that the command line has
abbrev pub all_rules : List Rule
all_rules = file_word ∷ goal_words ∷ switch (codes "lost") ∷ switch (codes "doomed")
    ∷ setting (codes "from") ∷ number_of 0 MAX_MOVES (codes "moves") ∷ setting (codes "pace")
    ∷ repeated (codes "isr") ∷ repeated (codes "times") ∷ repeated (codes "after")
    ∷ repeated (codes "apart") ∷ surprises_option ∷ states_option ∷ memory_option
    ∷ setting (codes "part") ∷ switch (codes "exact") ∷ switch (codes "progress")
    ∷ switch (codes "engine") ∷ []

-- No word is the program's own name.
abbrev pub command_line : CommandLine
command_line = on_top (λ top. record top { no_binary_name = true; rules = all_rules })
    (new_app (codes "rdreach"))

-- What the words give for each argument.
unfoldable pub rows_in : List Text → List Row
rows_in words = matches_of command_line words

-- The kinds of what is wrong with the words; help is one of them.
unfoldable pub faults_of : List Text → List Refusal
faults_of words = fault_of command_line words

-- ---- the question

-- The switch of that name is on.
abbrev pub is_on : Text → List Row → Bool
is_on name rows = option_map_or (λ text. bytes_eq text (codes "true")) (first_of name rows) false

-- the number that the option of that name says
abbrev pub number_said : Text → List Row → Option ℕ
number_said name rows = option_map number_asked (one_of name rows)

-- what is asked of the goal, by whether `--lost` and `--doomed` are on
abbrev pub query_of : Bool → Bool → Option Query
query_of true true = None
query_of true false = Some query.Lost
query_of false true = Some query.Doomed
query_of false false = Some query.Reach

-- It is the pace that the text writes, and none where there is no text.
abbrev pub IsPaceOf : Option Text → Pace → Type 0
IsPaceOf None pace = pace ≡ NO_PACE
IsPaceOf (Some text) pace = IsWritten text pace

-- It is the part that the text writes, and all orders where there is no text.
abbrev pub IsPartOf : Option Text → Option PartOf → Type 0
IsPartOf None part = part ≡ None
IsPartOf (Some text) None = ⊥
IsPartOf (Some text) (Some part) = IsPart text part

-- What the options of that name say, a text each.
abbrev pub texts_of : Text → List Row → List Text
texts_of name rows = unwrap_or (all_of name rows) []

-- the words of all these texts, of a goal
abbrev pub words_in : List Text → List Text
words_in [] = []
words_in (text ∷ others) = words_of (spaced text) ++ words_in others

-- The question is what stands in these rows.
pub record IsAskedIn (rows : List Row) (question : Question) : Type 0 where
  pub file : question.file.now ≡ unwrap_or (first_of (codes "FILE") rows) []
  pub goal : texts question.goal.items ≡ words_in (texts_of (codes "GOAL") rows)
  pub query : Some question.query
      ≡ query_of (is_on (codes "lost") rows) (is_on (codes "doomed") rows)
  pub from : option_map (λ path. path.now) question.from ≡ first_of (codes "from") rows
  pub moves : question.moves ≡ number_said (codes "moves") rows
  pub pace : IsPaceOf (first_of (codes "pace") rows) question.pace
  pub isrs : AreEach HasCalls (texts_of (codes "isr") rows) question.isrs.items
  pub surprises : question.surprises ≡ number_said (codes "surprises") rows
  pub states : Some question.states ≡ number_said (codes "states") rows
  pub memory : Some question.memory ≡ number_said (codes "memory") rows
  pub part : IsPartOf (first_of (codes "part") rows) question.part
  pub exact : question.exact ≡ is_on (codes "exact") rows
  pub progress : question.progress ≡ is_on (codes "progress") rows

-- ---- the request

-- There is a goal, perhaps an empty one.
abbrev pub has_goal : List Row → Bool
has_goal rows = is_some (all_of (codes "GOAL") rows)

-- the words of the goal
abbrev pub goal_of : List Row → List Text
goal_of rows = words_in (texts_of (codes "GOAL") rows)

-- An answer needs a goal with words, and no `--engine`; an engine needs `--engine`, and no goal.
abbrev pub IsRequestIn : List Row → ReachRequest → Type 0
IsRequestIn rows (Ask question) =
    (is_on (codes "engine") rows ≡ false) × (goal_of rows ≢ []) × IsAskedIn rows question
IsRequestIn rows (Engine question) =
    (is_on (codes "engine") rows ≡ true) × (has_goal rows ≡ false) × IsAskedIn rows question
IsRequestIn rows (Help text) = ⊥

-- Nothing is wrong with the words, and the request is what stands in them.
pub record IsOfWords (words : List Text) (request : ReachRequest) : Type 0 where
  pub faults : faults_of words ≡ []
  pub said : IsRequestIn (rows_in words) request

-- The request is what the words ask for; words that get help ask for that, and it has a text.
abbrev pub IsAskedBy : List Text → ReachRequest → Type 0
IsAskedBy words (Ask question) = IsOfWords words (Ask question)
IsAskedBy words (Engine question) = IsOfWords words (Engine question)
IsAskedBy words (Help text) = IsAmong kind.DisplayHelp (faults_of words) × (0 < string_len text)

-- ---- why there are no interrupts

-- An option of that name says a text that is so.
abbrev pub SaysOne : Text → (Text → Type 0) → List Row → Type 0
SaysOne name so rows = (text : Text) × IsOneOf (texts_of name rows) text × so text

-- It is a text that the option of that name says, where one is said.
abbrev pub IsOneOfOption : Text → List Row → Option (Bor Text) → Type 0
IsOneOfOption name rows said = IfSome said (λ text. IsOneOf (texts_of name rows) text.now)

-- What is said of an interrupt beside its calls stands in the rows.
pub record IsSaidIn (rows : List Row) (said : Said) : Type 0 where
  pub times : IsOneOfOption (codes "times") rows said.times
  pub after : IsOneOfOption (codes "after") rows said.after
  pub apart : IsOneOfOption (codes "apart") rows said.apart

-- It is how the option of that name is written.
abbrev pub IsOption : Text → Bor Text → Type 0
IsOption name option = option.now ≡ codes "--" ++ name

-- An option stands before all interrupts, and one is given.
abbrev pub IsStray : List Row → NoHandler → Type 0
IsStray rows why = (option : Bor Text) × (name : Text) × (why ≡ handler.Stray option)
    × IsOption name option × (is_some (all_of name rows) ≡ true)

-- An option is said twice of one interrupt, and two are given.
abbrev pub IsTwice : List Row → NoHandler → Type 0
IsTwice rows why = (option : Bor Text) × (name : Text) × (why ≡ handler.Twice option)
    × IsOption name option × (2 ≤ length (texts_of name rows))

-- What stands in the rows gives no interrupts, for that: an option says something wrong, or stands in
-- the wrong place.
abbrev pub IsWrongIn : List Row → NoHandler → Type 0
IsWrongIn rows why =
    ((why ≡ handler.Times) × SaysOne (codes "times") (λ text. times_in text ≡ None) rows)
    ⊎ ((why ≡ handler.After) × SaysOne (codes "after") (λ text. ⊤) rows)
    ⊎ ((why ≡ handler.Unlimited) × SaysOne (codes "after") (λ text. IsSome (number_in text)) rows)
    ⊎ ((why ≡ handler.Apart) × SaysOne (codes "apart") (λ text. small_number 0 text ≡ None) rows)
    ⊎ IsStray rows why ⊎ IsTwice rows why

-- ---- why there is none

-- Something else is wrong with the words than that they ask for help.
abbrev pub AreRefused : List Text → Type 0
AreRefused words =
    (refusal : Refusal) × IsAmong refusal (faults_of words) × (refusal ≢ kind.DisplayHelp)

-- It says that the words are a bad line.
abbrev pub IsBadLine : ReachFault → Type 0
IsBadLine cause = (text : String Global) × (cause ≡ fault.Words text)

-- Both switches are on.
abbrev pub AreBothOn : List Row → Type 0
AreBothOn rows = (is_on (codes "lost") rows ≡ true) × (is_on (codes "doomed") rows ≡ true)

-- What is said of the pace is none, and this says why.
abbrev pub IsBadPace : List Row → ReachFault → Type 0
IsBadPace rows cause = (why : NoPace) × (text : Text) × (cause ≡ fault.Pace why)
    × (first_of (codes "pace") rows ≡ Some text) × IsNoPace why text

-- What is said of the part is none.
abbrev pub IsBadPart : List Row → ReachFault → Type 0
IsBadPart rows cause = (why : NoPart) × (text : Text) × (cause ≡ fault.Part why)
    × (first_of (codes "part") rows ≡ Some text) × IsNoPart text

-- An interrupt is wrong, and this says why.
abbrev pub IsBadIsr : List Row → ReachFault → Type 0
IsBadIsr rows cause = (why : NoHandler) × (cause ≡ fault.Isr why) × IsWrongIn rows why

-- An option says no number within its limits.
abbrev pub IsBadNumber : List Row → ReachFault → Type 0
IsBadNumber rows cause = (option : Bor Text) × (least : ℕ) × (most : ℕ)
    × (cause ≡ fault.Number option least most) × (HasNumber option.now least most rows → ⊥)

-- There is neither a goal with words nor `--engine`, or there are both a goal and `--engine`.
abbrev pub IsGoalFault : List Row → ReachFault → Type 0
IsGoalFault rows cause =
    ((cause ≡ fault.GoalMissing) × (is_on (codes "engine") rows ≡ false) × (goal_of rows ≡ []))
    ⊎ ((cause ≡ fault.EngineWithGoal) × (is_on (codes "engine") rows ≡ true)
    × (has_goal rows ≡ true))

-- Why no question stands in the rows: two are asked at once, or what is said of one is wrong so; or
-- there is no memory.
abbrev pub IsFaultIn : List Row → ReachFault → Type 0
IsFaultIn rows cause = (cause ≡ fault.NoMemory) ⊎ ((cause ≡ fault.Both) × AreBothOn rows)
    ⊎ IsBadPace rows cause ⊎ IsBadPart rows cause ⊎ IsBadIsr rows cause ⊎ IsBadNumber rows cause

-- Why the words ask for nothing: they are refused, no question stands in them, or it has no goal
-- where it needs one or has one where it may not; or there is no memory.
abbrev pub IsFaultOf : List Text → ReachFault → Type 0
IsFaultOf words cause = (cause ≡ fault.NoMemory) ⊎ (IsBadLine cause × AreRefused words)
    ⊎ ((faults_of words ≡ [])
    × (IsFaultIn (rows_in words) cause ⊎ IsGoalFault (rows_in words) cause))

-- There is no memory, or else an interrupt is none for this cause.
abbrev pub IsFaultOfHandler : NoHandler → ReachFault → Type 0
IsFaultOfHandler why cause = ((why ≡ handler.NoMemory) × (cause ≡ fault.NoMemory))
    ⊎ ((why ≢ handler.NoMemory) × (cause ≡ fault.Isr why))

-- Help that has a text, and no question.
abbrev pub IsHelp : ReachRequest → Type 0
IsHelp (Ask question) = ⊥
IsHelp (Engine question) = ⊥
IsHelp (Help text) = 0 < string_len text

-- What an error of a parse comes to, where it doesn't come to help.
abbrev pub IsFaultOfError : Refusal → ReachFault → Type 0
IsFaultOfError error cause = (cause ≡ fault.NoMemory)
    ⊎ (IsBadLine cause × (error ≢ kind.OutOfMemory) × (error ≢ kind.DisplayHelp))
