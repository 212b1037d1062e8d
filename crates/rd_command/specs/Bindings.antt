-- What the words of a command name in an application.
use Rattle.std.specs.Prelude.{ℕ, ◌≡◌, ◌<◌, ◌&&◌, Bool, true, nat_lt, if◌then◌else◌}
use Rattle.std.specs.Prelude.{List, [], ◌∷◌, ◌++◌, drop, length, position, slice_get}
use Rattle.std.specs.Prelude.{Option, Some, None, is_some, option_and_then, option_map}
use Rattle.std.specs.Prelude.{Result, Ok, Err}
use Rattle.std.specs.Option.{option_map_or}
use Rattle.std.specs.Str.{bytes_eq}
use Rattle.std.specs.Result.{result_ok}
use Rattle.rd_text.specs.Words.{number_of, bytes_of, name_of, words_of}
use Rattle.rd_text.specs.declared.kind.Kind.{Kind}
use Rattle.rd_app.specs.declared.instr.TheConstants.{REGISTERS}
use Rattle.rd_names.specs.Apps.{AppView}
use Rattle.rd_names.specs.Names.{NamesView, names_of}
use Rattle.rd_condition.specs.declared.condition.Condition.{Condition}
use Rattle.rd_condition.specs.Conditions.{IsConditionOf}
use Rattle.rd_moves.specs.declared.request.Search.{Search}
use Rattle.rd_moves.specs.Requests.{IsRequestOf}
use Rattle.rd_notify.specs.Words.{action_of}
use Rattle.rd_command.specs.declared.binding.Bound.{Bound}
use Rattle.rd_command.specs.declared.binding.Bound.TheVariants as bound
use Rattle.rd_command.specs.declared.binding.TheConstants.{MAX_WATCHES}
use Rattle.rd_command.specs.declared.binding.Unknown.{Unknown}
use Rattle.rd_command.specs.declared.keyword.ConditionKeyword.{ConditionKeyword}
use Rattle.rd_command.specs.declared.keyword.CommandKeyword.{CommandKeyword}
use Rattle.rd_command.specs.declared.keyword.CommandKeyword.TheVariants.{Ask, AskByWatch, TakeWheel}
use Rattle.rd_command.specs.declared.keyword.CommandKeyword.TheVariants.{GiveWheel, Unwatch, Show, Look}
use Rattle.rd_command.specs.declared.keyword.CommandKeyword.TheVariants as keyword
use Rattle.rd_command.specs.declared.keyword.CommandParameter.{CommandParameter}
use Rattle.rd_command.specs.declared.keyword.CommandParameter.TheVariants.{Core, Count, Register, Index}
use Rattle.rd_command.specs.declared.keyword.CommandParameter.TheVariants.{Number, Data, Operator}
use Rattle.rd_command.specs.declared.keyword.CommandParameter.TheVariants.{Phase, Action, Watch, Name}
use Rattle.rd_command.specs.declared.view.View.{View}
use Rattle.rd_command.specs.declared.view.View.TheVariants.{Thing, Cores, Overview}
use Rattle.rd_command.specs.Commands.{CommandView, command_in, command_of}
use Rattle.rd_command.specs.Forms.{count_of, operator_of, phase_of, watch_of}
use Rattle.rd_command.specs.Keywords.{Makes, MakesFrom, Value, Written, ConditionRow}
use Rattle.rd_command.specs.Keywords.{Operands, Plain, WithCondition, CommandRow, Spelled}
use Rattle.rd_command.specs.Keywords.{condition_keyword_of, condition_row, needs_wheel}
use Rattle.rd_command.specs.Keywords.{parameters_of}
use Rattle.rd_command.specs.Keywords.{request_row, search_row, spelling_of, thing_row, unwatch_row}
use Rattle.rd_command.specs.Keywords.{watch_row, Wheel, Taken, Given, Needed, Free}

-- ---- what a command is bound to

-- the number that a watch may have
abbrev pub IsWatch : ℕ → Type 0
IsWatch watch = watch < MAX_WATCHES

-- The application has the thing that is shown.
abbrev pub IsViewOf : NamesView → View → Type 0
IsViewOf names (Thing kind number) = number < length (names_of kind names)
IsViewOf names Cores = Unit {0}
IsViewOf names (Overview of) = Unit {0}

-- The application has what the command names. (That a count is one says its type.)
abbrev pub IsBoundOf : AppView → Bound → Type 0
IsBoundOf app (bound.Asks request) = IsRequestOf app.runs request
IsBoundOf app (bound.AsksByWatch watch search) = IsWatch watch
IsBoundOf app bound.TakesWheel = Unit {0}
IsBoundOf app bound.GivesWheel = Unit {0}
IsBoundOf app (bound.Keeps condition) = IsConditionOf app.runs condition
IsBoundOf app (bound.Drops number) = Unit {0}
IsBoundOf app (bound.Looks view) = IsViewOf app.names view

-- what it has to do with the wheel
abbrev pub wheel_for : Bound → Wheel
wheel_for (bound.Asks request) = Needed
wheel_for (bound.AsksByWatch watch search) = Needed
wheel_for bound.TakesWheel = Taken
wheel_for bound.GivesWheel = Given
wheel_for (bound.Keeps condition) = Free
wheel_for (bound.Drops number) = Free
wheel_for (bound.Looks view) = Free

-- ---- what is known of an application when a command is bound

-- its names, and how many cores there are, and notification entries of each task
pub record KnownView : Type 0 where
  pub names : NamesView
  pub cores : ℕ
  pub entries : ℕ

abbrev pub made_known : NamesView → ℕ → ℕ → KnownView
made_known names cores entries = record { names = names; cores = cores; entries = entries }

abbrev pub known_of : AppView → KnownView
known_of app = made_known app.names app.runs.cores app.runs.entries

-- ---- what a word stands for

-- a number below a limit
abbrev pub number_below : ℕ → List ℕ → Option ℕ
number_below limit word =
    option_and_then (λ number. if nat_lt number limit then Some number else None) (number_of word)

-- the number of the thing of that kind that a word names
abbrev pub number_named : NamesView → Kind → List ℕ → Option ℕ
number_named names kind word =
    option_and_then (λ name. position (bytes_eq name) (names_of kind names)) (name_of word)

-- in that application
abbrev pub value_of : KnownView → (parameter : CommandParameter) → List ℕ → Option (Value parameter)
value_of known Core word = number_below known.cores word
value_of known Count word = count_of word
value_of known Register word = number_below REGISTERS word
value_of known Index word = number_below known.entries word
value_of known Number word = number_of word
value_of known Data word = bytes_of word
value_of known Operator word = operator_of word
value_of known Phase word = phase_of word
value_of known Action word = action_of word
value_of known Watch word = watch_of word
value_of known (Name kind) word = number_named known.names kind word

-- ---- from the first operand to the last

-- the words that are left, in that application
pub record Reading : Type 0 where
  pub known : KnownView
  pub words : List (List ℕ)

-- what is left behind the next word
abbrev pub after_word : Reading → Reading
after_word reading = record reading { words = drop 1 reading.words }

-- what the next word stands for, and what is left
unfoldable pub next_value : (parameter : CommandParameter) → Reading → Option (Value parameter × Reading)
next_value parameter reading =
    option_and_then (λ word.
    option_map (λ value. (value, after_word reading)) (value_of reading.known parameter word))
    (slice_get reading.words 0)

-- What was read, and the reading that is left, are what it gives; or it gives nothing.
abbrev pub Takes : {Read : Type 0} → Option (Read × Reading) → Result Read Unknown → Reading
    → Type 0
Takes gives (Ok value) new = gives ≡ Some (value, new)
Takes gives (Err e) new = gives ≡ None

-- what the words make, if each stands for something, and what is left
abbrev pub made_of : (Made : Type 0) → (parameters : List CommandParameter) → Makes Made parameters
    → Reading
    → Option (Made × Reading)
made_of Made [] made reading = Some (made, reading)
made_of Made (parameter ∷ others) make reading =
    option_and_then (λ next. made_of Made others (make next.0) next.1)
    (next_value parameter reading)

-- the condition of such a row
abbrev pub condition_made : ConditionRow → Reading → Option (Condition × Reading)
condition_made (Written text parameters make) reading = made_of Condition parameters make reading

-- the keyword of a condition that the next word is, and what is left
unfoldable pub next_keyword : Reading → Option (ConditionKeyword × Reading)
next_keyword reading =
    option_and_then (λ word.
    option_map (λ keyword. (keyword, after_word reading)) (condition_keyword_of word))
    (slice_get reading.words 0)

-- the condition that the words begin with, and what is left
abbrev pub next_condition : Reading → Option (Condition × Reading)
next_condition reading =
    option_and_then (λ next. condition_made (condition_row next.0) next.1) (next_keyword reading)

-- what the operands make, if each stands for something
abbrev pub made_from : (Made : Type 0) → (operands : Operands) → MakesFrom Made operands → Reading
    → Option Made
made_from Made (Plain parameters) make reading =
    option_map (λ made. made.0) (made_of Made parameters make reading)
made_from Made (WithCondition parameters) make reading =
    option_and_then
    (λ found. option_map (λ made. made.0) (made_of Made parameters (make found.0) found.1))
    (next_condition reading)

abbrev pub made_by : {Made : Type 0} → CommandRow Made → Reading → Option Made
made_by {Made} (Spelled spelling make) reading = made_from Made spelling.operands make reading

-- what such a search asks for
abbrev pub by_watch : ℕ × Search → Bound
by_watch found = bound.AsksByWatch found.0 found.1

-- what a command of this keyword does, with these operands
abbrev pub bound_by : CommandKeyword → Reading → Option Bound
bound_by (Ask of) reading =
    option_map (λ request. bound.Asks request) (made_by (request_row of) reading)
bound_by (AskByWatch of) reading = option_map by_watch (made_by (search_row of) reading)
bound_by TakeWheel reading = Some bound.TakesWheel
bound_by GiveWheel reading = Some bound.GivesWheel
bound_by keyword.Watch reading =
    option_map (λ condition. bound.Keeps condition) (made_by watch_row reading)
bound_by Unwatch reading = option_map (λ number. bound.Drops number) (made_by unwatch_row reading)
bound_by (Show kind) reading =
    option_map (λ number. bound.Looks (Thing kind number)) (made_by (thing_row kind) reading)
bound_by keyword.Cores reading = Some (bound.Looks Cores)
bound_by (Look of) reading = Some (bound.Looks (Overview of))

-- what the command is bound to, if the application has all that it names
abbrev pub bound_in : KnownView → CommandView → Option Bound
bound_in known command =
    bound_by command.keyword (record { known = known; words = command.operands })

abbrev pub bound_of : AppView → CommandView → Option Bound
bound_of app command = bound_in (known_of app) command

-- ---- what an application has

-- Has the application what the word names? A word that names nothing is no matter.
abbrev pub is_there : KnownView → CommandParameter → List ℕ → Bool
is_there known Core word = is_some (number_below known.cores word)
is_there known Count word = true
is_there known Register word = is_some (number_below REGISTERS word)
is_there known Index word = is_some (number_below known.entries word)
is_there known Number word = true
is_there known Data word = true
is_there known Operator word = true
is_there known Phase word = true
is_there known Action word = true
is_there known Watch word = true
is_there known (Name kind) word = is_some (position (bytes_eq word) (names_of kind known.names))

abbrev pub are_there : KnownView → List CommandParameter → List (List ℕ) → Bool
are_there known [] words = true
are_there known (parameter ∷ others) [] = true
are_there known (parameter ∷ others) (word ∷ words) =
    is_there known parameter word && are_there known others words

-- the same of a condition, after its keyword, and of what stands behind it
abbrev pub are_there_with : KnownView → List CommandParameter → List (List ℕ) → Bool
are_there_with known parameters [] = true
are_there_with known parameters (word ∷ words) =
    option_map_or
    (λ keyword. are_there known (parameters_of (condition_row keyword) ++ parameters) words)
    (condition_keyword_of word)
    true

abbrev pub has_operands : KnownView → Operands → List (List ℕ) → Bool
has_operands known (Plain parameters) words = are_there known parameters words
has_operands known (WithCondition parameters) words = are_there_with known parameters words

-- has the application all that the command names?
abbrev pub has_all : KnownView → CommandView → Bool
has_all known command = has_operands known (spelling_of command.keyword).operands command.operands

-- ---- a line that is a command, with what this is bound to

-- the line, its command, and what is known of the application that this is bound in
pub record OrderView : Type 0 where
  pub line : List ℕ
  pub command : CommandView
  pub known : KnownView

-- The line is a command, which needs the wheel or not, and is bound so in this application.
pub record IsOrder (known : KnownView) (line : List ℕ) (needs : Bool) (bound : Result Bound Unknown)
    : Type 0 where
  pub is_command : command_of (words_of line) ≡ Some (command_in line)
  pub needs_it : needs ≡ needs_wheel (command_in line).keyword
  pub is_bound : result_ok bound ≡ bound_in known (command_in line)
