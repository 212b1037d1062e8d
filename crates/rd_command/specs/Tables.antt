-- The code's tables of keywords, and how a keyword is found in them.
use denote.Ref.{Bor}
use Rattle.std.specs.Prelude.{ℕ, List, [], ◌∷◌, map, drop, if◌then◌else◌, ◌&&◌}
use Rattle.std.specs.Prelude.{Option, Some, None}
use Rattle.std.specs.Option.{option_or}
use Rattle.std.specs.Str.{bytes_eq}
use Rattle.rd_command.specs.declared.command.Found.{Found}
use Rattle.rd_command.specs.declared.keyword.Operands as code
use Rattle.rd_command.specs.declared.keyword.Operands.TheVariants as kept
use Rattle.rd_command.specs.declared.keyword.ConditionKeyword.{ConditionKeyword}
use Rattle.rd_command.specs.declared.keyword.CommandKeyword.{CommandKeyword}
use Rattle.rd_command.specs.declared.keyword.CommandParameter.{CommandParameter}
use Rattle.rd_command.specs.Commands.{CommandView}
use Rattle.rd_command.specs.Forms.{are_operands}
use Rattle.rd_command.specs.Keywords.{Operands, Plain, WithCondition, condition_row}
use Rattle.rd_command.specs.Keywords.{parameters_of, text_of}

-- ---- conditions: the text of each, its operands, and the keyword

abbrev pub Conditions : Type 0
Conditions = List (List ℕ × List CommandParameter × ConditionKeyword)

abbrev pub conditions_of : List ConditionKeyword → Conditions
conditions_of keywords =
    map (λ k. (text_of (condition_row k), parameters_of (condition_row k), k)) keywords

abbrev pub conditions_view : List (Bor (List ℕ) × Bor (List CommandParameter) × ConditionKeyword)
    → Conditions
conditions_view rows = map (λ row. (row.0.now, row.1.now, row.2)) rows

-- the first of these that is written so, with its operands
abbrev pub first_condition : List ℕ → Conditions → Option (List CommandParameter × ConditionKeyword)
first_condition word [] = None
first_condition word (row ∷ others) =
    if bytes_eq word row.0 then Some (row.1, row.2) else first_condition word others

-- ---- commands: first words, each with the keywords that are this word alone, and those that
-- have a second word

abbrev pub operands_view : code.Operands → Operands
operands_view (kept.Plain parameters) = Plain parameters.now
operands_view (kept.WithCondition parameters) = WithCondition parameters.now

-- the operands of a keyword that is its first word alone, and the keyword
abbrev pub Alone : Type 0
Alone = Operands × CommandKeyword

abbrev pub alone_view : List (code.Operands × CommandKeyword) → List Alone
alone_view rows = map (λ row. (operands_view row.0, row.1)) rows

-- the second word of a keyword that has one, its operands, and the keyword
abbrev pub Longer : Type 0
Longer = List ℕ × Operands × CommandKeyword

abbrev pub longer_view : List (Bor (List ℕ) × code.Operands × CommandKeyword) → List Longer
longer_view rows = map (λ row. (row.0.now, operands_view row.1, row.2)) rows

-- a first word, with its keywords of both kinds
abbrev pub Verb : Type 0
Verb = List ℕ × List Alone × List Longer

-- how the code keeps it
abbrev pub VerbKept : Type 0
VerbKept =
    Bor (List ℕ)
    × Bor (List (code.Operands × CommandKeyword))
    × Bor (List (Bor (List ℕ) × code.Operands × CommandKeyword))

abbrev pub verb_view : VerbKept → Verb
verb_view verb = (verb.0.now, alone_view verb.1.now, longer_view verb.2.now)

abbrev pub verbs_view : List VerbKept → List Verb
verbs_view verbs = map verb_view verbs

-- the command with these words as its operands
abbrev pub with_operands : List (List ℕ) → CommandKeyword → CommandView
with_operands words keyword = record { keyword = keyword; operands = words }

-- the command that was found: the first of these words are the keyword's, the others its operands
abbrev pub found_in : List (List ℕ) → Found → CommandView
found_in words found = with_operands (drop found.own words) found.keyword

-- the command of the first of these keywords that the words are the operands of
abbrev pub command_alone : List Alone → List (List ℕ) → Option CommandView
command_alone [] words = None
command_alone (row ∷ others) words =
    if are_operands row.0 words then Some (record { keyword = row.1; operands = words })
    else command_alone others words

-- the command of the first of these that has this second word, and the words as its operands
abbrev pub command_with_second : List Longer → List ℕ → List (List ℕ) → Option CommandView
command_with_second [] second words = None
command_with_second (row ∷ others) second words =
    if bytes_eq second row.0 && are_operands row.1 words
    then Some (record { keyword = row.2; operands = words })
    else command_with_second others second words

-- the command of those that have a second word, which the words begin with
abbrev pub command_longer : List Longer → List (List ℕ) → Option CommandView
command_longer rows [] = None
command_longer rows (second ∷ words) = command_with_second rows second words

-- the command that the words spell behind a first word
abbrev pub command_behind : Verb → List (List ℕ) → Option CommandView
command_behind verb words =
    option_or (command_alone verb.1 words) (command_longer verb.2 words)

-- the command that the words spell behind their first word, if that is one of these
abbrev pub command_by_verb : List Verb → List ℕ → List (List ℕ) → Option CommandView
command_by_verb [] first words = None
command_by_verb (verb ∷ others) first words =
    if bytes_eq first verb.0 then command_behind verb words
    else command_by_verb others first words
