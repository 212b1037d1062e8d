-- The commands of a session, and how each is spelled.
use Rattle.std.specs.Prelude.{ℕ, ◌≡◌, ◌↔◌, true, List, [], ◌∷◌, ◌++◌, if◌then◌else◌}
use Rattle.std.specs.Prelude.{Option, Some, None, option_and_then, unwrap_or}
use Rattle.std.specs.Option.{option_or}
use Rattle.std.specs.Str.{bytes_eq}
use Rattle.rd_text.specs.Words.{words_of}
use Rattle.rd_command.specs.declared.keyword.ConditionKeyword.{ConditionKeyword}
use Rattle.rd_command.specs.declared.keyword.CommandKeyword.{CommandKeyword}
use Rattle.rd_command.specs.declared.keyword.CommandKeyword.TheVariants.{TakeWheel}
use Rattle.rd_command.specs.declared.keyword.CommandParameter.{CommandParameter}
use Rattle.rd_command.specs.Forms.{after_texts, are_operands, is_formed}
use Rattle.rd_command.specs.Keywords.{Operands, Plain, WithCondition, Spelling, condition_row}
use Rattle.rd_command.specs.Keywords.{keywords, parameters_of, spelling_of, text_of}

-- a command: its keyword, and the words of its operands
pub record CommandView : Type 0 where
  pub keyword : CommandKeyword
  pub operands : List (List ℕ)

-- ---- what words spell

-- The words are one of the form of each of these operands, and no more.
abbrev pub AreFormed : List CommandParameter → List (List ℕ) → Type 0
AreFormed [] words = words ≡ []
AreFormed (parameter ∷ others) words =
    (word : List ℕ)
    × (left : List (List ℕ))
    × (words ≡ word ∷ left)
    × (is_formed parameter word ≡ true)
    × AreFormed others left

-- The words are such operands: those of a condition come first, with its keyword before them.
abbrev pub AreOperands : Operands → List (List ℕ) → Type 0
AreOperands (Plain parameters) words = AreFormed parameters words
AreOperands (WithCondition parameters) words =
    (keyword : ConditionKeyword)
    × (left : List (List ℕ))
    × (words ≡ text_of (condition_row keyword) ∷ left)
    × AreFormed (parameters_of (condition_row keyword) ++ parameters) left

-- The words are the command's: those of its keyword, and then its operands.
pub record Spells (words : List (List ℕ)) (command : CommandView) : Type 0 where
  pub written : words ≡ (spelling_of command.keyword).verb
      ∷ ((spelling_of command.keyword).more ++ command.operands)
  pub formed : AreOperands (spelling_of command.keyword).operands command.operands

-- No words spell two commands.
abbrev pub NoLineIsTwoCommands : Type 0
NoLineIsTwoCommands =
    (words : List (List ℕ)) → (command other : CommandView)
    → Spells words command
    → Spells words other
    → command ≡ other

-- ---- how a command is found

-- the command with a keyword that is written so, if the words, of which the first stands apart, are
-- the keyword's and then its operands
abbrev pub command_spelled : Spelling → CommandKeyword → List ℕ → List (List ℕ) → Option CommandView
command_spelled spelling keyword first words =
    if bytes_eq first spelling.verb
    then option_and_then
    (λ left.
    if are_operands spelling.operands left
    then Some (record { keyword = keyword; operands = left })
    else None)
    (after_texts spelling.more words)
    else None

-- the command with the first of these keywords that the words are spelled with
abbrev pub command_among : List CommandKeyword → List ℕ → List (List ℕ) → Option CommandView
command_among [] first words = None
command_among (keyword ∷ others) first words =
    option_or (command_spelled (spelling_of keyword) keyword first words)
    (command_among others first words)

-- the command that words spell, of which the first stands apart, if they do
unfoldable pub command_from : List ℕ → List (List ℕ) → Option CommandView
command_from first words = command_among keywords first words

-- the command that these words spell, if they do
abbrev pub command_of : List (List ℕ) → Option CommandView
command_of [] = None
command_of (first ∷ words) = command_from first words

-- the command of a line that is one
unfoldable pub command_in : List ℕ → CommandView
command_in line =
    unwrap_or (command_of (words_of line)) (record { keyword = TakeWheel; operands = [] })

-- What is found is spelled, and what is spelled is found.
abbrev pub FindsWhatIsSpelled : Type 0
FindsWhatIsSpelled =
    (words : List (List ℕ)) → (command : CommandView)
    → (command_of words ≡ Some command ↔ Spells words command)
