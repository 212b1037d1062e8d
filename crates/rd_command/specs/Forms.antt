-- The forms of the words of a command, whatever they name.
use Rattle.std.specs.Prelude.{ℕ, Bool, true, false, nat_eq, nat_lt}
use Rattle.std.specs.Prelude.{if◌then◌else◌, codes}
use Rattle.std.specs.Prelude.{List, [], ◌∷◌, Option, Some, None, is_some, option_and_then}
use Rattle.std.specs.Str.{bytes_eq}
use Rattle.rd_text.specs.Words.{number_of, bytes_of, is_name}
use Rattle.rd_condition.specs.declared.condition.Comparison.{Comparison}
use Rattle.rd_condition.specs.declared.condition.Comparison.TheVariants.{Equal, Less, Greater}
use Rattle.rd_condition.specs.declared.condition.PhaseName.{PhaseName}
use Rattle.rd_condition.specs.declared.condition.PhaseName.TheVariants as name
use Rattle.rd_command.specs.declared.keyword.CommandParameter.{CommandParameter}
use Rattle.rd_command.specs.declared.keyword.CommandParameter.TheVariants.{Core, Count, Register, Index}
use Rattle.rd_command.specs.declared.keyword.CommandParameter.TheVariants.{Number, Data, Operator}
use Rattle.rd_command.specs.declared.keyword.CommandParameter.TheVariants.{Phase, Action, Watch, Name}
use Rattle.rd_moves.specs.Counts.{count_in}
use Rattle.rd_notify.specs.Words.{action_of}
use Rattle.rd_command.specs.Keywords.{Operands, Plain, WithCondition}
use Rattle.rd_command.specs.Keywords.{condition_keyword_of, condition_row, parameters_of}

-- a number of moves
abbrev pub count_of : List ℕ → Option ℕ
count_of word = option_and_then count_in (number_of word)

-- how an amount is compared
abbrev pub operator_of : List ℕ → Option Comparison
operator_of word =
    if bytes_eq word (codes "=") then Some Equal
    else (if bytes_eq word (codes "<") then Some Less
    else (if bytes_eq word (codes ">") then Some Greater
    else None))

-- what a phase is called
abbrev pub phase_of : List ℕ → Option PhaseName
phase_of word =
    if bytes_eq word (codes "run") then Some name.Run
    else (if bytes_eq word (codes "again") then Some name.Again
    else (if bytes_eq word (codes "given") then Some name.Given
    else (if bytes_eq word (codes "wait") then Some name.Wait
    else (if bytes_eq word (codes "ended") then Some name.Ended
    else (if bytes_eq word (codes "failed") then Some name.Failed
    else None)))))

-- the number of a watch: a number below 16
abbrev pub watch_number : List ℕ → Option ℕ
watch_number digits =
    option_and_then (λ number. if nat_lt number 16 then Some number else None) (number_of digits)

-- a watch: `w`, which has the code 119, and its number
abbrev pub watch_of : List ℕ → Option ℕ
watch_of [] = None
watch_of (first ∷ digits) = if nat_eq first 119 then watch_number digits else None

-- has the word the form of such an operand?
abbrev pub is_formed : CommandParameter → List ℕ → Bool
is_formed Core word = is_some (number_of word)
is_formed Count word = is_some (count_of word)
is_formed Register word = is_some (number_of word)
is_formed Index word = is_some (number_of word)
is_formed Number word = is_some (number_of word)
is_formed Data word = is_some (bytes_of word)
is_formed Operator word = is_some (operator_of word)
is_formed Phase word = is_some (phase_of word)
is_formed Action word = is_some (action_of word)
is_formed Watch word = is_some (watch_of word)
is_formed (Name kind) word = is_name word

-- what is left of the words behind these texts, if they begin with them
abbrev pub after_texts : List (List ℕ) → List (List ℕ) → Option (List (List ℕ))
after_texts [] words = Some words
after_texts (text ∷ texts) [] = None
after_texts (text ∷ texts) (word ∷ words) =
    if bytes_eq word text then after_texts texts words else None

-- what is left of the words behind one for each of these operands, if they have the forms
abbrev pub after_words : List CommandParameter → List (List ℕ) → Option (List (List ℕ))
after_words [] words = Some words
after_words (parameter ∷ others) [] = None
after_words (parameter ∷ others) (word ∷ words) =
    if is_formed parameter word then after_words others words else None

-- what is left of the words behind a condition, if they begin with one
abbrev pub after_condition : List (List ℕ) → Option (List (List ℕ))
after_condition [] = None
after_condition (word ∷ words) =
    option_and_then (λ keyword. after_words (parameters_of (condition_row keyword)) words)
    (condition_keyword_of word)

abbrev pub after_operands : Operands → List (List ℕ) → Option (List (List ℕ))
after_operands (Plain parameters) words = after_words parameters words
after_operands (WithCondition parameters) words =
    option_and_then (after_words parameters) (after_condition words)

-- Was there all that was asked for, and nothing behind it?
abbrev pub is_all : Option (List (List ℕ)) → Bool
is_all None = false
is_all (Some []) = true
is_all (Some (word ∷ words)) = false

-- are the words such operands, and no more?
abbrev pub are_operands : Operands → List (List ℕ) → Bool
are_operands operands words = is_all (after_operands operands words)
