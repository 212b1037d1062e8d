-- No command has more words behind its first one than are read.
use Rattle.std.proofs.Common.{◌≡◌, ◌∙◌, ℕ, suc, ◌+◌, ◌≤◌, ◌&&◌, Bool, true, false, cond, List, [], ◌∷◌, ◌++◌, length, nat_le, Option, Some, None, refl, sym, ap, arith, length-append}
use Rattle.std.specs.List.{find, list_all}
use Rattle.std.specs.Str.{bytes_eq}
use Rattle.std.proofs.lemmas.Bool.{le-leb, leb-true}
use Rattle.rd_command.specs.declared.keyword.ConditionKeyword.{ConditionKeyword}
use Rattle.rd_command.specs.declared.keyword.CommandKeyword.{CommandKeyword}
use Rattle.rd_command.specs.declared.keyword.CommandParameter.{CommandParameter}
use Rattle.rd_command.specs.declared.word.TheConstants.{MAX_WORDS}
use Rattle.rd_command.specs.Commands.{AreFormed, AreOperands, CommandView, command_among, command_from, command_of, command_spelled}
use Rattle.rd_command.specs.Keywords.{Operands, Plain, WithCondition, condition_keywords, condition_row, keywords, parameters_of, spelling_of, text_of}
use Rattle.rd_command.proofs.CommandLaws.{condition_again, either_takes, spelling_takes}

both : (a b : Bool) → (a && b) ≡ true → (a ≡ true) × (b ≡ true)
both true b e = (refl, e)
both false b e = absurd cc

-- ---- operands

-- has the condition at most four operands?
abbrev is_short : ConditionKeyword → Bool
is_short k = nat_le (length (parameters_of (condition_row k))) 4

found_short : (word : List ℕ) (others : List ConditionKeyword) (k : ConditionKeyword) → list_all is_short others ≡ true
    → find (λ k. bytes_eq word (text_of (condition_row k))) others ≡ Some k → is_short k ≡ true
found_short word [] k all e = absurd cc
found_short word (first ∷ others) k all e =
    let short = both (is_short first) (list_all is_short others) all in
    elim (bytes_eq word (text_of (condition_row first))) as
    (λ b. cond b (Some first) (find (λ k. bytes_eq word (text_of (condition_row k))) others) ≡ Some k → is_short k ≡ true) [
      | true ↦ λ e. ap is_short (let one : k ≡ first = cc in one) ∙ short.0
      | false ↦ found_short word others k short.1
    ] e

condition_short : (k : ConditionKeyword) → length (parameters_of (condition_row k)) ≤ 4
condition_short k =
    leb-true (length (parameters_of (condition_row k))) 4 (found_short (text_of (condition_row k)) condition_keywords k refl (condition_again k))

formed_length : (parameters : List CommandParameter) (words : List (List ℕ)) → AreFormed parameters words → length words ≡ length parameters
formed_length [] words h = ap length h
formed_length (parameter ∷ others) words h = ap length h.2 ∙ ap suc (formed_length others h.1 h.4)

-- how many words the operands are at the most
abbrev most_words : Operands → ℕ
most_words (Plain parameters) = length parameters
most_words (WithCondition parameters) = 5 + length parameters

operands_few : (operands : Operands) (words : List (List ℕ)) → AreOperands operands words → length words ≤ most_words operands
operands_few (Plain parameters) words h = omega (arith, formed_length parameters words h)
operands_few (WithCondition parameters) words h =
    let own = parameters_of (condition_row h.0) in
    omega (arith, ap length h.2, formed_length (own ++ parameters) h.1 h.3, length-append own parameters, condition_short h.0)

-- ---- commands

-- has the keyword at most six words behind its first one, with its operands?
abbrev is_few : CommandKeyword → Bool
is_few k = nat_le (length (spelling_of k).more + most_words (spelling_of k).operands) 6

spelled_few : (k : CommandKeyword) (first : List ℕ) (words : List (List ℕ)) (command : CommandView) → is_few k ≡ true
    → command_spelled (spelling_of k) k first words ≡ Some command → length words ≤ 6
spelled_few k first words command few e =
    let of = spelling_of k in
    let taken = spelling_takes of k first words command e in
    omega (
      arith,
      ap length taken.1,
      length-append of.more command.operands,
      operands_few of.operands command.operands taken.2,
      leb-true (length of.more + most_words of.operands) 6 few,
    )

among_few : (others : List CommandKeyword) (first : List ℕ) (words : List (List ℕ)) (command : CommandView) → list_all is_few others ≡ true
    → command_among others first words ≡ Some command → length words ≤ 6
among_few [] first words command all e = absurd cc
among_few (k ∷ others) first words command all e =
    let few = both (is_few k) (list_all is_few others) all in
    either_takes (command_spelled (spelling_of k) k first words) (command_among others first words) command (λ command. length words ≤ 6)
    (λ found is. spelled_few k first words found few.0 is) (among_few others first words command few.1) e

-- What has more words is no command.
pub many_are_none : (first : List ℕ) (words : List (List ℕ)) → nat_le (length words) MAX_WORDS ≡ false → command_from first words ≡ None
unfolding command_from
many_are_none first words many = by (command_among keywords first words) refl
  where
    by : (found : Option CommandView) → command_among keywords first words ≡ found → command_among keywords first words ≡ None
    by None is = is
    by (Some command) is =
        let few = among_few keywords first words command refl is in
        let yes : nat_le (length words) MAX_WORDS ≡ true = le-leb (length words) 6 few in
        let clash : true ≡ false = sym yes ∙ many in
        absurd cc

-- A line with more words behind its first one is no command.
pub longer_is_none : (words : List (List ℕ)) (first : List ℕ) (behind : List (List ℕ)) → words ≡ first ∷ behind
    → nat_le (length behind) MAX_WORDS ≡ false → command_of words ≡ None
longer_is_none words first behind is many = ap command_of is ∙ many_are_none first behind many
