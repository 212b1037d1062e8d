-- The command that a line asks for.
use Rattle.std.proofs.Common.{◌≡◌, ◌↔◌, ◌∙◌, ℕ, List, ◌∷◌, ◌++◌, ap, refl, sym}
use Rattle.std.specs.Prelude.{IsSome, IsTrue, Option, None, Some, Bool, unwrap_or}
use Rattle.rd_text.specs.Words.{words_of}
use Rattle.rd_command.specs.Commands.{CommandView, FindsWhatIsSpelled, command_of}
use Rattle.rd_command.specs.Keywords.{spelling_of}
use Rattle.rd_desk.specs.Asked.{asked_by, no_command}

-- a line that is a command's asks for it
some_asked : (o : Option CommandView) → IsSome o → o ≡ Some (unwrap_or o no_command)
some_asked (Some command) some = refl
some_asked None some = absurd cc

same_words : (words others : List (List ℕ)) (a b : CommandView) → FindsWhatIsSpelled → command_of words ≡ Some a → command_of others ≡ Some b
    → a ≡ b → words ≡ others
same_words words others a b law one other same =
    let written = ((law words a).0 one).written in
    let other_written = ((law others b).0 other).written in
    written
    ∙ ap (λ (c : CommandView). (spelling_of c.keyword).verb ∷ ((spelling_of c.keyword).more ++ c.operands)) same
    ∙ sym other_written

same_command : (words others : List (List ℕ)) (a b : CommandView) → command_of words ≡ Some a → command_of others ≡ Some b → words ≡ others → a ≡ b
same_command words others a b one other same =
    let whole : Some a ≡ Some b = sym one ∙ ap command_of same ∙ other in cc

-- Two lines of commands ask for the same exactly where they have the same words.
pub asks_the_same : (line other : List ℕ) (same : Bool) → FindsWhatIsSpelled → IsSome (command_of (words_of line))
    → IsSome (command_of (words_of other)) → (IsTrue same ↔ (words_of line ≡ words_of other)) → (IsTrue same ↔ (asked_by line ≡ asked_by other))
asks_the_same line other same law one two tells =
    let is = some_asked (command_of (words_of line)) one in
    let is_other = some_asked (command_of (words_of other)) two in (
      λ yes. same_command (words_of line) (words_of other) (asked_by line) (asked_by other) is is_other (tells.0 yes),
      λ equal. tells.1 (same_words (words_of line) (words_of other) (asked_by line) (asked_by other) law is is_other equal),
    )
