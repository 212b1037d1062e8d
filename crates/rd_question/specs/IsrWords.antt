-- How a line says an interrupt: its calls, and its options behind them.
use denote.Ref.{Bor}
use Rattle.std.specs.Prelude.{◌≡◌, ◌⊎◌, ◌||◌, ◌==◌, ◌+◌, ◌++◌, ◌∷◌, ℕ, ⊤, Bool, true, false, List, []}
use Rattle.std.specs.Prelude.{Option, None, Some, is_some}
use Rattle.std.specs.Prelude.{IsSome, codes, if◌then◌else◌, length, nat_le, option_map}
use Rattle.std.specs.Str.{bytes_eq, trim}
use Rattle.rd_text.specs.Words.{texts}
use Rattle.rd_goal.specs.Written.{IsNoneOf}
use Rattle.rd_question.specs.Handlers.{AreWordsOf, behind_isr}
use Rattle.rd_question.specs.declared.handler.NoHandler.{NoHandler}
use Rattle.rd_question.specs.declared.handler.NoHandler.TheVariants.{Twice}
use Rattle.rd_question.specs.declared.handler.Said.{Said}

-- ---- the end of a text

abbrev pub has_byte : ℕ → List ℕ → Bool
has_byte byte [] = false
has_byte byte (first ∷ text) = first == byte || has_byte byte text

-- what stands behind the last such byte, and all where there is none
abbrev pub behind_last : ℕ → List ℕ → List ℕ
behind_last byte [] = []
behind_last byte (first ∷ text) =
    if has_byte byte (first ∷ text) then behind_last byte text else first ∷ text

-- what stands before it, and nothing where there is none
abbrev pub before_last : ℕ → List ℕ → List ℕ
before_last byte [] = []
before_last byte (first ∷ text) =
    if has_byte byte text then first ∷ before_last byte text else []

-- the last word of a text
abbrev pub last_word : List ℕ → List ℕ
last_word text = behind_last 32 text

-- what stands before it, without space at either end
abbrev pub before_word : List ℕ → List ℕ
before_word text = trim (before_last 32 text)

-- the last of some calls
abbrev pub last_call : List ℕ → List ℕ
last_call calls = behind_last 59 calls

-- It says whether the last of the calls has three words, beside the `isr` that it may begin with.
abbrev pub IsWhole : List ℕ → Bool → Type 0
IsWhole calls whole = (words : List (Bor (List ℕ)))
    × AreWordsOf (last_call calls) words × (whole ≡ nat_le 3 (length (behind_isr (texts words))))

-- ---- options

-- an option: what it is, and what it says
pub record IsrOption : Type 0 where
  pub name : List ℕ
  pub value : List ℕ

-- what options are called
abbrev pub option_names : List (List ℕ)
option_names = codes "times" ∷ codes "after" ∷ codes "apart" ∷ []

-- what the last two words of a text are as an option, and the calls before them
abbrev pub last_option : List ℕ → IsrOption
last_option text = record { name = last_word (before_word text); value = last_word text }

abbrev pub calls_before : List ℕ → List ℕ
calls_before text = before_word (before_word text)

-- No option stands at the end of the text: what stands before the last two words isn't whole, or the
-- first of these two names none.
abbrev pub IsBare : List ℕ → Type 0
IsBare text =
    IsWhole (calls_before text) false ⊎ IsNoneOf option_names (last_word (before_word text))

-- The text is the calls, and behind them these options.
abbrev pub IsTextOf : List ℕ → List IsrOption → List ℕ → Type 0
IsTextOf calls [] text = text ≡ calls
IsTextOf calls (option ∷ options) text = (front : List ℕ) × IsTextOf front options text
    × IsWhole (calls_before front) true × (calls ≡ calls_before front) × (option ≡ last_option front)

-- what the option of that name says, where there is one
abbrev pub value_of : List ℕ → List IsrOption → Option (List ℕ)
value_of name [] = None
value_of name (option ∷ options) =
    if bytes_eq option.name name then Some option.value else value_of name options

-- Each is said once.
abbrev pub AreOnce : List IsrOption → Type 0
AreOnce [] = ⊤
AreOnce (option ∷ options) = (value_of option.name options ≡ None) × AreOnce options

-- ---- an interrupt

abbrev pub as_text : Option (Bor (List ℕ)) → Option (List ℕ)
as_text said = option_map (λ text. text.now) said

-- how many options are said of an interrupt
abbrev pub one_if : Bool → ℕ
one_if said = if said then 1 else 0

abbrev pub options_said : Said → ℕ
options_said said =
    one_if (is_some said.times) + one_if (is_some said.after) + one_if (is_some said.apart)

-- The text says the interrupt: its calls, and then its options, each once.
pub record SaysIsr (text : List ℕ) (said : Said) : Type 0 where
  pub options : List IsrOption
  pub written : IsTextOf said.calls.now options text
  pub once : AreOnce options
  pub times : as_text said.times ≡ value_of (codes "times") options
  pub after : as_text said.after ≡ value_of (codes "after") options
  pub apart : as_text said.apart ≡ value_of (codes "apart") options

-- The text says the interrupt, in whose calls no option is left.
abbrev pub IsIsrOf : List ℕ → Said → Type 0
IsIsrOf text said = SaysIsr text said × IsBare said.calls.now

-- The text says one of its options twice.
pub record SaysTwice (text : List ℕ) (why : NoHandler) : Type 0 where
  pub calls : List ℕ
  pub one : IsrOption
  pub others : List IsrOption
  pub written : IsTextOf calls (one ∷ others) text
  pub twice : IsSome (value_of one.name others)
  pub option : Bor (List ℕ)
  pub cause : why ≡ Twice option
  pub called : option.now ≡ codes "--" ++ one.name
