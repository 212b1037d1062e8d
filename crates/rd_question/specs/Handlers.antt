-- How an interrupt is said: what it calls, how often it comes, which one it follows, and how far it is
-- apart.
use denote.Ref.{Bor}
use Rattle.std.specs.Prelude.{◌≡◌, ◌⊎◌, ℕ, ◌==◌, if◌then◌else◌, List, [], ◌∷◌, ◌++◌}
use Rattle.std.specs.Prelude.{Option, None, Some, String, codes, option_and_then, option_map, slice_get}
use Rattle.std.specs.Prelude.{string_bytes}
use Rattle.std.specs.Iterator.{Drains}
use Rattle.std.specs.List.{flat_map, slice_split}
use Rattle.std.specs.Str.{bytes_eq}
use Rattle.std.specs.Str.Iter.{split_whitespace_rest, split_whitespace_steps}
use Rattle.std.specs.declared.alloc.Global.{Global}
use Rattle.std.specs.declared.str.SplitWhitespace.{SplitWhitespace}
use Rattle.rd_text.specs.Words.{number_of, texts}
use Rattle.rd_question.specs.Asked.{AreEach}
use Rattle.rd_question.specs.Numbers.{small_number}
use Rattle.rd_question.specs.declared.handler.Handler.{Handler}
use Rattle.rd_question.specs.declared.handler.NoHandler.{NoHandler}
use Rattle.rd_question.specs.declared.handler.Said.{Said}
use Rattle.rd_question.specs.declared.handler.NoHandler.TheVariants.{After, Apart, NoMemory, Times, Unlimited}

-- ---- its calls

-- The words are what `split_whitespace` gives for the text.
abbrev pub AreWordsOf : List ℕ → List (Bor (List ℕ)) → Type 0
AreWordsOf text words = (it : SplitWhitespace)
    × (split_whitespace_rest it ≡ text) × Drains split_whitespace_steps it words

-- the words without the first, where that is `isr`
abbrev pub behind_isr : List (List ℕ) → List (List ℕ)
behind_isr [] = []
behind_isr (word ∷ words) = if bytes_eq word (codes "isr") then words else word ∷ words

-- the words, each behind a space
abbrev pub each_behind_space : List (List ℕ) → List ℕ
each_behind_space words = flat_map (λ word. 32 ∷ word) words

-- the line of a call that has these words: `isr`, which may already stand there, and the others
abbrev pub isr_line : List (List ℕ) → List ℕ
isr_line words = codes "isr" ++ each_behind_space (behind_isr words)

-- The line is that of the call.
abbrev pub IsLineOf : List ℕ → List ℕ → Type 0
IsLineOf call line =
    (words : List (Bor (List ℕ))) × AreWordsOf call words × (line ≡ isr_line (texts words))

-- the calls of a text: what stands between its semicolons
abbrev pub calls_in : List ℕ → List (List ℕ)
calls_in text = slice_split (λ byte. byte == 59) text

-- The lines are those of the text's calls.
abbrev pub AreLinesOf : List ℕ → List (String Global) → Type 0
AreLinesOf text lines = AreEach (λ call line. IsLineOf call (string_bytes line)) (calls_in text) lines

-- The interrupt makes the calls of the text.
abbrev pub HasCalls : List ℕ → Handler → Type 0
HasCalls text handler = AreLinesOf text handler.lines.items

-- ---- how often, and when

-- how often it comes at the most that says so in this text, where that is limited
abbrev pub times_in : List ℕ → Option (Option ℕ)
times_in text = if bytes_eq text (codes "any") then Some None
    else option_map (λ n. Some n) (small_number 1 text)

-- how often it comes at the most, where that is limited: once, where nothing is said
abbrev pub times_said : Option (Bor (List ℕ)) → Option (Option ℕ)
times_said None = Some (Some 1)
times_said (Some text) = times_in text.now

-- the number of the one that it follows, where one is said
abbrev pub follows_said : Option (Bor (List ℕ)) → Option (Option ℕ)
follows_said None = Some None
follows_said (Some text) = option_map (λ n. Some n) (number_of text.now)

-- how often the one at a place comes at the most, where one is there and that is limited
abbrev pub times_at : List Handler → ℕ → Option ℕ
times_at handlers place = option_and_then (λ handler. handler.times) (slice_get handlers place)

-- how many ticks it is apart: none, where nothing is said
abbrev pub apart_said : Option (Bor (List ℕ)) → Option ℕ
apart_said None = Some 0
apart_said (Some text) = small_number 0 text.now

-- The interrupt is the one of which this is said.
pub record IsSaidBy (said : Said) (handler : Handler) : Type 0 where
  pub calls : HasCalls said.calls.now handler
  pub times : times_said said.times ≡ Some handler.times
  pub follows : follows_said said.after ≡ Some handler.follows
  pub apart : apart_said said.apart ≡ Some handler.apart

-- ---- what is wrong with it

-- What is said of the one that it follows is no number, or the number of none that was said before.
abbrev pub IsWhyNotAfter : Option (Bor (List ℕ)) → List Handler → Type 0
IsWhyNotAfter said before =
    (follows_said said ≡ None)
    ⊎ ((place : ℕ) × (follows_said said ≡ Some (Some place)) × (slice_get before place ≡ None))

-- It follows one that was said before, and one of the two may come any number of times.
abbrev pub IsUnlimited : Option (Bor (List ℕ)) → Option ℕ → List Handler → Type 0
IsUnlimited said times before =
    (place : ℕ) × (follows_said said ≡ Some (Some place))
    × ((times ≡ None) ⊎ (times_at before place ≡ None))

-- One of its options is wrong, or there is no memory.
abbrev pub IsWrong : NoHandler → Type 0
IsWrong cause =
    (cause ≡ Times) ⊎ (cause ≡ After) ⊎ (cause ≡ Unlimited) ⊎ (cause ≡ Apart) ⊎ (cause ≡ NoMemory)
