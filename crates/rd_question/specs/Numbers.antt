-- Numbers that a word writes.
use Rattle.std.specs.Prelude.{ℕ, ◌&&◌, List, Option, None, Some, if◌then◌else◌, nat_le}
use Rattle.rd_text.specs.Words.{number_of}

-- the number, if it is one of these
abbrev pub if_within : ℕ → ℕ → Option ℕ → Option ℕ
if_within least most None = None
if_within least most (Some number) =
    if nat_le least number && nat_le number most then Some number else None

-- the number that the word writes, if it is one of these
abbrev pub number_within : ℕ → ℕ → List ℕ → Option ℕ
number_within least most word = if_within least most (number_of word)

-- the number of at least so much that the word writes, up to 255
abbrev pub small_number : ℕ → List ℕ → Option ℕ
small_number least word = number_within least 255 word
