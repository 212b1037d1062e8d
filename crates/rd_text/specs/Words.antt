-- The words of a line, and what some of them stand for.
use denote.Ref.{Bor}
use Rattle.std.specs.Prelude.{ℕ, ◌≡◌, ◌^◌, ◌&&◌, ◌||◌, ◌==◌, Bool, true, not, nat_lt, nat_le}
use Rattle.std.specs.Prelude.{List, [], ◌∷◌, ◌++◌, codes, length, slice_index, filter, map}
use Rattle.std.specs.Prelude.{if◌then◌else◌, Option, Some, None}
use Rattle.std.specs.List.{slice_split, list_all}
use Rattle.std.specs.Char.{is_ascii_digit}
use Rattle.std.specs.Result.{result_ok}
use Rattle.std.specs.Str.{bytes_eq}
use Rattle.std.specs.Str.Parse.{digits_value}
use Rattle.hex.specs.Hex.{decode_of}

-- the bytes of texts
abbrev pub texts : List (Bor (List ℕ)) → List (List ℕ)
texts names = map (λ name. name.now) names

abbrev pub is_space : ℕ → Bool
is_space byte = byte == 32

abbrev pub is_some_word : List ℕ → Bool
is_some_word part = nat_lt 0 (length part)

-- what stands between the spaces
abbrev pub words_of : List ℕ → List (List ℕ)
words_of line = filter is_some_word (slice_split is_space line)

-- the value of 1 to 10 decimal digits, if it is at most 4,294,967,295
abbrev pub number_of : List ℕ → Option ℕ
number_of word =
    if is_some_word word
    && nat_le (length word) 10
    && list_all is_ascii_digit word
    && nat_lt (digits_value 10 word) (2 ^ 32)
    then Some (digits_value 10 word)
    else None

abbrev pub is_letter : ℕ → Bool
is_letter byte = nat_le 97 byte && nat_le byte 122

abbrev pub is_name_byte : ℕ → Bool
is_name_byte byte = is_letter byte || is_ascii_digit byte || byte == 95

-- is it 1 to 16 of `a` to `z`, `0` to `9` and `_`, the first a letter?
abbrev pub is_name : List ℕ → Bool
is_name word =
    nat_le (length word) 16 && is_letter (slice_index word 0) && list_all is_name_byte word

abbrev pub name_of : List ℕ → Option (List ℕ)
name_of word = if is_name word then Some word else None

-- `-` for no bytes, or 1 to 256 bytes as pairs of hexadecimal digits of either case
abbrev pub bytes_of : List ℕ → Option (List ℕ)
bytes_of word =
    if bytes_eq word (codes "-") then Some []
    else if is_some_word word && nat_le (length word) 512 then result_ok (decode_of word)
    else None

-- ---- the words of a line, as spaces and words in a row

abbrev pub is_solid : ℕ → Bool
is_solid byte = not (is_space byte)

-- is it at least one byte, and no space?
abbrev pub is_word : List ℕ → Bool
is_word word = is_some_word word && list_all is_solid word

-- is a word over before this: at a space, or at the end?
abbrev pub ends_word : List ℕ → Bool
ends_word [] = true
ends_word (byte ∷ rest) = is_space byte

-- Spaces may stand before each word and after the last. A word goes on up to a space or the end.
abbrev pub AreWords : List (List ℕ) → List ℕ → Type 0
AreWords [] line = list_all is_space line ≡ true
AreWords (word ∷ words) line =
    (gap : List ℕ)
    × (rest : List ℕ)
    × (line ≡ gap ++ (word ++ rest))
    × (list_all is_space gap ≡ true)
    × (is_word word ≡ true)
    × (ends_word rest ≡ true)
    × AreWords words rest
