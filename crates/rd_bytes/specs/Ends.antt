-- Bytes that are read from their end, and the numbers that stand there, little-endian.
use Rattle.std.specs.Prelude.{ℕ, ◌+◌, ◌-◌, ◌==◌, if◌then◌else◌, Option, Some, None, List, [], ◌∷◌}
use Rattle.std.specs.Prelude.{length, take, drop, slice_index}
use Rattle.std.specs.Int.{w16, w32, w64, from_le_bytes}

-- the byte so far from the end, 1 the last one
abbrev pub end_byte : ℕ → List ℕ → ℕ
end_byte k bytes = slice_index bytes (length bytes - k)

-- the numbers of two, of four and of eight bytes, of which the last is so far from the end
abbrev pub end_short : ℕ → List ℕ → ℕ
end_short k bytes = from_le_bytes w16 (end_byte (k + 1) bytes ∷ end_byte k bytes ∷ [])

abbrev pub end_word : ℕ → List ℕ → ℕ
end_word k bytes =
    from_le_bytes w32
    (end_byte (k + 3) bytes ∷ end_byte (k + 2) bytes ∷ end_byte (k + 1) bytes ∷ end_byte k bytes
    ∷ [])

abbrev pub end_long : ℕ → List ℕ → ℕ
end_long k bytes =
    from_le_bytes w64
    (end_byte (k + 7) bytes ∷ end_byte (k + 6) bytes ∷ end_byte (k + 5) bytes
    ∷ end_byte (k + 4) bytes ∷ end_byte (k + 3) bytes ∷ end_byte (k + 2) bytes
    ∷ end_byte (k + 1) bytes ∷ end_byte k bytes ∷ [])

-- all but so many bytes at the end
abbrev pub all_but : ℕ → List ℕ → List ℕ
all_but k bytes = take (length bytes - k) bytes

-- the n bytes before the last k
abbrev pub bytes_before : ℕ → ℕ → List ℕ → List ℕ
bytes_before k n bytes = drop (length bytes - (k + n)) (all_but k bytes)

-- a number below 255 in one byte, which is 255 for none, and the number of such a byte
abbrev pub byte_of_number : Option ℕ → ℕ
byte_of_number None = 255
byte_of_number (Some number) = number

abbrev pub number_of_byte : ℕ → Option ℕ
number_of_byte byte = if byte == 255 then None else Some byte
