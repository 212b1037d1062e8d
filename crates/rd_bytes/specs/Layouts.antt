-- A change as bytes: those that it carries, its fields, of so many bytes each, and the tag, which
-- says how wide they are.
use Rattle.std.specs.Prelude.{ℕ, ◌+◌, ◌^◌, ◌<◌, ◌≤◌, ◌≡◌, List, [], ◌∷◌, ◌++◌, length}
use Rattle.std.specs.Prelude.{Option, IfSome}
use Rattle.std.specs.Int.{w16, w32, w64, to_le_bytes}
use Rattle.rd_bytes.specs.Ends.{all_but, bytes_before, end_byte, end_short, end_word, end_long}
use Rattle.rd_bytes.specs.Tags.{last_kind}
use Rattle.rd_bytes.specs.declared.tag.TheConstants.{INS_WAIT}

-- how wide a field is: a byte, or a number of two, of four or of eight; or it is the number, of
-- two, of the bytes that the change carries
pub data Width : Type 0 where
  Byte : Width
  Short : Width
  Word : Width
  Long : Width
  Count : Width

-- how many bytes a field takes, and which numbers fit in them
abbrev pub width_size : Width → ℕ
width_size Byte = 1
width_size Short = 2
width_size Word = 4
width_size Long = 8
width_size Count = 2

abbrev pub FitsWidth : Width → ℕ → Type 0
FitsWidth Byte number = number < 256
FitsWidth Short number = number < 65536
FitsWidth Word number = number < 2 ^ 32
FitsWidth Long number = number < 2 ^ 64
FitsWidth Count number = number < 65536

-- the bytes of a field, and the number of the one whose last byte is so far from the end
abbrev pub bytes_of : Width → ℕ → List ℕ
bytes_of Byte number = number ∷ []
bytes_of Short number = to_le_bytes w16 number
bytes_of Word number = to_le_bytes w32 number
bytes_of Long number = to_le_bytes w64 number
bytes_of Count number = to_le_bytes w16 number

abbrev pub end_number : Width → ℕ → List ℕ → ℕ
end_number Byte k bytes = end_byte k bytes
end_number Short k bytes = end_short k bytes
end_number Word k bytes = end_word k bytes
end_number Long k bytes = end_long k bytes
end_number Count k bytes = end_short k bytes

-- the same of fields one after the other; of those at the end of bytes the tag stands behind them
abbrev pub size : List Width → ℕ
size [] = 0
size (width ∷ later) = width_size width + size later

abbrev pub FitWidths : List Width → List ℕ → Type 0
FitWidths [] [] = Unit {0}
FitWidths [] (field ∷ fields) = ⊥
FitWidths (width ∷ later) [] = ⊥
FitWidths (width ∷ later) (field ∷ fields) = FitsWidth width field × FitWidths later fields

abbrev pub encoded : List Width → List ℕ → List ℕ
encoded [] fields = []
encoded (width ∷ later) [] = []
encoded (width ∷ later) (field ∷ fields) = bytes_of width field ++ encoded later fields

abbrev pub last_fields : List Width → List ℕ → List ℕ
last_fields [] bytes = []
last_fields (width ∷ later) bytes =
    end_number width (2 + size later) bytes ∷ last_fields later bytes

-- how many bytes are carried with these fields
abbrev pub count_in : List Width → List ℕ → ℕ
count_in [] fields = 0
count_in (width ∷ later) [] = 0
count_in (Byte ∷ later) (field ∷ fields) = count_in later fields
count_in (Short ∷ later) (field ∷ fields) = count_in later fields
count_in (Word ∷ later) (field ∷ fields) = count_in later fields
count_in (Long ∷ later) (field ∷ fields) = count_in later fields
count_in (Count ∷ later) (field ∷ fields) = field

-- How the changes of a kind of object are laid out: how wide the fields before a tag are; a change
-- of an object as its tag, its fields and what it carries; the object and the change of those; and
-- the number of a change that may be none, which is a byte (`byte_of_number`).
pub record Layout (Change : Type 0) : Type 0 where
  pub kind : ℕ
  pub widths : ℕ → List Width
  pub row : ℕ → Change → ℕ × List ℕ × List ℕ
  pub read : ℕ → List ℕ → List ℕ → ℕ × Change
  pub optional : Change → Option ℕ

-- ---- a change of an object as bytes, and whether it fits in them: for the object, whatever
-- the change, and for its fields, and the number that may be none is not the one that says so

abbrev pub row_widths : {Change : Type 0} → Layout Change → ℕ → Change → List Width
row_widths layout object change = layout.widths (layout.row object change).0

abbrev pub laid_out : {Change : Type 0} → Layout Change → ℕ → Change → List ℕ
laid_out layout object change =
    (layout.row object change).2
    ++ (encoded (row_widths layout object change) (layout.row object change).1
    ++ (layout.row object change).0 ∷ [])

abbrev pub FitsLayout : {Change : Type 0} → Layout Change → ℕ → Change → Type 0
FitsLayout layout object change =
    (object < 256) × FitWidths (row_widths layout object change) (layout.row object change).1
    × IfSome (layout.optional change) (λ n. n < 255)

-- ---- the change at the end of bytes

abbrev pub last_widths : {Change : Type 0} → Layout Change → List ℕ → List Width
last_widths layout bytes = layout.widths (end_byte 1 bytes)

abbrev pub last_count : {Change : Type 0} → Layout Change → List ℕ → ℕ
last_count layout bytes =
    count_in (last_widths layout bytes) (last_fields (last_widths layout bytes) bytes)

-- the object that changes, and the change of it
abbrev pub last_row : {Change : Type 0} → Layout Change → List ℕ → ℕ × Change
last_row layout bytes =
    layout.read (end_byte 1 bytes) (last_fields (last_widths layout bytes) bytes)
    (bytes_before (1 + size (last_widths layout bytes)) (last_count layout bytes) bytes)

-- how many bytes it takes
abbrev pub last_length : {Change : Type 0} → Layout Change → List ℕ → ℕ
last_length layout bytes = 1 + size (last_widths layout bytes) + last_count layout bytes

-- A change is there, whole.
pub record EndsInRow {Change : Type 0} (layout : Layout Change) (bytes : List ℕ) : Type 0 where
  pub some : 1 ≤ length bytes
  pub whole : last_length layout bytes ≤ length bytes

-- This change of that object is at the end of bytes, behind the rest of them.
pub record IsLaidAtEnd {Change : Type 0} (layout : Layout Change) (bytes rest : List ℕ)
    (object : ℕ) (change : Change) : Type 0 where
  pub ends : EndsInRow layout bytes
  pub tag : INS_WAIT ≤ end_byte 1 bytes
  pub kind : last_kind bytes ≡ layout.kind
  pub same : last_row layout bytes ≡ (object, change)
  pub before : all_but (last_length layout bytes) bytes ≡ rest

-- Whichever change it is, behind whichever bytes it is put.
abbrev pub EachRowIsReadBack : {Change : Type 0} → Layout Change → Type 0
EachRowIsReadBack layout = (rest : List ℕ) (object : ℕ) (change : _) → FitsLayout layout object change
    → IsLaidAtEnd layout (rest ++ laid_out layout object change) rest object change
