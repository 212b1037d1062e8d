-- Records, one after the other, read from the end of bytes.
use Rattle.std.specs.Prelude.{ℕ, zero, suc, ◌≡◌, ◌+◌, ◌-◌, ◌*◌, ◌≤◌, List, [], ◌∷◌, ◌++◌, ⊤}
use Rattle.std.specs.Prelude.{drop, take, length, slice_index_or, sum_by}
use Rattle.std.specs.Int.{w32, to_le_bytes}
use Rattle.rd_bytes.specs.Ends.{all_but, end_word}
use Rattle.rd_state.specs.Change.{Change, saved_bytes}
use Rattle.rd_state.specs.PackedChanges.{all_packed, changes_in, AreChanges}

-- what stands behind the changes of a record: the number of their bytes, and how many they are
abbrev pub trailer : ℕ → ℕ → List ℕ
trailer size count = to_le_bytes w32 size ++ to_le_bytes w32 count

-- the bytes of a record: its changes in the order of recording, and the two numbers
abbrev pub record_packed : List Change → List ℕ
record_packed undo = all_packed undo ++ trailer (length (all_packed undo)) (length undo)

-- the two numbers of the last record
abbrev pub body_size : List ℕ → ℕ
body_size bytes = end_word 5 bytes

abbrev pub change_count : List ℕ → ℕ
change_count bytes = end_word 1 bytes

abbrev pub record_size : List ℕ → ℕ
record_size bytes = 8 + body_size bytes

-- the bytes of its changes, and those before it
abbrev pub last_body : List ℕ → List ℕ
last_body bytes = take (body_size bytes) (drop (length bytes - record_size bytes) bytes)

abbrev pub last_record : List ℕ → List Change
last_record bytes = changes_in (change_count bytes) (last_body bytes)

abbrev pub before_record : List ℕ → List ℕ
before_record bytes = all_but (record_size bytes) bytes

-- so many records, the last one at the end of the bytes
abbrev pub records_in : ℕ → List ℕ → List (List Change)
records_in zero bytes = []
records_in (suc n) bytes = records_in n (before_record bytes) ++ last_record bytes ∷ []

-- A record is there, whole.
pub record EndsInRecord (bytes : List ℕ) : Type 0 where
  pub trailer : 8 ≤ length bytes
  pub room : record_size bytes ≤ length bytes
  pub are : AreChanges (change_count bytes) (last_body bytes)

-- The last n records are there, whole.
abbrev pub HasLast : ℕ → List ℕ → Type 0
HasLast zero bytes = ⊤
HasLast (suc n) bytes = EndsInRecord bytes × HasLast n (before_record bytes)

-- where the last n records begin
abbrev pub start_of_last : ℕ → List ℕ → ℕ
start_of_last zero bytes = length bytes
start_of_last (suc n) bytes = start_of_last n (before_record bytes)

-- The bytes are so many packed records, and no more.
abbrev pub AreRecords : ℕ → List ℕ → Type 0
AreRecords zero bytes = bytes ≡ []
AreRecords (suc n) bytes =
    EndsInRecord bytes × (before_record bytes ++ record_packed (last_record bytes) ≡ bytes)
    × AreRecords n (before_record bytes)

-- the bytes of records, one after the other
abbrev pub records_packed : List (List Change) → List ℕ
records_packed [] = []
records_packed (undo ∷ later) = record_packed undo ++ records_packed later

-- What a contract sees of packed records: the records; for how many bytes there is room; how many
-- bytes were read so far.
pub record PackedView : Type 0 where
  pub records : List (List Change)
  pub capacity : ℕ
  pub read : ℕ

-- how many bytes changes save
abbrev pub saved_of : List Change → ℕ
saved_of undo = sum_by saved_bytes undo

-- A record takes at most 16 bytes a change, those that its changes save, and 8.
abbrev pub TakesLittle : List Change → Type 0
TakesLittle undo = length (record_packed undo) ≤ 16 * length undo + saved_of undo + 8

-- the last of the records
abbrev pub last_of_all : List (List Change) → List Change
last_of_all all = slice_index_or all (length all - 1) []
