-- A law of stream buffers, in its own words: bytes come out in the order in which they went in.
use Rattle.std.specs.Prelude.{ℕ, ◌≡◌, List, [], ◌∷◌, ◌++◌, length, map, take}
use Rattle.std.specs.List.{concat}
use Rattle.rd_stream.specs.StreamChanges.{stream_applied, StreamChange, PushBytes, TakeBytes}
use Rattle.rd_stream.specs.StreamChanges.{StreamFits}
use Rattle.rd_stream.specs.StreamSnapshot.{StreamSnapshot}

-- these bytes are written, or so many are read
pub data StreamAccess : Type 0 where
  Write : List ℕ → StreamAccess
  Read : ℕ → StreamAccess

-- the change by which that is done
abbrev pub change_of_access : StreamAccess → StreamChange
change_of_access (Write bytes) = PushBytes bytes
change_of_access (Read count) = TakeBytes count

abbrev pub accessed : StreamSnapshot → StreamAccess → StreamSnapshot
accessed stream access = stream_applied stream (change_of_access access)

-- the buffer after several, one after the other
abbrev pub all_accessed : StreamSnapshot → List StreamAccess → StreamSnapshot
all_accessed stream [] = stream
all_accessed stream (access ∷ later) = all_accessed (accessed stream access) later

-- Each fits where it comes: there is space for what is written, and what is read is there.
abbrev pub EachFits : StreamSnapshot → List StreamAccess → Type 0
EachFits stream [] = Unit {0}
EachFits stream (access ∷ later) =
    StreamFits stream (change_of_access access) × EachFits (accessed stream access) later

-- what each write puts in
abbrev pub writes : List StreamAccess → List (List ℕ)
writes [] = []
writes (Write bytes ∷ later) = bytes ∷ writes later
writes (Read count ∷ later) = writes later

-- how many bytes each read asks for, and those that it gives
abbrev pub counts_asked : List StreamAccess → List ℕ
counts_asked [] = []
counts_asked (Write bytes ∷ later) = counts_asked later
counts_asked (Read count ∷ later) = count ∷ counts_asked later

abbrev pub reads : StreamSnapshot → List StreamAccess → List (List ℕ)
reads stream [] = []
reads stream (Write bytes ∷ later) = reads (accessed stream (Write bytes)) later
reads stream (Read count ∷ later) =
    take count stream.bytes ∷ reads (accessed stream (Read count)) later

-- What was there and then all that was written is all that was read and then what is there now. So
-- none is lost, none comes twice, and they come in their order. Each read gives what it asks for.
pub record ComeOutInOrder (stream : StreamSnapshot) (accesses : List StreamAccess) : Type 0 where
  pub order : stream.bytes ++ concat (writes accesses)
      ≡ concat (reads stream accesses) ++ (all_accessed stream accesses).bytes
  pub counts : map length (reads stream accesses) ≡ counts_asked accesses

-- whichever writes and reads they are, at whichever buffer they fit
abbrev pub BytesComeOutInOrder : Type 0
BytesComeOutInOrder = (stream : StreamSnapshot) (accesses : List StreamAccess)
    → EachFits stream accesses → ComeOutInOrder stream accesses
