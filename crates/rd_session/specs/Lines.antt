-- How bytes are read, and cut into lines.
use Rattle.std.specs.Prelude.{ℕ, ◌≡◌, ◌==◌, ◌-◌, ◌&&◌, Bool, true, false, List, [], ◌∷◌, ◌++◌}
use Rattle.std.specs.Prelude.{length, take, nat_lt, slice_index, if◌then◌else◌, Option, Some, None}
use Rattle.std.specs.Io.KnownBytes.{Consumes}
use Rattle.std.specs.List.{position_or_len}
use Rattle.rd_session.specs.declared.lines.Front.{Front}
use Rattle.rd_session.specs.declared.lines.Front.TheVariants as front

-- ---- what is read

-- So many bytes of what the source still had were put behind those that were there.
pub record AddsRead (old new : List ℕ) (had has : Option (List ℕ)) (count : ℕ) : Type 0 where
  pub bytes : List ℕ
  pub len : length bytes ≡ count
  pub added : new ≡ old ++ bytes
  pub consumed : Consumes had has bytes

abbrev pub is_feed : ℕ → Bool
is_feed byte = byte == 10

-- What stands at the front: a whole line of at most 1,024 bytes before its LF, a line that has
-- more, or the beginning of a line.
abbrev pub front_of : List ℕ → Front
front_of bytes =
    let len = position_or_len is_feed bytes in
    if nat_lt 1024 len then front.TooLong
    else if nat_lt len (length bytes) then front.Line len
    else front.Part

-- the line without one CR at its end
abbrev pub without_return : List ℕ → List ℕ
without_return line =
    if nat_lt 0 (length line) && slice_index line (length line - 1) == 13
    then take (length line - 1) line
    else line

-- ---- the lines of all that was read

-- a line without its LF and one CR before that, or one that has more than 1,024 bytes
pub data Line : Type 0 where
  Whole : List ℕ → Line
  Long : Line

-- The lines that bytes end, where the beginning of a line stands before them. Behind one that is
-- too long nothing is a line; None stands there.
abbrev pub lines_from : Option (List ℕ) → List ℕ → List Line
lines_from None bytes = []
lines_from (Some held) [] = []
lines_from (Some held) (byte ∷ bytes) =
    if is_feed byte then Whole (without_return held) ∷ lines_from (Some []) bytes
    else if nat_lt (length held) 1024 then lines_from (Some (held ++ byte ∷ [])) bytes
    else Long ∷ []

-- the beginning of a line that stands behind the last of them, or None behind one that is too long
abbrev pub rest_from : Option (List ℕ) → List ℕ → Option (List ℕ)
rest_from None bytes = None
rest_from (Some held) [] = Some held
rest_from (Some held) (byte ∷ bytes) =
    if is_feed byte then rest_from (Some []) bytes
    else if nat_lt (length held) 1024 then rest_from (Some (held ++ byte ∷ [])) bytes
    else None

-- the line that the end of the input ends
abbrev pub last_of : Option (List ℕ) → List Line
last_of None = []
last_of (Some []) = []
last_of (Some (byte ∷ bytes)) = Whole (byte ∷ bytes) ∷ []

-- the lines of all that was read; where the input has ended, what stands behind the last LF is a
-- line too
abbrev pub lines_of : List ℕ → Bool → List Line
lines_of bytes true = lines_from (Some []) bytes ++ last_of (rest_from (Some []) bytes)
lines_of bytes false = lines_from (Some []) bytes
