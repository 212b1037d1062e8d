-- Moves as they are kept: a byte each, and beside what some of them carry.
use Rattle.std.specs.Prelude.{ℕ, ◌<◌, ◌==◌, if◌then◌else◌, Bool, true, false, List, [], ◌∷◌, drop}
use Rattle.std.specs.Prelude.{count_by}
use Rattle.rd_moves.specs.Carried.{PlainCarried}
use Rattle.rd_moves.specs.Moves.{PlainMove}
use Rattle.rd_moves.specs.declared.moves.Move.TheVariants.{Carried, Core, Tick}

-- ---- what moves carry

-- Does the move carry something besides its byte?
abbrev pub carries : PlainMove → Bool
carries (Core core) = false
carries Tick = false
carries (Carried carried) = true

-- how many of the moves carry something
abbrev pub carried_in : List PlainMove → ℕ
carried_in moves = count_by carries moves

-- what the move carries, if it carries something
abbrev pub carried_of : PlainMove → List PlainCarried
carried_of (Core core) = []
carried_of Tick = []
carried_of (Carried carried) = carried ∷ []

-- ---- the bytes

-- Does the byte stand for a move that carries something?
abbrev pub is_carried_byte : ℕ → Bool
is_carried_byte byte = byte == 254

-- how many such moves a byte stands for, and how many several do
abbrev pub carried_at : ℕ → ℕ
carried_at byte = if is_carried_byte byte then 1 else 0

abbrev pub carried_among : List ℕ → ℕ
carried_among bytes = count_by is_carried_byte bytes

-- the byte that stands for a move: 255 for a tick, 254 for one that carries something, else the
-- number of the core
abbrev pub byte_of : PlainMove → ℕ
byte_of (Core core) = core
byte_of Tick = 255
byte_of (Carried carried) = 254

-- There are few enough cores for that.
abbrev pub HasByte : PlainMove → Type 0
HasByte (Core core) = core < 254
HasByte Tick = Unit {0}
HasByte (Carried carried) = Unit {0}

-- the move that carries the first of these
abbrev pub next_carried : List PlainCarried → PlainMove
next_carried [] = Tick
next_carried (first ∷ later) = Carried first

-- the move that a byte stands for, where these are carried next
abbrev pub move_of : ℕ → List PlainCarried → PlainMove
move_of byte list =
    if is_carried_byte byte then next_carried list else if byte == 255 then Tick else Core byte

-- the moves that bytes stand for, where each that carries something carries the next of these
abbrev pub decoded : List ℕ → List PlainCarried → List PlainMove
decoded [] list = []
decoded (byte ∷ bytes) list = move_of byte list ∷ decoded bytes (drop (carried_at byte) list)
