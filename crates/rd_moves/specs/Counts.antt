-- How many moves a command makes or takes back.
use Rattle.std.specs.Prelude.{ℕ, ◌<◌, ◌≤◌, ◌&&◌, nat_le, nat_lt, if◌then◌else◌}
use Rattle.std.specs.Prelude.{Option, Some, None}
use Rattle.rd_moves.specs.declared.count.TheConstants.{MAX_COUNT}

-- The number is one of moves.
pub record IsCount (number : ℕ) : Type 0 where
  pub some : 0 < number
  pub few : number ≤ MAX_COUNT

-- the number of moves that a number is, if it is one
abbrev pub count_in : ℕ → Option ℕ
count_in number = if nat_lt 0 number && nat_le number MAX_COUNT then Some number else None
