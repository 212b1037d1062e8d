-- What a contract sees of a tally.
use Rattle.std.specs.Prelude.{ℕ}

-- the entries, the sessions that are present, and how many entries there may be
pub record TallyView : Type 0 where
  pub entries : ℕ
  pub present : ℕ
  pub limit : ℕ
