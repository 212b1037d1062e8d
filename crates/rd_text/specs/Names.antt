-- Names of one kind.
use Rattle.std.specs.Prelude.{ℕ, ◌≡◌, ◌&&◌, Bool, true, not, List, [], ◌∷◌}
use Rattle.std.specs.List.{list_all, list_any}
use Rattle.std.specs.Str.{bytes_eq}
use Rattle.rd_text.specs.Words.{is_name}

-- does none of the names stand again later?
abbrev pub are_distinct : List (List ℕ) → Bool
are_distinct [] = true
are_distinct (name ∷ names) = not (list_any (bytes_eq name) names) && are_distinct names

-- names of one kind
pub record AreDistinctNames (names : List (List ℕ)) : Type 0 where
  pub named : list_all is_name names ≡ true
  pub distinct : are_distinct names ≡ true
