-- Which of some texts are kept as names.
use Rattle.std.specs.Prelude.{ℕ, ◌&&◌, not, List, [], ◌∷◌, ◌++◌, if◌then◌else◌}
use Rattle.std.specs.List.{list_any}
use Rattle.std.specs.Str.{bytes_eq}
use Rattle.rd_text.specs.Words.{is_name}

-- a text goes last among the names if it is one, and none of them
abbrev pub with_name : List (List ℕ) → List ℕ → List (List ℕ)
with_name names text =
    if is_name text && not (list_any (bytes_eq text) names) then names ++ text ∷ [] else names

-- the names before, and those of the texts
abbrev pub names_after : List (List ℕ) → List (List ℕ) → List (List ℕ)
names_after names [] = names
names_after names (text ∷ texts) = names_after (with_name names text) texts

-- the texts, but for one that is no name or stands before
abbrev pub names_among : List (List ℕ) → List (List ℕ)
names_among texts = names_after [] texts
