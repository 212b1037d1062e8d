-- Bytes as they stand in a line.
use Rattle.std.specs.Prelude.{ℕ, Bool, List, is_some}
use Rattle.rd_text.specs.Words.{bytes_of}

-- is the word bytes?
abbrev pub is_data : List ℕ → Bool
is_data word = is_some (bytes_of word)
