-- A text in which nothing stands behind a space.
use Rattle.std.proofs.Common.{◌≡◌, ◌+◌, ℕ, List, [], length, arith, sym}
use Rattle.std.proofs.lemmas.List.{drop_all}
use Rattle.std.specs.List.{after_first, position_or_len}
use Rattle.rd_question.specs.Said.{is_blank}

pub nothing_behind : (text : List ℕ) → position_or_len is_blank text ≡ length text → [] ≡ after_first is_blank text
nothing_behind text e = sym (drop_all (position_or_len is_blank text + 1) text (omega (arith, e)))
