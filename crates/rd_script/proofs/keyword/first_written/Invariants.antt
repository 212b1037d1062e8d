-- What holds in each turn of first_written's loop.
use Rattle.std.proofs.Common.{◌≡◌, drop}
use Rattle.rd_script.specs.Keywords.{first_written, texts_view}
use Rattle.rd_script.proofs.keyword.first_written.Given as goal

-- the keywords that are left decide
abbrev pub invariant-loop-text : goal.invariant-loop-text
invariant-loop-text l = first_written l.word (texts_view (drop l.text-index l.keywords)) ≡ first_written l.word (texts_view l.keywords)
