-- What holds in each turn of are_formed's loop.
use Rattle.std.proofs.Common.{◌≡◌, drop}
use Rattle.rd_script.specs.Spelling.{are_formed}
use Rattle.rd_script.proofs.reader.Reader.are_formed.Given as goal

-- the operands and words that are left decide
abbrev pub invariant-loop-parameter : goal.invariant-loop-parameter
invariant-loop-parameter l =
    are_formed l.self.scope l.self.len (drop l.parameter-index l.parameters) l.words ≡ are_formed l.self.scope l.self.len l.parameters l.self.words
