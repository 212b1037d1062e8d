-- What holds in each turn of index_of's loop.
use Rattle.std.proofs.Common.{◌≡◌, drop, ok_or}
use Rattle.std.specs.List.{position_from}
use Rattle.std.specs.Str.{bytes_eq}
use Rattle.rd_script.specs.declared.error.AppError.TheVariants as fault
use Rattle.rd_script.specs.Spelling.{index_of}
use Rattle.rd_text.specs.Words.{texts}
use Rattle.rd_script.proofs.reader.index_of.Given as goal

-- the names that are left decide
abbrev pub invariant-loop-index : goal.invariant-loop-index
invariant-loop-index l = ok_or (position_from (bytes_eq l.name) l.index (texts (drop l.index l.names))) fault.Name ≡ index_of (texts l.names) l.name
