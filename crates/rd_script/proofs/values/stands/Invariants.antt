-- What holds in each turn of stands's loop.
use Rattle.std.proofs.Common.{◌≡◌, drop}
use Rattle.std.specs.List.{list_any}
use Rattle.std.specs.Str.{bytes_eq}
use Rattle.rd_text.specs.Words.{texts}
use Rattle.rd_script.proofs.values.stands.Given as goal

-- the names that are left decide
abbrev pub invariant-loop-other : goal.invariant-loop-other
invariant-loop-other l = list_any (bytes_eq l.name) (texts (drop l.other-index l.names)) ≡ list_any (bytes_eq l.name) (texts l.names)
