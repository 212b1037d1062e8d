-- What holds in each turn of new's loop.
use Rattle.std.proofs.Common.{◌≡◌, drop, map, string_bytes}
use Rattle.rd_names.specs.NameSets.{names_after, names_among}
use Rattle.rd_text.specs.Names.{AreDistinctNames}
use Rattle.rd_text.specs.Words.{texts}
use Rattle.rd_names.proofs.name_set.NameSet.new.Given as goal

-- the names so far, and the texts that are left
abbrev pub invariant-loop-name : goal.invariant-loop-name
invariant-loop-name l =
    (names_after (map string_bytes l.ordered.keys) (texts (drop l.name-index l.names)) ≡ names_among (texts l.names))
    × AreDistinctNames (map string_bytes l.ordered.keys)
