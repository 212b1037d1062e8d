-- What holds in each turn of texts's loop.
use Rattle.std.proofs.Common.{◌≡◌, ◌≤◌, take}
use Rattle.std.specs.Prelude.{vec_capacity, vec_len}
use Rattle.rd_text.specs.Words.{texts}
use Rattle.rd_names.proofs.name_set.NameSet.texts.Given as goal

abbrev pub invariant-loop-number : goal.invariant-loop-number
invariant-loop-number l =
    (texts l.names.items ≡ take l.number l.self) × (vec_len l.names ≡ l.number) × (l.count ≤ vec_capacity l.names)
