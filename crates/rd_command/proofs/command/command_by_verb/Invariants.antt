-- What holds in each turn of command_by_verb's loop.
use Rattle.std.proofs.Common.{◌≡◌, drop}
use Rattle.rd_command.specs.Tables.{command_by_verb, verbs_view}
use Rattle.rd_command.proofs.command.command_by_verb.Given as goal

-- the first words that are left decide
abbrev pub invariant-loop-verb : goal.invariant-loop-verb
invariant-loop-verb l = command_by_verb (verbs_view (drop l.verb-index l.verbs)) l.first l.words ≡ command_by_verb (verbs_view l.verbs) l.first l.words
