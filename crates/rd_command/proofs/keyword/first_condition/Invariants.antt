-- What holds in each turn of first_condition's loop.
use Rattle.std.proofs.Common.{◌≡◌, drop}
use Rattle.rd_command.specs.Tables.{conditions_view, first_condition}
use Rattle.rd_command.proofs.keyword.first_condition.Given as goal

-- the keywords that are left decide
abbrev pub invariant-loop-text : goal.invariant-loop-text
invariant-loop-text l = first_condition l.word (conditions_view (drop l.text-index l.keywords)) ≡ first_condition l.word (conditions_view l.keywords)
