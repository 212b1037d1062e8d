-- What holds in each turn of keyword_with_second's loop.
use Rattle.std.proofs.Common.{◌≡◌, drop}
use Rattle.rd_command.specs.Tables.{command_with_second, longer_view}
use Rattle.rd_command.proofs.command.keyword_with_second.Given as goal

-- the keywords that are left decide
abbrev pub invariant-loop-text : goal.invariant-loop-text
invariant-loop-text l =
    command_with_second (longer_view (drop l.text-index l.rows)) l.second l.words
    ≡ command_with_second (longer_view l.rows) l.second l.words
