-- What holds in each turn of command_alone's loop.
use Rattle.std.proofs.Common.{◌≡◌, drop}
use Rattle.rd_command.specs.Tables.{alone_view, command_alone}
use Rattle.rd_command.proofs.command.command_alone.Given as goal

-- the keywords that are left decide
abbrev pub invariant-loop-operands : goal.invariant-loop-operands
invariant-loop-operands l = command_alone (alone_view (drop l.operands-index l.rows)) l.words ≡ command_alone (alone_view l.rows) l.words
