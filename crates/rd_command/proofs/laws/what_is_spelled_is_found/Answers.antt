-- The goals of what_is_spelled_is_found that the check left open.
use Rattle.rd_command.proofs.CommandLaws.{what_is_spelled_is_found}
use Rattle.rd_command.proofs.laws.what_is_spelled_is_found.Goals as goal

pub returns : goal.returns
returns c = what_is_spelled_is_found
