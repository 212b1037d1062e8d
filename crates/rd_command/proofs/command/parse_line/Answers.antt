-- The goals of parse_line that the check left open.
use Rattle.rd_text.specs.Words.{words_of}
use Rattle.rd_command.proofs.CommandLaws.{read_spelled, spelled_read}
use Rattle.rd_command.proofs.command.parse_line.Goals as goal

pub returns-clause-spelled : goal.returns-clause-spelled
returns-clause-spelled c = read_spelled c.read_line.result (words_of c.args.line.now) c.read_line.ensures

pub returns-clause-only : goal.returns-clause-only
returns-clause-only c = spelled_read c.read_line.result (words_of c.args.line.now) c.read_line.ensures
