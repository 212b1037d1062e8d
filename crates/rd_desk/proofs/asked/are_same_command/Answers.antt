-- The goal of are_same_command that the check left open.
use Rattle.rd_desk.proofs.AskedLaws.{asks_the_same}
use Rattle.rd_desk.proofs.asked.are_same_command.Goals as goal

pub returns : goal.returns
returns c =
    asks_the_same c.args.line.now c.args.other.now c.have_same_words.result c.what_is_spelled_is_found.ensures c.requires.line
    c.requires.other c.have_same_words.ensures
