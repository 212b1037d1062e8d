-- The goal of read_line that the check left open.
use Rattle.std.proofs.Common.{◌∙◌, sym}
use Rattle.rd_text.specs.Words.{words_of}
use Rattle.rd_command.proofs.LengthLaws.{longer_is_none}
use Rattle.rd_command.proofs.command.read_line.Goals as goal

pub returns-then-not-read : goal.returns-then-not-read
returns-then-not-read c =
    sym
    (longer_is_none (words_of c.args.line.now) c.in-Some.first.now c.next.new.self (sym c.words_in-words.ensures ∙ c.in-Some.ensures.steps)
    (sym c.if-not-read.ensures.few))
