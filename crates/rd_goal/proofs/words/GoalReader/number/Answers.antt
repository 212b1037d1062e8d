use Rattle.std.proofs.Common.{sym}
use Rattle.rd_goal.proofs.WordLaws.{reads_one}
use Rattle.rd_goal.specs.Written.{Numeral}
use Rattle.rd_goal.proofs.words.GoalReader.number.Goals as goal

pub returns-in-Some-clause-read : goal.returns-in-Some-clause-read
returns-in-Some-clause-read c =
    reads_one (Numeral c.in-Some.number) c.args.self.now c.next.new.self c.in_ok-word.word.now (sym c.in-Some.ensures)
    c.in_ok-word.ensures.read c.in_ok-word.ensures.source
