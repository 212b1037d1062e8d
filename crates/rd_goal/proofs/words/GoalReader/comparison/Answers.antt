use Rattle.rd_goal.proofs.WordLaws.{reads_one}
use Rattle.rd_goal.specs.Written.{Itself, comparison_word}
use Rattle.rd_goal.proofs.words.GoalReader.comparison.Goals as goal

pub returns-in-Some-clause-read : goal.returns-in-Some-clause-read
returns-in-Some-clause-read c =
    reads_one (Itself (comparison_word c.in-Some.comparison)) c.args.self.now c.next.new.self c.in_ok-next.field-0.now c.in-Some.ensures.said
    c.in_ok-next.ensures.read c.in_ok-next.ensures.source
